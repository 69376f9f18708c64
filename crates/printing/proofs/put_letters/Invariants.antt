-- With the letters of the stations that are left, all are appended.
use Rattle.std.proofs.Common.{ℕ, List, length, ◌≤◌}
use Rattle.text.specs.Appended.{Appended}
use Rattle.script.specs.Lines.{letters_of}
use Rattle.printing.proofs.put_letters.Given as goal

abbrev pub invariant-loop-station : goal.invariant-loop-station
invariant-loop-station l =
    let left = l.station-iterator in
    (l.next ≤ length l.out)
    × ((after : List ℕ) (last : ℕ) → Appended l.out l.next (letters_of left.n left.iter.rest.now) after last
    → Appended l.initial.out l.initial.next (letters_of l.used l.fn.stations) after last)
