-- The buffer keeps its length, what was written goes before what is still to come, and each turn leaves less of the script.
use Rattle.std.proofs.Common.{length, List, ℕ, ◌++◌, ◌≡◌}
use Rattle.std.specs.Io.KnownBytes.{Appends}
use Rattle.script.specs.Progress.{started}
use Rattle.rehearsal.specs.Run.{left_of}
use Rattle.pieces.specs.Theorems.{Pieces}
use Rattle.rehearse.proofs.rehearse.Given as goal

abbrev pub invariant-loop-now : goal.invariant-loop-now
invariant-loop-now g l =
    (length l.out ≡ 65536)
    × ((text : List ℕ) × Appends (g.W.Write.contents l.fn.output) (g.W.Write.contents l.output) text
    × ((rest : List ℕ) → Pieces l.script l.now rest → Pieces l.script started (text ++ rest)))

abbrev pub decreases-loop-now : goal.decreases-loop-now
decreases-loop-now g l = left_of l.script l.now
