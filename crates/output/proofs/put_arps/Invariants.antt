-- `output::put_arps` meets its contract. The loop's invariant: the frames of the first addresses stand.
-- Assumes nothing.
use Rattle.std.proofs.Common.{◌≡◌, ◌*◌, ◌≤◌, length, take, drop}
use Rattle.writing.specs.Writing.{over}
use Rattle.output.specs.Output.{arps_of}
use Rattle.output.proofs.put_arps.Given as goal

abbrev pub invariant-loop-k : goal.invariant-loop-k
invariant-loop-k l =
    record {
      size : l.k-iterator.iter.size ≡ 4;
      left : l.k-iterator.iter.rest.now ≡ drop (4 * l.k-iterator.count) l.list.bytes.now;
      within : 4 * l.k-iterator.count ≤ length l.list.bytes.now;
      written : l.room ≡ over (arps_of l.vrid (take (4 * l.k-iterator.count) l.list.bytes.now)) l.initial.room;
      long : length l.room ≡ length l.initial.room;
    }
