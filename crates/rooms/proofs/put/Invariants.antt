-- The first k bytes are pasted.
use Rattle.std.proofs.Common.{◌≡◌, length}
use Rattle.std.proofs.Math.Seq.{paste}
use Rattle.rooms.proofs.put.Given as goal

abbrev pub invariant-loop-k : goal.invariant-loop-k
invariant-loop-k l = (l.room ≡ paste l.initial.room l.at l.bytes l.k) × (length l.room ≡ length l.initial.room)
