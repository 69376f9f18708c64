-- The bytes so far are appended.
use Rattle.std.proofs.Common.{take}
use Rattle.text.specs.Appended.{Appended}
use Rattle.text.proofs.put.Given as goal

abbrev pub invariant-loop-byte : goal.invariant-loop-byte
invariant-loop-byte l = Appended l.fn.out l.at (take l.byte-index l.bytes) l.out l.next
