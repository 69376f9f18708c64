-- The bytes so far are appended, in hexadecimal.
use Rattle.std.proofs.Common.{take}
use Rattle.text.specs.Appended.{Appended}
use Rattle.text.specs.Digits.{hex_of}
use Rattle.text.proofs.put_hex.Given as goal

abbrev pub invariant-loop-byte : goal.invariant-loop-byte
invariant-loop-byte l = Appended l.fn.out l.at (hex_of (take l.byte-index l.bytes)) l.out l.next
