-- One store, or nothing past the end.
use Rattle.std.proofs.Common.{arith, refl}
use Rattle.text.specs.Appended.{puts}
use Rattle.text.proofs.Appending.{appended, appended_past}
use Rattle.text.proofs.put_byte.Goals as goal

pub returns-then-at-out : goal.returns-then-at-out
unfolding puts
returns-then-at-out c = appended refl (omega arith)

pub returns : goal.returns
returns c = appended_past _ _ _ c.if-at-out.false
