-- Each turn appends one byte more, in hexadecimal.
use Rattle.text.proofs.Appending.{appended_none, then_as}
use Rattle.text.proofs.Spelling.{hex_more}
use Rattle.text.proofs.put_hex.Goals as goal

pub loop-byte-init : goal.loop-byte-init
loop-byte-init c = rw c.min-next.ensures (appended_none _ _)

pub loop-byte-preserved : goal.loop-byte-preserved
loop-byte-preserved c =
    then_as (hex_more _ _ c.loop-byte-test.true) c.loop-byte.invariant c.put_hex_byte-next.ensures
