-- Each turn appends one byte more.
use Rattle.std.proofs.lemmas.List.{take_more}
use Rattle.text.proofs.Appending.{appended_none, then_as}
use Rattle.text.proofs.put.Goals as goal

pub loop-byte-init : goal.loop-byte-init
loop-byte-init c = rw c.min-next.ensures (appended_none _ _)

pub loop-byte-preserved : goal.loop-byte-preserved
loop-byte-preserved c =
    then_as (take_more _ _ 0 c.loop-byte-test.true) c.loop-byte.invariant c.put_byte-next.ensures
