-- `configuring::clear` meets its contract.
-- Assumes nothing.
use native.Mathlib.Omega.{arith}
use Rattle.configuring.specs.Configuring.{empty_of}
use Rattle.configuring.proofs.Cleared.{cleared}
use Rattle.configuring.proofs.clear.Goals as goal

pub returns : goal.returns
unfolding empty_of
returns c = cleared 4095 c.args.primary _ c.fill.new.self (omega arith) (c.fill.ensures.after (λ y e. e))
