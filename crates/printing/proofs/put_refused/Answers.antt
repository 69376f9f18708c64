-- `printing::put_refused` meets its contract.
-- Assumes nothing.
use native.Mathlib.Omega.{arith}
use Rattle.text.proofs.Appending.{then}
use Rattle.script.specs.Lines.{refused_line}
use Rattle.printing.proofs.Spelled.{prints, refused_short}
use Rattle.printing.proofs.put_refused.Goals as goal

pub returns : goal.returns
unfolding refused_line
returns c =
    let number = c.number.ensures in
    rw (← number.number)
    (prints
    (then (then (then c.put_decimal-next.ensures c.put-next.ensures) c.put_decimal-next-2.ensures)
    c.put_byte.ensures)
    (refused_short c.args.number c.number.result c.ranges.number.fits (omega arith))
    c.requires)
