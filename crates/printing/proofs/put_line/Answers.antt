-- `printing::put_line` meets its contract.
-- Assumes nothing.
use Rattle.text.proofs.Appending.{then}
use Rattle.script.specs.Lines.{line_of}
use Rattle.script.specs.Progress.{segment_in}
use Rattle.printing.proofs.Spelled.{prints, line_short}
use Rattle.printing.proofs.put_line.Goals as goal

pub returns : goal.returns
unfolding line_of
returns c =
    prints (then (then c.put_decimal-next.ensures c.put_letters-next.ensures.letters) c.put_byte.ensures)
    (line_short c.args.number (segment_in c.args.progress.now) c.ranges.number.fits c.put_letters-next.ensures.few)
    c.requires
