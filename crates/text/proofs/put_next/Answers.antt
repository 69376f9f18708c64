-- A space, and the number after it.
use Rattle.text.proofs.Appending.{then}
use Rattle.text.proofs.put_next.Goals as goal

pub returns : goal.returns
returns c = then c.put_byte-next.ensures c.put_decimal.ensures
