-- Two digits, one after the other.
use Rattle.text.proofs.Appending.{then}
use Rattle.text.proofs.put_hex_byte.Goals as goal

pub returns : goal.returns
returns c =
    then (rw c.hex_digit.ensures at c.put_byte-next.ensures) (rw c.hex_digit-2.ensures at c.put_byte.ensures)
