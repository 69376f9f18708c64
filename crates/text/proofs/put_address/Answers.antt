-- Four numbers and three dots, one after the other.
use Rattle.text.specs.Digits.{dotted_of}
use Rattle.text.proofs.Appending.{then}
use Rattle.text.proofs.Spelling.{address_bytes}
use Rattle.text.proofs.put_address.Goals as goal

pub returns : goal.returns
unfolding dotted_of
returns c =
    let one = then c.put_decimal-next.ensures c.put_byte-next.ensures in
    let two = then (then one c.put_decimal-next-2.ensures) c.put_byte-next-2.ensures in
    let three = then (then two c.put_decimal-next-3.ensures) c.put_byte-next-3.ensures in
    let bytes = address_bytes _ _ _ _ _ _ c.ranges.address.fits c.to_be_bytes.ensures c.from.ensures c.from-2.ensures c.from-3.ensures c.from-4.ensures in
    rw bytes (then three c.put_decimal.ensures)
