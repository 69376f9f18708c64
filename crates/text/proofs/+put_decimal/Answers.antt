-- One digit, or the digits of the tenth and one more.
use Rattle.text.proofs.Appending.{then_as}
use Rattle.text.proofs.Spelling.{decimal_one, decimal_more}
use Rattle.text.proofs.+put_decimal.Goals as goal

pub returns-then-number-lt10 : goal.returns-then-number-lt10
returns-then-number-lt10 t c = rw (decimal_one _ c.if-number-lt10.true) c.put_byte.ensures

pub returns : goal.returns
returns t c =
    then_as (decimal_more _ c.if-number-lt10.false) c.put_decimal-next.ensures c.put_byte-2.ensures
