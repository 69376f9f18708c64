-- What was read is the whole input, or longer than a script may be.
use Rattle.std.proofs.Common.{rules}
use Rattle.std.proofs.lemmas.Result.{on_ok_weaker}
use Rattle.rehearse.proofs.Whole.{whole_written}
use Rattle.rehearse.proofs.rehearse_input.Goals as goal

pub returns : goal.returns
returns g c =
    on_ok_weaker
    _
    (whole_written
    _
    _
    _
    _
    c.read_full.new.part
    c.in_ok-given.given
    (search rules)
    c.in_ok-given.ensures.within
    c.in_ok-given.ensures.bytes
    c.in_ok-given.ensures.end)
    c.rehearse.ensures
