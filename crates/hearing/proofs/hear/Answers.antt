-- `hearing::hear` meets its contract: judged first.
-- Assumes nothing.
use Rattle.std.proofs.Common.{◌≡◌, arith}
use Rattle.wire.specs.Refusal.{room_needed}
use Rattle.wire.proofs.Refusals.{no_room}
use Rattle.judging.proofs.Accepted.{refused_most, list_inside}
use Rattle.station.proofs.Acted.{leaves_equal}
use Rattle.hearing.specs.Hearing.{heard_by}
use Rattle.hearing.proofs.hear.Goals as goal

pub invariant_of-hear_judged : goal.invariant_of-hear_judged
invariant_of-hear_judged c = record { listed = list_inside c.args.packet.now _ c.in-Ok.ensures }

pub refuse-requires : goal.refuse-requires
refuse-requires c = omega (arith, refused_most c.args.packet.now _ c.in-Err.ensures)

pub returns-in-Ok : goal.returns-in-Ok
unfolding heard_by
returns-in-Ok c = leaves_equal _ _ (rw (← c.in-Ok.ensures)) c.hear_judged.ensures

pub returns-in-Err : goal.returns-in-Err
unfolding heard_by
returns-in-Err c =
    let most = refused_most c.args.packet.now _ c.in-Err.ensures in
    let room : room_needed c.in-Err.refusal ≡ 0 = no_room c.in-Err.refusal (λ e. omega arith) in
    record {
      answer_is = rw (← c.in-Err.ensures, c.refuse.ensures.answer, room);
      station_is = rw (← c.in-Err.ensures, c.refuse.ensures.station);
      room_is = rw (← c.in-Err.ensures);
    }
