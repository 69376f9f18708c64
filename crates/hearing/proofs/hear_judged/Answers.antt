-- `hearing::hear_judged` meets its contract: refused and counted.
-- Assumes nothing.
use Rattle.std.proofs.Common.{◌≡◌, arith, eq-eqb, ne_eqb}
use Rattle.wire.specs.Refusal.{refusal_number, room_needed}
use Rattle.wire.proofs.Refusals.{nonzero, no_room}
use Rattle.events.specs.Lists.{their_list, lists_match}
use Rattle.station.specs.Station.{list_of}
use Rattle.router.proofs.Refused.{refusal_most}
use Rattle.hearing.specs.Hearing.{refusal_by}
use Rattle.hearing.proofs.hear_judged.Goals as goal

pub returns-in-Err : goal.returns-in-Err
unfolding refusal_by
returns-in-Err c =
    let a = c.args in
    let fields = a.heard.fields in
    let refusal = c.in-Err.refusal in
    let most = refusal_most a.s.router fields (lists_match (list_of a.s) (their_list a.heard.packet.now fields)) in
    let room : room_needed refusal ≡ 0 = no_room refusal (λ e. omega (arith, most, c.in-Err.ensures)) in
    let named = ne_eqb a.s.router.vrid 0 (λ e. omega arith) in
    let ours = eq-eqb fields.vrid a.s.router.vrid (omega arith) in
    let some = ne_eqb (refusal_number refusal) 0 (nonzero refusal) in
    record {
      answer_is = rw (named, ours, ← c.in-Err.ensures, some, room);
      station_is = rw (named, ours, ← c.in-Err.ensures, some, c.count_refusal.ensures);
      room_is = rw (named, ours, ← c.in-Err.ensures, some);
    }
