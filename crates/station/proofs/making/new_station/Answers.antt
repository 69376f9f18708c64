-- `station::making::new_station` meets its contract: refused, or made.
-- Assumes nothing.
use Rattle.std.proofs.Common.{◌≡◌, sym, arith, eq-eqb, ne_eqb}
use Rattle.wire.specs.Refusal.{room_needed}
use Rattle.wire.proofs.Refusals.{nonzero, no_room}
use Rattle.station.specs.Making.{made_of}
use Rattle.station.proofs.Made.{refusal_most}
use Rattle.station.proofs.making.new_station.Goals as goal

pub returns-in-Err : goal.returns-in-Err
unfolding made_of
returns-in-Err c =
    let a = c.args in
    let refusal = c.in-Err.refusal in
    let number = c.in-Err.ensures.refused in
    let most = refusal_most a.vrid a.priority a.interval a.addresses.now in
    let room : room_needed refusal ≡ 0 = no_room refusal (λ e. omega arith) in
    let some = ne_eqb _ 0 (nonzero refusal) in
    record {
      answer_is = rw (← number, some, room);
      station_is = rw (← number, some, c.station_of-in-Err.ensures, c.new_router-none.ensures);
    }

pub returns-in-Ok : goal.returns-in-Ok
unfolding made_of
returns-in-Ok c =
    let none = eq-eqb _ 0 (sym c.in-Ok.ensures.refused) in
    let list = c.in-Ok.ensures.taken in
    record {
      answer_is = rw none;
      station_is =
          rw (none, c.station_of.ensures, c.addresses_in.ensures, c.new_router-fresh.ensures, c.count.ensures, list);
    }
