-- The ends of making a station.
-- Assumes nothing.
use Rattle.std.proofs.Common.{◌≡◌, ℕ, ◌/◌, ◌%◌, ◌≤◌, Bool, true, false, cond, not, ◌||◌, eqb, ltb, List, length, arith, ltb-false, eq-eqb}
use Rattle.std.proofs.lemmas.Bool.{eqb-false}
use Rattle.writing.specs.Writing.{address_bytes_wrong}
use Rattle.wire.proofs.Checks.{passed}
use Rattle.wire.proofs.Tested.{two_passed}
use Rattle.events.specs.Result.{done}
use Rattle.configuring.specs.Configuring.{new_router}
use Rattle.station.specs.Station.{station_of}
use Rattle.station.specs.Making.{station_checks, station_refusal, addresses_in, made_of}

most_test : (a b c d : Bool) → cond a 14 (cond b 15 (cond c 16 (cond d 17 0))) ≤ 17
most_test true b c d = omega arith
most_test false true c d = omega arith
most_test false false true d = omega arith
most_test false false false true = omega arith
most_test false false false false = omega arith

pub refusal_most : (v priority interval : ℕ) (addresses : List ℕ) → station_refusal v priority interval addresses ≤ 17
unfolding station_refusal
refusal_most v priority interval addresses =
    most_test (eqb v 0) (eqb priority 0) (eqb interval 0) (address_bytes_wrong addresses)

module _ (v priority interval : ℕ) (addresses : List ℕ) where
  pub made_most : station_refusal v priority interval addresses ≡ 0 → length addresses ≤ 64
  unfolding station_refusal address_bytes_wrong
  made_most e =
      let p = passed (station_checks v priority interval addresses) (omega arith) e in
      let n = length addresses in
      ltb-false 64 n (two_passed (not (eqb (n % 4) 0) || eqb n 0) (ltb 64 n) p.1.1.1.0).1

  pub made_named : station_refusal v priority interval addresses ≡ 0 → ¬ (v ≡ 0)
  unfolding station_refusal
  made_named e =
      let p = passed (station_checks v priority interval addresses) (omega arith) e in
      eqb-false v 0 p.0

  pub made_done : (preempt : Bool) (primary : ℕ) → station_refusal v priority interval addresses ≡ 0
      → made_of v priority interval preempt primary addresses
      ≡ record {
        answer = done 0 0;
        station = station_of primary (new_router v priority interval preempt (length addresses / 4)) (addresses_in addresses);
      }
  unfolding made_of
  made_done preempt primary e = rw (eq-eqb (station_refusal v priority interval addresses) 0 e)
