-- What a step on the station of a number leaves of the list, and time for the first stations.
use Rattle.std.proofs.Common.{◌≡◌, ℕ, ◌<◌, ◌≤◌, List, ◌++◌, length, take, drop, get_or, set, ap, subst, lt-ltb, le-ltb, ne_eqb}
use Rattle.std.specs.Prelude.{Err, map, min}
use Rattle.std.proofs.lemmas.List.{get_or_default, take_min, drop_min}
use Rattle.wire.specs.declared.refusal.Refusal.{Refusal}
use Rattle.wire.specs.declared.refusal.Refusal.TheVariants.{UnusedStation}
use Rattle.wire.specs.Refusal.{refusal_number, room_needed}
use Rattle.wire.proofs.Refusals.{nonzero}
use Rattle.events.specs.Result.{Answered}
use Rattle.station.specs.declared.station.Station.{Station}
use Rattle.station.specs.declared.station.Stepped.{Stepped}
use Rattle.station.specs.Station.{Result, Leaves}
use Rattle.passing.specs.Passing.{passed}
use Rattle.steps.specs.Steps.{delivered_to}
use Rattle.stations.specs.List.{LeavesList, nowhere, stepped_at, delivery_refusal, delivered_at, all_passed}

module _ (step : Station → List ℕ → Result) (stations : List Station) (at : ℕ) (room : List ℕ) where
  -- whatever is read past the end of the list
  pub within : at < length stations → (d : Station) (r : Stepped) (after : List ℕ)
      → Leaves (step (get_or stations at d) room) r after
      → LeavesList (stepped_at step stations at room) r.answer (set stations at r.station) after
  unfolding stepped_at
  within l d r after e =
      let there = lt-ltb at (length stations) l in
      let h = subst (λ (s : Station). Leaves (step s room) r after) (get_or_default stations at d nowhere l) e in
      record {
        answer_is = rw there h.answer_is;
        stations_are = rw there (ap (set stations at) h.station_is);
        room_is = rw there h.room_is;
      }

  pub outside : length stations ≤ at → LeavesList (stepped_at step stations at room) (Err UnusedStation) stations room
  unfolding stepped_at
  outside l =
      let past = le-ltb at (length stations) l in
      record { answer_is = rw past; stations_are = rw past; room_is = rw past }

module _ (stations : List Station) (from to : ℕ) (room : List ℕ) where
  abbrev due : ℕ
  due = delivery_refusal from to (length stations)

  pub delivered_refused : (refusal : Refusal) → refusal_number refusal ≡ due → room_needed refusal ≡ 0
      → LeavesList (delivered_at stations from to room) (Err refusal) stations room
  unfolding delivered_at
  delivered_refused refusal e none =
      let some = ne_eqb (refusal_number refusal) 0 (nonzero refusal) in
      record { answer_is = rw (← e, some, none); stations_are = rw (← e, some); room_is = rw (← e, some) }

  pub delivered_within : 0 ≡ due → to < length stations → (sender : Station) → sender ≡ get_or stations from nowhere
      → (answer : Answered) (after : List Station) (left : List ℕ)
      → LeavesList (stepped_at (delivered_to sender) stations to room) answer after left
      → LeavesList (delivered_at stations from to room) answer after left
  unfolding delivered_at stepped_at
  delivered_within e h sender s answer after left l =
      let there = lt-ltb to (length stations) h in
      rw (← e, ← s) (rw there at l)

-- the first stations, as many as are used, have let the ticks pass
pub passed_first : (ticks used end : ℕ) (stations after : List Station) → end ≡ min used (length stations)
    → after ≡ map (λ (s : Station). passed s ticks) (take end stations) → after ++ drop end stations ≡ all_passed ticks used stations
unfolding all_passed
passed_first ticks used end stations after e h = rw (h, e, take_min used stations, drop_min used stations)
