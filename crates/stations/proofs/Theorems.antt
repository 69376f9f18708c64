-- The theorems that specs/Theorems.antt states.
-- Assumes nothing.
use Prim.Native.Nat.{ℕ}
use mathlib.Core.Path.{refl, sym, ◌∙◌}
use mathlib.Core.Bool.{Bool, true, false, cond}
use mathlib.Core.List.{List}
use lib.Dec.{eqb, ltb}
use lib.ListN.{length, length-set}
use lib.Seq.{get_or-set_other}
use Rattle.events.proofs.Answers.{one_answer}
use Rattle.station.specs.declared.station.Station.{Station}
use Rattle.station.specs.Station.{Result}
use Rattle.stations.specs.List.{nowhere, placed, refuses_list, stepped_at, delivery_refusal, delivered_at}
use Rattle.stations.specs.Theorems.{OneCall, OnlyAt, StepOnlyAt, DeliveryOnlyAt}

pub one_call : OneCall
one_call result a b stations others room other x y = (
  one_answer a b (x.answer_is ∙ sym y.answer_is),
  x.stations_are ∙ sym y.stations_are,
  x.room_is ∙ sym y.room_is,
)

-- whether a result is placed or refused
only_at : (there : Bool) (stations : List Station) (at number : ℕ) (result : Result) (room : List ℕ)
    → OnlyAt at stations (cond there (placed stations at result) (refuses_list number stations room)).stations
only_at true stations at number result room = record {
  as_many = length-set stations at result.station;
  others = λ other n. get_or-set_other stations at other result.station nowhere n;
}
only_at false stations at number result room = record { as_many = refl; others = λ other n. refl }

pub step_only_at : StepOnlyAt
unfolding stepped_at
step_only_at step stations at room = only_at (ltb at (length stations)) stations at _ _ room

pub delivery_only_at : DeliveryOnlyAt
unfolding delivered_at
delivery_only_at stations from to room =
    only_at (eqb (delivery_refusal from to (length stations)) 0) stations to _ _ room
