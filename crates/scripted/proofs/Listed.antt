-- What is read of the first stations of a list, and the station that a call on the list changes.
-- Assumes nothing.
use mathlib.Core.Path.{◌≡◌, refl, ap, ◌∙◌}
use mathlib.Core.List.{List, [], ◌∷◌, map}
use Prim.Native.Nat.{ℕ, zero, suc, ◌≤◌, ◌<◌}
use native.Mathlib.Omega.{arith}
use lib.ListN.{length, get_or, set, take, drop, length-append, length-drop, length-map, get_or-append, get_or-eq_default}
use lib.Seq.{length-take-le}
use borrow.Author.Tests.{lt-ltb, ne_eqb}
use Rattle.station.specs.declared.station.Station.{Station}
use Rattle.station.specs.Station.{Result, packet_of}
use Rattle.hearing.specs.Hearing.{heard_by}
use Rattle.steps.specs.Steps.{delivered_to}
use Rattle.passing.specs.Passing.{passed}
use Rattle.stations.specs.List.{nowhere, stepped_at, all_passed, delivery_refusal, delivered_at}

-- something of each of the first stations
module _ {A : Type 0} (f : Station → A) where
  pub first_mapped : (l : List Station) (used i : ℕ) (d : A) → i < used → used ≤ length l
      → get_or (map f (take used l)) i d ≡ f (get_or l i nowhere)
  first_mapped [] used i d h k = absurd (omega arith)
  first_mapped (x ∷ l) zero i d h k = absurd (omega arith)
  first_mapped (x ∷ l) (suc used) zero d h k = refl
  first_mapped (x ∷ l) (suc used) (suc i) d h k = first_mapped l used i d (omega arith) (omega arith)

  pub mapped_length : (l : List Station) (used : ℕ) → used ≤ length l → length (map f (take used l)) ≡ used
  mapped_length l used k = length-map (take used l) f ∙ length-take-le used l k

  pub past_mapped : (l : List Station) (used i : ℕ) (d : A) → used ≤ i → used ≤ length l → get_or (map f (take used l)) i d ≡ d
  past_mapped l used i d h k = get_or-eq_default (map f (take used l)) d (omega (arith, mapped_length l used k))

  pub mapped_set : (l : List Station) (used at : ℕ) (s : Station) → at < used
      → map f (take used (set l at s)) ≡ set (map f (take used l)) at (f s)
  mapped_set [] used at s h = map_nil used
    where
      map_nil : (n : ℕ) → map f (take n []) ≡ set (map f (take n [])) at (f s)
      map_nil zero = refl
      map_nil (suc n) = refl
  mapped_set (x ∷ l) zero at s h = absurd (omega arith)
  mapped_set (x ∷ l) (suc used) zero s h = refl
  mapped_set (x ∷ l) (suc used) (suc at) s h = ap (λ (r : List A). f x ∷ r) (mapped_set l used at s (omega arith))

-- "5 clock ..: all stations"
module _ (ticks used : ℕ) (l : List Station) (few : used ≤ length l) where
  pub passed_length : length (all_passed ticks used l) ≡ length l
  unfolding all_passed
  passed_length =
      let f : Station → Station = λ s. passed s ticks in
      omega (
        arith,
        length-append (map f (take used l)) (drop used l),
        mapped_length f l used few,
        length-drop used l,
      )

  pub passed_each : (i : ℕ) → i < used → get_or (all_passed ticks used l) i nowhere ≡ passed (get_or l i nowhere) ticks
  unfolding all_passed
  passed_each i h =
      let f : Station → Station = λ s. passed s ticks in
      let within : i < length (map f (take used l)) = omega (arith, mapped_length f l used few) in
      get_or-append (map f (take used l)) (drop used l) nowhere i within ∙ first_mapped f l used i nowhere h few

-- "3 startup (station); 4 shutdown (station)"
pub stepped_is : (step : Station → List ℕ → Result) (l : List Station) (at : ℕ) (room : List ℕ) → at < length l
    → (stepped_at step l at room).stations ≡ set l at (step (get_or l at nowhere) room).station
unfolding stepped_at
stepped_is step l at room h = rw (lt-ltb at (length l) h)

-- "6 deliver": where it is not refused
pub delivered_is : (l : List Station) (from to : ℕ) (room : List ℕ) → from < length l → to < length l → ¬ (from ≡ to)
    → ¬ ((get_or l from nowhere).sent ≡ 0)
    → (delivered_at l from to room).stations
    ≡ set l to (heard_by (get_or l to nowhere) (packet_of (get_or l from nowhere)) room).station
unfolding delivered_at delivery_refusal delivered_to
delivered_is l from to room h k n some =
    rw (
      lt-ltb from (length l) h,
      lt-ltb to (length l) k,
      ne_eqb from to n,
      ne_eqb (get_or l from nowhere).sent 0 some,
    )
