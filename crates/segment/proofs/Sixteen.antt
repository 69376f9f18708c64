-- Sixteen stations that meet every premise of demand 3: the last of eight Masters remains.
-- Assumes nothing.
use mathlib.Core.Path.{◌≡◌, refl, sym, ap, subst, ◌∙◌}
use mathlib.Core.Logic.{◌⊎◌, inl, inr}
use mathlib.Core.List.{List, [], ◌∷◌, ◌++◌}
use mathlib.Core.Bool.{Bool, true, false, cond}
use Prim.Native.Nat.{ℕ, zero, suc, ◌+◌, ◌-◌, ◌≤◌, ◌<◌}
use native.Mathlib.Nat.{add-suc, suc-add}
use native.Mathlib.Omega.{arith}
use lib.Dec.{eqb, ltb}
use lib.ListN.{length}
use borrow.Author.Tests.{le-ltb, ltb-false, eqb-true, eqb-false}
use Rattle.states.specs.declared.record.State.TheVariants.{Master}
use Rattle.histories.specs.Histories.{Memory}
use Rattle.std.proofs.lemmas.Bool.{cases_eq}
use Rattle.segment.specs.Segment.{router_of, primary_address, IsMaster, Stands, station_at, Segment, Outranks, Delivery}
use Rattle.segment.specs.Segment.{after_all, FromMasters, Has, EachPair}
use Rattle.segment.specs.Theorems.{OneMaster}
use Rattle.segment.specs.Examples.{virtual_address, idle, waiting, leading, station_of, kind_of, row_from, sixteen}
use Rattle.segment.specs.Examples.{deliver, from_one, from_some, deliveries, Met}
use Rattle.segment.proofs.States.{not_master}
use Rattle.segment.proofs.Theorems.{one_master_remains}
use Rattle.segment.proofs.Computed.{state_of, plain, stands}

-- a Master of the row stands at 8 or above
late_test : (a b : Bool) (i : ℕ) → ltb i 4 ≡ a → ltb i 8 ≡ b → state_of (cond a idle (cond b waiting leading)) ≡ Master → 8 ≤ i
late_test true b i e f h = absurd cc
late_test false true i e f h = absurd (not_master h)
late_test false false i e f h = ltb-false i 8 f

late : (i : ℕ) → state_of (kind_of i) ≡ Master → 8 ≤ i
late i h = late_test (ltb i 4) (ltb i 8) i refl refl h

-- the stations of a row
row_length : (i n : ℕ) → length (row_from i n) ≡ n
row_length i zero = refl
row_length i (suc n) = ap suc (row_length (suc i) n)

row_at : (i n k : ℕ) → k < n → station_at (row_from i n) k ≡ station_of (kind_of (i + k)) (0xC0A80101 + (i + k))
row_at i zero k l = absurd (omega arith)
row_at i (suc n) zero l = let e : i ≡ i + 0 = omega arith in ap (λ (x : ℕ). station_of (kind_of x) (0xC0A80101 + x)) e
row_at i (suc n) (suc k) l =
    let e : suc i + k ≡ i + suc k = omega (arith, add-suc i k, suc-add i k) in
    row_at (suc i) n k (omega arith) ∙ ap (λ (x : ℕ). station_of (kind_of x) (0xC0A80101 + x)) e

abbrev primary_at : ℕ → ℕ
primary_at i = 0xC0A80101 + i

below : (i : ℕ) → i < length sixteen → i < 16
below i l = subst (λ (n : ℕ). i < n) (row_length 0 16) l

inside : (i : ℕ) → i < 16 → i < length sixteen
inside i l = subst (λ (n : ℕ). i < n) (sym (row_length 0 16)) l

at : (i : ℕ) → i < 16 → station_at sixteen i ≡ station_of (kind_of i) (primary_at i)
at i l =
    let e : 0 + i ≡ i = omega arith in
    row_at 0 16 i l ∙ ap (λ (x : ℕ). station_of (kind_of x) (primary_at x)) e

primary_at_lem : (i : ℕ) → i < 16 → primary_address (station_at sixteen i) ≡ primary_at i
primary_at_lem i l = ap primary_address (at i l) ∙ (plain (primary_at i) (kind_of i)).3

priority_at : (i : ℕ) → i < 16 → (router_of 1 (station_at sixteen i)).priority ≡ 100
priority_at i l = ap (λ (m : Memory). (router_of 1 m).priority) (at i l) ∙ (plain (primary_at i) (kind_of i)).4

state_at : (i : ℕ) → i < 16 → (router_of 1 (station_at sixteen i)).state ≡ state_of (kind_of i)
state_at i l = ap (λ (m : Memory). (router_of 1 m).state) (at i l) ∙ (plain (primary_at i) (kind_of i)).5

master_at_lem : (i : ℕ) → 8 ≤ i → i < 16 → IsMaster 1 (station_at sixteen i)
master_at_lem i h l = state_at i l ∙ rw (le-ltb i 4 (omega arith), le-ltb i 8 h)

late_at : (i : ℕ) → i < 16 → IsMaster 1 (station_at sixteen i) → 8 ≤ i
late_at i l h = late i (sym (state_at i l) ∙ h)

sixteen_segment : Segment 1 1 virtual_address sixteen
sixteen_segment =
    record {
      some = omega (arith, row_length 0 16);
      few = omega (arith, row_length 0 16);
      each =
          λ i l.
          subst (Stands 1 1 virtual_address) (sym (at i (below i l)))
          (stands (primary_at i) (omega (arith, below i l)) (kind_of i));
      apart =
          λ i j l k e.
          let f : primary_at i ≡ primary_at j = sym (primary_at_lem i (below i l)) ∙ e ∙ primary_at_lem j (below j k) in
          omega arith;
      owner = λ i j l k e f. absurd (omega (arith, priority_at i (below i l), e));
      master = 15;
      below = inside 15 (omega arith);
      masters = master_at_lem 15 (omega arith) (omega arith);
    }

-- every advertisement of the list is a Master's, and is handed to another station
from_append : (a b : List Delivery) → FromMasters 1 sixteen a → FromMasters 1 sixteen b → FromMasters 1 sixteen (a ++ b)
from_append [] b x y = y
from_append (d ∷ a) b x y = (x.0, from_append a b x.1 y)

from_one_test : (t : Bool) (from to : ℕ) → eqb to from ≡ t → 8 ≤ from → from < 16 → to < 16 → FromMasters 1 sixteen (from_one from to)
    → FromMasters 1 sixteen (cond t (from_one from to) (deliver from to ∷ from_one from to))
from_one_test true from to e h l k rest = rest
from_one_test false from to e h l k rest =
    ((inside from l, inside to k, eqb-false to from e, master_at_lem from h l), rest)

from_one_lem : (from n : ℕ) → 8 ≤ from → from < 16 → n ≤ 16 → FromMasters 1 sixteen (from_one from n)
from_one_lem from zero h l k = tt
from_one_lem from (suc n) h l k =
    from_one_test (eqb n from) from n refl h l (omega arith) (from_one_lem from n h l (omega arith))

from_some_lem : (n : ℕ) → n ≤ 8 → FromMasters 1 sixteen (from_some 8 n 16)
from_some_lem zero h = tt
from_some_lem (suc n) h =
    from_append (from_one (8 + n) 16) (from_some 8 n 16) (from_one_lem (8 + n) 16 (omega arith) (omega arith) (omega arith))
    (from_some_lem n (omega arith))

-- and each pair is among them
has_first : (a b : List Delivery) (from to : ℕ) → Has a from to → Has (a ++ b) from to
has_first [] b from to h = absurd h
has_first (d ∷ a) b from to (inl h) = inl h
has_first (d ∷ a) b from to (inr h) = inr (has_first a b from to h)

has_second : (a b : List Delivery) (from to : ℕ) → Has b from to → Has (a ++ b) from to
has_second [] b from to h = h
has_second (d ∷ a) b from to h = inr (has_second a b from to h)

has_one_test : (t : Bool) (from to n : ℕ) → eqb n from ≡ t → (to ≡ from → ⊥) → (to ≡ n) ⊎ Has (from_one from n) from to
    → Has (cond t (from_one from n) (deliver from n ∷ from_one from n)) from to
has_one_test true from to n e h (inl z) = absurd (h (z ∙ eqb-true n from e))
has_one_test true from to n e h (inr rest) = rest
has_one_test false from to n e h (inl z) = inl (refl, sym z)
has_one_test false from to n e h (inr rest) = inr rest

last_or_before : (to n : ℕ) (Rest : Type 0) → to < suc n → (to < n → Rest) → (to ≡ n) ⊎ (to ≡ n → ⊥) → (to ≡ n) ⊎ Rest
last_or_before to n Rest l f (inl z) = inl z
last_or_before to n Rest l f (inr z) = inr (f (omega arith))

has_one : (from to n : ℕ) → to < n → (to ≡ from → ⊥) → Has (from_one from n) from to
has_one from to zero l h = absurd (omega arith)
has_one from to (suc n) l h =
    has_one_test (eqb n from) from to n refl h
    (last_or_before to n (Has (from_one from n) from to) l (λ k. has_one from to n k h) (cases_eq to n))

has_some_test : (n k to : ℕ) → (to ≡ 8 + k → ⊥) → to < 16 → (k ≡ n) ⊎ Has (from_some 8 n 16) (8 + k) to
    → Has (from_one (8 + n) 16 ++ from_some 8 n 16) (8 + k) to
has_some_test n k to e l (inl z) =
    has_first (from_one (8 + n) 16) (from_some 8 n 16) (8 + k) to
    (subst (λ (x : ℕ). Has (from_one (8 + x) 16) (8 + k) to) z (has_one (8 + k) to 16 l e))
has_some_test n k to e l (inr rest) = has_second (from_one (8 + n) 16) (from_some 8 n 16) (8 + k) to rest

has_some : (n k to : ℕ) → k < n → (to ≡ 8 + k → ⊥) → to < 16 → Has (from_some 8 n 16) (8 + k) to
has_some zero k to h e l = absurd (omega arith)
has_some (suc n) k to h e l =
    has_some_test n k to e l
    (last_or_before k n (Has (from_some 8 n 16) (8 + k) to) h (λ x. has_some n k to x e l) (cases_eq k n))

sixteen_pairs : EachPair 1 sixteen deliveries
sixteen_pairs from to l k e h =
    let first = late_at from (below from l) h in
    let z : 8 + (from - 8) ≡ from = omega arith in
    subst (λ (x : ℕ). Has deliveries x to) z
    (has_some 8 (from - 8) to (omega (arith, below from l)) (λ y. e (y ∙ z)) (below to k))

sixteen_one : OneMaster 1 sixteen (after_all 1 sixteen sixteen deliveries)
sixteen_one =
    one_master_remains 1 1 virtual_address sixteen deliveries sixteen_segment (from_some_lem 8 (omega arith)) sixteen_pairs

-- nobody outranks the last
last_test : (k : ℕ) → k < 16 → (15 ≡ k) ⊎ (15 ≡ k → ⊥)
    → ((15 ≡ k → ⊥) → Outranks 1 (station_at sixteen k) (station_at sixteen 15)) → k ≡ 15
last_test k l (inl e) f = sym e
last_test k l (inr e) f = absurd (beaten (f e))
  where
    beaten : Outranks 1 (station_at sixteen k) (station_at sixteen 15) → ⊥
    beaten (inl x) = omega (arith, priority_at k l, priority_at 15 (omega arith))
    beaten (inr x) = omega (arith, x.1, primary_at_lem k l, primary_at_lem 15 (omega arith))

sixteen_last : sixteen_one.station ≡ 15
sixteen_last =
    let k = sixteen_one.station in
    last_test k (below k sixteen_one.below) (cases_eq 15 k)
    (λ e. sixteen_one.greatest 15 (inside 15 (omega arith)) e (master_at_lem 15 (omega arith) (omega arith)))

pub met : Met
met =
    record {
      segment = sixteen_segment;
      masters = from_some_lem 8 (omega arith);
      pairs = sixteen_pairs;
      remains =
          subst (λ (k : ℕ). IsMaster 1 (station_at (after_all 1 sixteen sixteen deliveries) k)) sixteen_last sixteen_one.remains;
      others =
          λ i l h.
          let e = sixteen_one.alone i (inside i (omega arith)) h ∙ sixteen_last in
          omega arith;
    }
