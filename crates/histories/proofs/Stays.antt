-- What no history changes: the primary address, and how a virtual router was configured until it is removed.
-- Assumes nothing.
use mathlib.Core.Path.{◌≡◌, refl, sym, ap, subst, ◌∙◌}
use mathlib.Core.Logic.{◌⊎◌, inl, inr}
use mathlib.Core.List.{List, [], ◌∷◌}
use mathlib.Core.Bool.{Bool, true, false, cond}
use Prim.Native.Nat.{ℕ, ◌*◌, ◌≤◌, ◌<◌}
use native.Mathlib.Omega.{arith}
use lib.Dec.{eqb}
use lib.ListN.{length, get_or}
use lib.Seq.{length-paste}
use borrow.Author.Tests.{ne_eqb}
use Rattle.std.proofs.lemmas.Bool.{cases_eq}
use Rattle.wire.proofs.Checks.{passed}
use Rattle.states.specs.declared.record.Router.{Router}
use Rattle.states.proofs.Kept.{Kept}
use Rattle.places.specs.Place.{Found, base_of, primary_of, record_at, set_record, place_of, refusal_count}
use Rattle.std.specs.Prelude.{Some, None}
use Rattle.places.proofs.Beside.{beside_first, beside_record, beside_primary}
use Rattle.places.proofs.Finding.{found, same_place}
use Rattle.places.proofs.Records.{record_other}
use Rattle.places.proofs.Words.{first_same, first_other, store_count, count_first, count_record, count_other}
use Rattle.events.specs.Lists.{list_at, set_list}
use Rattle.events.specs.Result.{router_place}
use Rattle.events.proofs.Sought.{sought_below, sought_word}
use Rattle.configuring.specs.Configuring.{is_found, empty_of, freed, configure_checks, configure_refusal}
use Rattle.configuring.proofs.Configures.{configure_most}
use Rattle.histories.specs.Histories.{Call, Memory, called, after, begun, GivenAll}
use Rattle.histories.specs.Theorems.{PrimaryStays}
use Rattle.histories.proofs.Begun.{empty_held}
use Rattle.histories.proofs.Changed.{Changed}
use Rattle.histories.proofs.Does.{same, counts, changes, Does, moves, configures, frees, call_does}
use Rattle.histories.proofs.Held.{Held}
use Rattle.histories.proofs.Histories.{call_held}
use Rattle.histories.proofs.Theorems.{list_other}

-- no call changes the primary address
stored_primary : (words : List ℕ) (p : ℕ) (r : Router) → p < 255 → length words ≡ 4096
    → primary_of (set_record words p r) ≡ primary_of words
unfolding primary_of refusal_count
stored_primary words p r below long = store_count words p r below long 0 (omega arith)

does_primary : (words lists : List ℕ) (gone : ℕ) (w l : List ℕ) → length words ≡ 4096 → Does words lists gone w l
    → primary_of w ≡ primary_of words
unfolding primary_of refusal_count
does_primary words lists gone w l long (moves after same) = refl
does_primary words lists gone w l long (moves after (counts n least most)) = count_other words n most 0 (λ z. omega arith)
does_primary words lists gone w l long (moves after (changes v p next r s c)) = beside_primary p words after c.beside
does_primary words lists gone w l long (configures v priority interval preempt addresses p e s) =
    stored_primary words p _ (found words 0 p s).below long
does_primary words lists gone w l long (frees p e s) = stored_primary words p freed (sought_below words gone p s) long

history_primary : (m : Memory) (history : List Call) → GivenAll history → Held m.words
    → primary_of (after m history).words ≡ primary_of m.words
history_primary m [] g held = refl
history_primary m (call ∷ rest) g held =
    history_primary (called m call) rest g.1 (call_held m call g.0 held)
    ∙ does_primary m.words m.lists _ _ _ held.long (call_does m call held.long)

pub primary_stays : PrimaryStays
unfolding primary_of empty_of
primary_stays primary lists history g = history_primary (begun primary lists) history g (empty_held primary)

-- the lists keep their length
set_long : (lists : List ℕ) (p : ℕ) (addresses : List ℕ) → p < 255 → length addresses ≤ 64 → length lists ≡ 16320
    → length (set_list lists p addresses) ≡ 16320
unfolding set_list
set_long lists p addresses below most long =
    length-paste lists (64 * p) addresses (length addresses) (omega arith) (omega arith) ∙ long

pub does_long : (words lists : List ℕ) (gone : ℕ) (w l : List ℕ) → length lists ≡ 16320 → Does words lists gone w l
    → length l ≡ 16320
does_long words lists gone w l long (moves after moved) = long
does_long words lists gone w l long (configures v priority interval preempt addresses p e s) =
    let most = configure_most words v priority interval addresses e in
    set_long lists p addresses (omega (arith, (found words 0 p s).below)) most long
does_long words lists gone w l long (frees p e s) = long

-- a virtual router is found where it was if the same places have its number
pub same_router : (a b : List ℕ) (v : ℕ) → ((q : ℕ) → eqb (get_or a (base_of q) 0) v ≡ eqb (get_or b (base_of q) 0) v)
    → router_place a v ≡ router_place b v
unfolding router_place
same_router a b v h = ap (λ (f : Found). cond (eqb v 0) None f) (same_place a b v h)

-- so it is where another record is stored at a place that neither had nor has its number
pub stored_test : (words : List ℕ) (q : ℕ) (r : Router) (v : ℕ) → q < 255 → length words ≡ 4096 → ¬ (r.vrid ≡ v)
    → ¬ (get_or words (base_of q) 0 ≡ v) → (k : ℕ) → (k ≡ q) ⊎ (k ≡ q → ⊥)
    → eqb (get_or (set_record words q r) (base_of k) 0) v ≡ eqb (get_or words (base_of k) 0) v
stored_test words q r v below long new old k (inl e) =
    let after : ¬ (get_or (set_record words q r) (base_of q) 0 ≡ v) = λ z. new (sym (first_same words q r below long) ∙ z) in
    subst (λ (i : ℕ). eqb (get_or (set_record words q r) (base_of i) 0) v ≡ eqb (get_or words (base_of i) 0) v) (sym e)
    (ne_eqb (get_or (set_record words q r) (base_of q) 0) v after ∙ sym (ne_eqb (get_or words (base_of q) 0) v old))
stored_test words q r v below long new old k (inr n) = ap (λ (x : ℕ). eqb x v) (first_other words q r below long k n)

-- a virtual router is found by its number
found_test : (t : Bool) (words : List ℕ) (v p : ℕ) → cond t None (place_of words v) ≡ Some p → place_of words v ≡ Some p
found_test true words v p e = absurd cc
found_test false words v p e = e

sought_found : (words : List ℕ) (v p : ℕ) → router_place words v ≡ Some p → place_of words v ≡ Some p
unfolding router_place
sought_found words v p e = found_test (eqb v 0) words v p e

-- how a virtual router stands after a call that does not remove it
pub record Still (words lists w l : List ℕ) (v p : ℕ) : Type 0 where
  pub place : router_place w v ≡ Some p
  pub kept : Kept (record_at words p) (record_at w p)
  pub list : length lists ≡ 16320 → (n : ℕ) → n ≤ 16 → list_at l p n ≡ list_at lists p n

-- a router as it was
pub as_it_was : (r : Router) → Kept r r
as_it_was r = record { vrid = refl; priority = refl; interval = refl; preempt = refl; count = refl }

module _ (words lists : List ℕ) (held : Held words) (v p : ℕ) (at : router_place words v ≡ Some p) where
  word : (p < 255) × (get_or words (base_of p) 0 ≡ v) × (v ≡ 0 → ⊥)
  word = sought_word words v p at

  -- "18 VRID already in the table"
  pub new_number_lem : (u priority interval : ℕ) (addresses : List ℕ)
      → configure_refusal words u priority interval addresses ≡ 0 → u ≡ v → ⊥
  unfolding configure_refusal
  new_number_lem u priority interval addresses e z =
      let checks = passed (configure_checks words u priority interval addresses) (omega arith) e in
      let there : is_found (place_of words u) ≡ true = ap (λ (k : ℕ). is_found (place_of words k)) z ∙ ap is_found (sought_found words v p at) in
      cc

  -- another place, by its first word
  elsewhere : (q u : ℕ) → get_or words (base_of q) 0 ≡ u → ¬ (u ≡ v) → p ≡ q → ⊥
  elsewhere q u e n z = n (sym e ∙ ap (λ (k : ℕ). get_or words (base_of k) 0) (sym z) ∙ word.1)

  same_kept : (w : List ℕ) → record_at w p ≡ record_at words p → Kept (record_at words p) (record_at w p)
  same_kept w e = subst (λ (r : Router). Kept (record_at words p) r) (sym e) (as_it_was (record_at words p))

  changed_kept : (q : ℕ) (w : List ℕ) (r : Router) → Changed q words w r → (p ≡ q) ⊎ (p ≡ q → ⊥)
      → Kept (record_at words p) (record_at w p)
  changed_kept q w r c (inl e) =
      subst (λ (k : ℕ). Kept (record_at words k) (record_at w k)) (sym e)
      (subst (λ (x : Router). Kept (record_at words q) x) (sym c.here) c.kept)
  changed_kept q w r c (inr n) = same_kept w (beside_record q words w c.beside p n)

  -- storing a record for another virtual router, or for none, at another place
  stored_still : (q u : ℕ) (r : Router) (l : List ℕ) → q < 255 → get_or words (base_of q) 0 ≡ u → ¬ (u ≡ v) → ¬ (r.vrid ≡ v)
      → (length lists ≡ 16320 → (n : ℕ) → n ≤ 16 → list_at l p n ≡ list_at lists p n)
      → Still words lists (set_record words q r) l v p
  stored_still q u r l below e n new list =
      let old : ¬ (get_or words (base_of q) 0 ≡ v) = λ z. n (sym e ∙ z) in
      record {
        place =
            same_router (set_record words q r) words v
            (λ k. stored_test words q r v below held.long new old k (cases_eq k q))
            ∙ at;
        kept = same_kept (set_record words q r) (record_other words q r below held.long p (elsewhere q u e n));
        list = list;
      }

  pub still : (gone : ℕ) (w l : List ℕ) → ¬ (gone ≡ v) → Does words lists gone w l → Still words lists w l v p
  still gone w l other (moves after same) = record { place = at; kept = as_it_was (record_at words p); list = λ long n few. refl }
  still gone w l other (moves after (counts n least most)) =
      record {
        place = same_router w words v (λ q. ap (λ (x : ℕ). eqb x v) (count_first words n most q)) ∙ at;
        kept = same_kept w (count_record words n most p);
        list = λ long n few. refl;
      }
  still gone w l other (moves after (changes u q next r s c)) =
      record {
        place = same_router w words v (λ k. ap (λ (x : ℕ). eqb x v) (beside_first q words w c.beside k)) ∙ at;
        kept = changed_kept q w r c (cases_eq p q);
        list = λ long n few. refl;
      }
  still gone w l other (configures u priority interval preempt addresses q e s) =
      let free = found words 0 q s in
      let below : q < 255 = omega (arith, free.below) in
      let most = configure_most words u priority interval addresses e in
      let some : ¬ (0 ≡ v) = λ z. word.2 (sym z) in
      stored_still q 0 _ l below free.word some (λ z. new_number_lem u priority interval addresses e z)
      (λ long n few. list_other lists addresses q p n long below most few (elsewhere q 0 free.word some))
  still gone w l other (frees q e s) =
      let there = sought_word words gone q s in
      stored_still q gone freed l there.0 there.1 other (λ z. word.2 (sym z)) (λ long n few. refl)
