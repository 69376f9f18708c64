-- Looking for a place: one turn of the search, and what a place that is found is.
-- Assumes nothing.
use Rattle.std.proofs.Common.{◌≡◌, ℕ, zero, suc, ◌+◌, ◌-◌, ◌<◌, ◌≤◌, Bool, true, false, cond, eqb, ◌⊎◌, List, get_or, sym, refl, ap, ◌∙◌, inl, inr, add-suc, suc-add, eq-or-lt_of_le, add-one, arith, eq-eqb, ne_eqb, eqb-true}
use borrow.Author.Tests.{eqb-false}
use Rattle.places.specs.Place.{Found, base_of, place_from, place_of}
use Rattle.std.specs.Prelude.{Some, None}

find_turn : (words : List ℕ) (v i : ℕ) → i < 255
    → place_from words v i (255 - i)
    ≡ cond (eqb (get_or words (base_of i) 0) v) (Some i) (place_from words v (i + 1) (255 - (i + 1)))
unfolding place_from
find_turn words v i h =
    let e : 255 - i ≡ suc (255 - (i + 1)) = omega arith in
    ap (place_from words v i) e
    ∙ ap (λ (k : ℕ). cond (eqb (get_or words (base_of i) 0) v) (Some i) (place_from words v k (255 - (i + 1)))) (sym (add-one i))

pub find_hit : (words : List ℕ) (v i : ℕ) → i < 255 → get_or words (base_of i) 0 ≡ v → place_from words v i (255 - i) ≡ Some i
find_hit words v i h e = find_turn words v i h ∙ rw (eq-eqb _ _ e)

pub find_miss : (words : List ℕ) (v i : ℕ) → i < 255 → (get_or words (base_of i) 0 ≡ v → ⊥)
    → place_from words v i (255 - i) ≡ place_from words v (i + 1) (255 - (i + 1))
find_miss words v i h e = find_turn words v i h ∙ rw (ne_eqb _ _ e)

pub find_end : (words : List ℕ) (v i : ℕ) → 255 ≤ i → place_from words v i (255 - i) ≡ None
unfolding place_from
find_end words v i h = let e : 255 - i ≡ 0 = omega arith in ap (place_from words v i) e

-- a place that is found is one of those looked at, has the word, and is the lowest that has it
pub record Lowest (words : List ℕ) (v i n p : ℕ) : Type 0 where
  pub from : i ≤ p
  pub below : p < i + n
  pub word : get_or words (base_of p) 0 ≡ v
  pub lowest : (q : ℕ) → i ≤ q → q < p → get_or words (base_of q) 0 ≡ v → ⊥

found_test : (t : Bool) (words : List ℕ) (v i n p : ℕ) (rest : Found) → eqb (get_or words (base_of i) 0) v ≡ t → cond t (Some i) rest ≡ Some p
    → (rest ≡ Some p → Lowest words v (suc i) n p) → Lowest words v i (suc n) p
found_test true words v i n p rest t e f =
    let z : i ≡ p = cc in
    record {
      from = omega arith;
      below = omega (arith, add-suc i n);
      word = sym (ap (λ (k : ℕ). get_or words (base_of k) 0) z) ∙ eqb-true _ _ t;
      lowest = λ q a b c. omega arith;
    }
found_test false words v i n p rest t e f =
    let l = f e in
    record {
      from = omega arith;
      below = omega (arith, add-suc i n, suc-add i n);
      word = l.word;
      lowest = λ q a b c. lowest_test q a b c (eq-or-lt_of_le a);
    }
  where
    lowest_test : (q : ℕ) → i ≤ q → q < p → get_or words (base_of q) 0 ≡ v → (i ≡ q) ⊎ (i < q) → ⊥
    lowest_test q a b c (inl y) = eqb-false _ _ t (ap (λ (k : ℕ). get_or words (base_of k) 0) y ∙ c)
    lowest_test q a b c (inr y) = (f e).lowest q y b c

found_from : (words : List ℕ) (v i n p : ℕ) → place_from words v i n ≡ Some p → Lowest words v i n p
unfolding place_from
found_from words v i zero p e = absurd cc
found_from words v i (suc n) p e =
    found_test (eqb (get_or words (base_of i) 0) v) words v i n p (place_from words v (suc i) n) refl e (found_from words v (suc i) n p)

pub found : (words : List ℕ) (v p : ℕ) → place_of words v ≡ Some p → Lowest words v 0 255 p
unfolding place_of
found words v p e = found_from words v 0 255 p e

missing_test : (t : Bool) (words : List ℕ) (v i n : ℕ) (rest : Found) → eqb (get_or words (base_of i) 0) v ≡ t → cond t (Some i) rest ≡ None
    → (rest ≡ None → (q : ℕ) → suc i ≤ q → q < suc i + n → get_or words (base_of q) 0 ≡ v → ⊥)
    → (q : ℕ) → i ≤ q → q < i + suc n → get_or words (base_of q) 0 ≡ v → ⊥
missing_test true words v i n rest t e f q a b c = cc
missing_test false words v i n rest t e f q a b c = other (eq-or-lt_of_le a)
  where
    other : (i ≡ q) ⊎ (i < q) → ⊥
    other (inl y) = eqb-false _ _ t (ap (λ (k : ℕ). get_or words (base_of k) 0) y ∙ c)
    other (inr y) = f e q y (omega (arith, add-suc i n, suc-add i n)) c

missing_from : (words : List ℕ) (v i n : ℕ) → place_from words v i n ≡ None
    → (q : ℕ) → i ≤ q → q < i + n → get_or words (base_of q) 0 ≡ v → ⊥
unfolding place_from
missing_from words v i zero e = λ q a b c. omega arith
missing_from words v i (suc n) e =
    missing_test (eqb (get_or words (base_of i) 0) v) words v i n (place_from words v (suc i) n) refl e (missing_from words v (suc i) n)

-- what is not found stands at no place
pub missing : (words : List ℕ) (v : ℕ) → place_of words v ≡ None → (q : ℕ) → q < 255 → get_or words (base_of q) 0 ≡ v → ⊥
unfolding place_of
missing words v e q h c = missing_from words v 0 255 e q (omega arith) (omega arith) c

-- where the same places have the word, the same place is found
same_from : (a b : List ℕ) (v i n : ℕ) → ((q : ℕ) → eqb (get_or a (base_of q) 0) v ≡ eqb (get_or b (base_of q) 0) v)
    → place_from a v i n ≡ place_from b v i n
unfolding place_from
same_from a b v i zero h = refl
same_from a b v i (suc n) h =
    ap (λ (t : Bool). cond t (Some i) (place_from a v (suc i) n)) (h i)
    ∙ ap (λ (f : Found). cond (eqb (get_or b (base_of i) 0) v) (Some i) f) (same_from a b v (suc i) n h)

pub same_place : (a b : List ℕ) (v : ℕ) → ((q : ℕ) → eqb (get_or a (base_of q) 0) v ≡ eqb (get_or b (base_of q) 0) v)
    → place_of a v ≡ place_of b v
unfolding place_of
same_place a b v h = same_from a b v 0 255 h
