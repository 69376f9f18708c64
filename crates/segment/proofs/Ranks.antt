-- Rank among Masters: greater priority, then the numerically greater address. Of several Masters one is the greatest.
-- Assumes nothing.
use mathlib.Core.Path.{◌≡◌, refl, sym, subst}
use mathlib.Core.Logic.{◌⊎◌, inl, inr}
use mathlib.Core.Bool.{Bool, true, false}
use Prim.Native.Nat.{ℕ, zero, suc, ◌≤◌, ◌<◌}
use native.Mathlib.Omega.{arith}
use lib.Dec.{ltb}
use borrow.Author.Tests.{ltb-true, ltb-false}
use Rattle.std.proofs.lemmas.Bool.{cases_eq}

-- the first pair outranks the second
abbrev pub Above : ℕ → ℕ → ℕ → ℕ → Type 0
Above p a q b = (q < p) ⊎ ((q ≡ p) × (b < a))

pub above_asym : (p a q b : ℕ) → Above p a q b → Above q b p a → ⊥
above_asym p a q b (inl x) (inl y) = omega arith
above_asym p a q b (inl x) (inr y) = omega (arith, y.0)
above_asym p a q b (inr x) (inl y) = omega (arith, x.0)
above_asym p a q b (inr x) (inr y) = omega (arith, x.1, y.1)

above_trans : (p a q b r c : ℕ) → Above p a q b → Above q b r c → Above p a r c
above_trans p a q b r c (inl x) (inl y) = inl (omega arith)
above_trans p a q b r c (inl x) (inr y) = inl (omega (arith, y.0))
above_trans p a q b r c (inr x) (inl y) = inl (omega (arith, x.0))
above_trans p a q b r c (inr x) (inr y) = inr (omega (arith, x.0, y.0), omega (arith, x.1, y.1))

above_test : (s t u v : Bool) (p a q b : ℕ) → ltb q p ≡ s → ltb p q ≡ t → ltb b a ≡ u → ltb a b ≡ v → (a ≡ b → ⊥)
    → Above p a q b ⊎ Above q b p a
above_test true t u v p a q b e f g h n = inl (inl (ltb-true q p e))
above_test false true u v p a q b e f g h n = inr (inl (ltb-true p q f))
above_test false false true v p a q b e f g h n =
    inl (inr (omega (arith, ltb-false q p e, ltb-false p q f), ltb-true b a g))
above_test false false false true p a q b e f g h n =
    inr (inr (omega (arith, ltb-false q p e, ltb-false p q f), ltb-true a b h))
above_test false false false false p a q b e f g h n =
    absurd (n (omega (arith, ltb-false b a g, ltb-false a b h)))

-- of two with different addresses one outranks the other
pub above_either : (p a q b : ℕ) → (a ≡ b → ⊥) → Above p a q b ⊎ Above q b p a
above_either p a q b n = above_test (ltb q p) (ltb p q) (ltb b a) (ltb a b) p a q b refl refl refl refl n

-- numbered candidates: some are in, each has a priority and an address, and no two that are in have the same address
module _ (In : ℕ → Type 0) (decide : (i : ℕ) → In i ⊎ (In i → ⊥)) (priority address : ℕ → ℕ) (total : ℕ)
    (apart : (i j : ℕ) → i < total → j < total → address i ≡ address j → i ≡ j) where
  -- the greatest below a number
  pub record Greatest (n : ℕ) : Type 0 where
    pub which : ℕ
    pub below : which < n
    pub chosen : In which
    pub greatest : (i : ℕ) → i < n → (i ≡ which → ⊥) → In i → Above (priority which) (address which) (priority i) (address i)

  abbrev None : ℕ → Type 0
  None n = (i : ℕ) → i < n → In i → ⊥

  abbrev Tops : ℕ → ℕ → Type 0
  Tops k i = Above (priority k) (address k) (priority i) (address i)

  below_test : (i n : ℕ) → i < suc n → (i ≡ n → ⊥) → i < n
  below_test i n l e = omega arith

  -- the next one is not in
  skip_none : (n : ℕ) → (In n → ⊥) → None n → None (suc n)
  skip_none n out none i l x = either (cases_eq i n)
    where
      either : (i ≡ n) ⊎ (i ≡ n → ⊥) → ⊥
      either (inl z) = out (subst In z x)
      either (inr z) = none i (below_test i n l z) x

  skip_greatest : (n : ℕ) → (In n → ⊥) → Greatest n → Greatest (suc n)
  skip_greatest n out g =
      record {
        which = g.which;
        below = omega (arith, g.below);
        chosen = g.chosen;
        greatest = λ i l e x. either i l e x (cases_eq i n);
      }
    where
      either : (i : ℕ) → i < suc n → (i ≡ g.which → ⊥) → In i → (i ≡ n) ⊎ (i ≡ n → ⊥) → Tops g.which i
      either i l e x (inl z) = absurd (out (subst In z x))
      either i l e x (inr z) = g.greatest i (below_test i n l z) e x

  -- it is the first that is in
  first_greatest : (n : ℕ) → In n → None n → Greatest (suc n)
  first_greatest n x none =
      record {
        which = n;
        below = omega arith;
        chosen = x;
        greatest = λ i l e y. absurd (none i (below_test i n l e) y);
      }

  -- it outranks the greatest so far, or is outranked by it
  rises : (n : ℕ) → In n → (g : Greatest n) → Tops n g.which → Greatest (suc n)
  rises n x g up =
      record {
        which = n;
        below = omega arith;
        chosen = x;
        greatest = λ i l e y. either i (below_test i n l e) y (cases_eq i g.which);
      }
    where
      either : (i : ℕ) → i < n → In i → (i ≡ g.which) ⊎ (i ≡ g.which → ⊥) → Tops n i
      either i l y (inl z) = subst (Tops n) (sym z) up
      either i l y (inr z) =
          above_trans (priority n) (address n) (priority g.which) (address g.which) (priority i) (address i) up
          (g.greatest i l z y)

  stays : (n : ℕ) → (g : Greatest n) → Tops g.which n → Greatest (suc n)
  stays n g down =
      record {
        which = g.which;
        below = omega (arith, g.below);
        chosen = g.chosen;
        greatest = λ i l e y. either i l e y (cases_eq i n);
      }
    where
      either : (i : ℕ) → i < suc n → (i ≡ g.which → ⊥) → In i → (i ≡ n) ⊎ (i ≡ n → ⊥) → Tops g.which i
      either i l e y (inl z) = subst (Tops g.which) (sym z) down
      either i l e y (inr z) = g.greatest i (below_test i n l z) e y

  compare : (n : ℕ) → In n → (g : Greatest n) → Tops n g.which ⊎ Tops g.which n → Greatest (suc n)
  compare n x g (inl up) = rises n x g up
  compare n x g (inr down) = stays n g down

  add : (n : ℕ) → n < total → In n ⊎ (In n → ⊥) → None n ⊎ Greatest n → None (suc n) ⊎ Greatest (suc n)
  add n h (inr out) (inl none) = inl (skip_none n out none)
  add n h (inr out) (inr g) = inr (skip_greatest n out g)
  add n h (inl x) (inl none) = inr (first_greatest n x none)
  add n h (inl x) (inr g) =
      inr
      (compare n x g
      (above_either (priority n) (address n) (priority g.which) (address g.which)
      (λ z. let e = apart n g.which h (omega (arith, g.below)) z in omega (arith, g.below))))

  none_or_greatest : (n : ℕ) → n ≤ total → None n ⊎ Greatest n
  none_or_greatest zero h = inl (λ i l x. omega arith)
  none_or_greatest (suc n) h = add n (omega arith) (decide n) (none_or_greatest n (omega arith))

  not_none : (k : ℕ) → k < total → In k → None total ⊎ Greatest total → Greatest total
  not_none k l x (inl none) = absurd (none k l x)
  not_none k l x (inr g) = g

  -- where one is in, one of them is the greatest
  pub the_greatest : (k : ℕ) → k < total → In k → Greatest total
  the_greatest k l x = not_none k l x (none_or_greatest total (omega arith))
