-- An empty table: every place is free.
-- Assumes nothing.
use mathlib.Core.Path.{◌≡◌, refl, sym, ap, ◌∙◌}
use mathlib.Core.List.{List, ◌∷◌}
use Prim.Native.Nat.{ℕ, zero, suc, ◌+◌, ◌-◌, ◌*◌, ◌≤◌, ◌<◌}
use native.Mathlib.Nat.{suc-add}
use native.Mathlib.Omega.{arith}
use lib.ListN.{length, get_or, take, drop, replicate, length-replicate, get_or-replicate}
use Rattle.states.specs.declared.record.Router.{Router}
use Rattle.places.specs.Layout.{decode_of}
use Rattle.places.specs.Place.{base_of, record_at, refusal_count}
use Rattle.configuring.specs.Configuring.{empty_of, freed}
use Rattle.histories.proofs.Held.{Held}

abbrev zeros : ℕ → List ℕ
zeros n = replicate n 0

take_zeros : (k m : ℕ) → take k (zeros (k + m)) ≡ zeros k
take_zeros zero m = refl
take_zeros (suc k) m = ap (λ (n : ℕ). take (suc k) (zeros n)) (suc-add k m) ∙ ap (λ (l : List ℕ). 0 ∷ l) (take_zeros k m)

drop_zeros : (k m : ℕ) → drop k (zeros (k + m)) ≡ zeros m
drop_zeros zero m = let e : 0 + m ≡ m = omega arith in ap zeros e
drop_zeros (suc k) m = ap (λ (n : ℕ). drop (suc k) (zeros n)) (suc-add k m) ∙ drop_zeros k m

-- any 16 numbers of a list of zeros, past its first element
part_zeros : (n k m x : ℕ) → n ≡ k + (16 + m) → take 16 (drop (suc k) (x ∷ zeros n)) ≡ zeros 16
part_zeros n k m x e =
    ap (λ (i : ℕ). take 16 (drop k (zeros i))) e
    ∙ ap (take 16) (drop_zeros k (16 + m))
    ∙ take_zeros 16 m

first_zeros : (n k x : ℕ) → k < n → get_or (x ∷ zeros n) (suc k) 0 ≡ 0
first_zeros n k x h = get_or-replicate n k 0 0 h

module _ (primary : ℕ) where
  empty_long : length (empty_of primary) ≡ 4096
  unfolding empty_of
  empty_long = ap suc (length-replicate {A = ℕ} 4095 0)

  pub empty_count : (number : ℕ) → 1 ≤ number → number ≤ 9 → refusal_count (empty_of primary) number ≡ 0
  unfolding empty_of refusal_count
  empty_count number least most =
      let e : number ≡ suc (number - 1) = omega arith in
      ap (λ (k : ℕ). get_or (primary ∷ zeros 4095) k 0) e ∙ first_zeros 4095 (number - 1) primary (omega arith)

  empty_first : (p : ℕ) → p < 255 → get_or (empty_of primary) (base_of p) 0 ≡ 0
  unfolding empty_of
  empty_first p h =
      let e : base_of p ≡ suc (15 + 16 * p) = omega arith in
      ap (λ (k : ℕ). get_or (primary ∷ zeros 4095) k 0) e ∙ first_zeros 4095 (15 + 16 * p) primary (omega arith)

  empty_word : (p k : ℕ) → p < 255 → k < 16 → get_or (empty_of primary) (base_of p + k) 0 ≡ 0
  unfolding empty_of
  empty_word p k h b =
      let e : base_of p + k ≡ suc (15 + 16 * p + k) = omega arith in
      ap (λ (i : ℕ). get_or (primary ∷ zeros 4095) i 0) e ∙ first_zeros 4095 (15 + 16 * p + k) primary (omega arith)

  pub empty_record : (p : ℕ) → p < 255 → record_at (empty_of primary) p ≡ freed
  unfolding record_at empty_of decode_of
  empty_record p h =
      let e : base_of p ≡ suc (15 + 16 * p) = omega arith in
      ap (λ (k : ℕ). decode_of (take 16 (drop k (primary ∷ zeros 4095)))) e
      ∙ ap decode_of (part_zeros 4095 (15 + 16 * p) (4064 - 16 * p) primary (omega arith))

  pub empty_held : Held (empty_of primary)
  empty_held =
      record {
        long = empty_long;
        unique = λ a b u v n e. empty_first a u;
        sound =
            λ p h.
            record {
              named = empty_first p h ∙ sym (ap (λ (r : Router). r.vrid) (empty_record p h));
              timed = rw (empty_record p h) refl;
              configured = λ z. absurd (z (empty_first p h));
              free = λ z k b. empty_word p k h b;
            };
      }
