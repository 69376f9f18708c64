-- What a store within a place, past its first word, leaves as it was: everything outside, and every first word.
-- Assumes nothing.
use Rattle.std.proofs.Common.{◌≡◌, ℕ, ◌+◌, ◌%◌, ◌<◌, ◌≤◌, Bool, true, false, eqb, ltb, ◌⊎◌, List, length, get_or, take, drop, set, sym, refl, ◌∙◌, inl, inr, ⊎_elim, arith, length-set, get_or-drop, get_or-set_other, get_or-take, ltb-false, ltb-true}
use Rattle.places.specs.Layout.{state_of, decode_of}
use Rattle.places.specs.Place.{base_of, record_at, primary_of, refusal_count}
use Rattle.places.proofs.Parts.{apart}

pub record Beside (p : ℕ) (words after : List ℕ) : Type 0 where
  pub long : length after ≡ length words
  pub outside : (i : ℕ) → (i ≤ base_of p) ⊎ (base_of p + 16 ≤ i) → get_or after i 0 ≡ get_or words i 0

pub beside_then : (p : ℕ) (a b c : List ℕ) → Beside p a b → Beside p b c → Beside p a c
beside_then p a b c x y =
    record { long = y.long ∙ x.long; outside = λ i o. y.outside i o ∙ x.outside i o }

-- storing one word past the first
pub set_beside : (p : ℕ) (words : List ℕ) (j v : ℕ) → 1 ≤ j → j < 16 → Beside p words (set words (base_of p + j) v)
set_beside p words j v least most =
    record {
      long = length-set words (base_of p + j) v;
      outside =
          λ i o.
          get_or-set_other words (base_of p + j) i v 0
          (λ z. ⊎_elim {C = ⊥} (λ x. omega arith) (λ x. omega arith) o);
    }

-- a record is what its 16 words say
decode_words : (s t : List ℕ) → ((k : ℕ) → k < 16 → get_or s k 0 ≡ get_or t k 0) → decode_of s ≡ decode_of t
unfolding decode_of
decode_words s t h =
    λ z.
    record {
      vrid = h 0 (omega arith) z % 256;
      priority = h 1 (omega arith) z % 256;
      interval = h 2 (omega arith) z % 256;
      preempt = eqb (h 3 (omega arith) z) 1;
      state = state_of (h 4 (omega arith) z);
      timer = h 5 (omega arith) z;
      count = h 6 (omega arith) z % 17;
      counts =
          record {
            accepted = h 7 (omega arith) z;
            became = h 8 (omega arith) z;
            owner = h 9 (omega arith) z;
            authentication = h 10 (omega arith) z;
            list = h 11 (omega arith) z;
            interval = h 12 (omega arith) z;
          };
    }

-- the word k of a place's part is word k of the place
pub part_word : (words : List ℕ) (p k : ℕ) → k < 16 → get_or (take 16 (drop (base_of p) words)) k 0 ≡ get_or words (base_of p + k) 0
part_word words p k h = get_or-take 16 (drop (base_of p) words) k 0 h ∙ get_or-drop (base_of p) words k 0

pub same_record : (a b : List ℕ) (q : ℕ) → ((k : ℕ) → k < 16 → get_or a (base_of q + k) 0 ≡ get_or b (base_of q + k) 0)
    → record_at a q ≡ record_at b q
unfolding record_at
same_record a b q h =
    decode_words _ _ (λ k m. part_word a q k m ∙ h k m ∙ sym (part_word b q k m))

-- the first word of a place stands outside every other place, and is no word past the first of its own
first_test : (t : Bool) (q p : ℕ) → ltb p q ≡ t → (base_of q ≤ base_of p) ⊎ (base_of p + 16 ≤ base_of q)
first_test true q p e = inr (omega (arith, ltb-true p q e))
first_test false q p e = inl (omega (arith, ltb-false p q e))

module _ (p : ℕ) (words after : List ℕ) (beside : Beside p words after) where
  -- every place has the first word it had
  pub beside_first : (q : ℕ) → get_or after (base_of q) 0 ≡ get_or words (base_of q) 0
  beside_first q = beside.outside (base_of q) (first_test (ltb p q) q p refl)

  -- every other place has the words it had, and so its record
  pub beside_word : (q k : ℕ) → (q ≡ p → ⊥) → k < 16 → get_or after (base_of q + k) 0 ≡ get_or words (base_of q + k) 0
  beside_word q k n h =
      beside.outside (base_of q + k) (⊎_elim (λ x. inl (omega arith)) (λ x. inr (omega arith)) (apart q p n))

  pub beside_record : (q : ℕ) → (q ≡ p → ⊥) → record_at after q ≡ record_at words q
  beside_record q n = same_record after words q (λ k h. beside_word q k n h)

  -- and so has the interface
  pub beside_count : (number : ℕ) → number ≤ 9 → refusal_count after number ≡ refusal_count words number
  unfolding refusal_count
  beside_count number small = beside.outside number (inl (omega arith))

  pub beside_primary : primary_of after ≡ primary_of words
  unfolding primary_of
  beside_primary = beside.outside 0 (inl (omega arith))
