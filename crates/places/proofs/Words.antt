-- The first word of a place, and what storing a record or counting a refusal does to it.
-- Assumes nothing.
use Rattle.std.proofs.Common.{◌≡◌, ℕ, ◌+◌, ◌<◌, ◌≤◌, List, length, get_or, take, drop, sym, ap, ◌∙◌, add-zero, arith, length-set, get_or-drop, get_or-set_other, get_or-take, get_or-set_same, drop-set-lt}
use Rattle.states.specs.declared.record.Router.{Router}
use Rattle.states.specs.Step.{counted}
use Rattle.places.specs.Layout.{decode_of, encode_of}
use Rattle.places.specs.Place.{base_of, record_at, set_record, refusal_count, count_refusal}
use Rattle.places.proofs.Beside.{part_word}
use Rattle.places.proofs.Parts.{part_same, part_before}
use Rattle.places.proofs.Records.{other_part, encode_length}

part_first : (words : List ℕ) (a n : ℕ) → 0 < n → get_or (take n (drop a words)) 0 0 ≡ get_or words a 0
part_first words a n h =
    get_or-take n (drop a words) 0 0 h ∙ get_or-drop a words 0 0 ∙ ap (λ (k : ℕ). get_or words k 0) (add-zero a)

module _ (words : List ℕ) (p : ℕ) (r : Router) (below : p < 255) (long : length words ≡ 4096) where
  pub first_same : get_or (set_record words p r) (base_of p) 0 ≡ r.vrid
  unfolding set_record encode_of
  first_same =
      sym (part_first (set_record words p r) (base_of p) 16 (omega arith))
      ∙ ap (λ (s : List ℕ). get_or s 0 0) (part_same words (encode_of r) (base_of p) 16 (omega arith) (encode_length r))

  pub first_other : (q : ℕ) → (q ≡ p → ⊥) → get_or (set_record words p r) (base_of q) 0 ≡ get_or words (base_of q) 0
  unfolding set_record
  first_other q n =
      sym (part_first (set_record words p r) (base_of q) 16 (omega arith))
      ∙ ap (λ (s : List ℕ). get_or s 0 0) (other_part words p r below long q n)
      ∙ part_first words (base_of q) 16 (omega arith)

  -- the words of the place, and of every other
  pub word_same : (k : ℕ) → k < 16 → get_or (set_record words p r) (base_of p + k) 0 ≡ get_or (encode_of r) k 0
  unfolding set_record
  word_same k h =
      sym (part_word (set_record words p r) p k h)
      ∙ ap (λ (s : List ℕ). get_or s k 0) (part_same words (encode_of r) (base_of p) 16 (omega arith) (encode_length r))

  pub word_other : (q k : ℕ) → (q ≡ p → ⊥) → k < 16 → get_or (set_record words p r) (base_of q + k) 0 ≡ get_or words (base_of q + k) 0
  unfolding set_record
  word_other q k n h =
      sym (part_word (set_record words p r) q k h)
      ∙ ap (λ (s : List ℕ). get_or s k 0) (other_part words p r below long q n)
      ∙ part_word words q k h

  -- storing a record leaves the interface's counts as they were
  pub store_count : (number : ℕ) → number ≤ 9 → refusal_count (set_record words p r) number ≡ refusal_count words number
  unfolding set_record refusal_count
  store_count number small =
      sym (part_first (set_record words p r) number 1 (omega arith))
      ∙ ap (λ (s : List ℕ). get_or s 0 0)
      (part_before words (encode_of r) (base_of p) 16 number 1 (omega arith) (encode_length r) (omega arith))
      ∙ part_first words number 1 (omega arith)

-- counting a refusal leaves every place as it was
module _ (words : List ℕ) (number : ℕ) (small : number ≤ 9) where
  pub count_first : (q : ℕ) → get_or (count_refusal words number) (base_of q) 0 ≡ get_or words (base_of q) 0
  unfolding count_refusal
  count_first q = get_or-set_other words number (base_of q) _ 0 (λ z. omega arith)

  pub count_place : (q k : ℕ) → get_or (count_refusal words number) (base_of q + k) 0 ≡ get_or words (base_of q + k) 0
  unfolding count_refusal
  count_place q k = get_or-set_other words number (base_of q + k) _ 0 (λ z. omega arith)

  pub count_record : (q : ℕ) → record_at (count_refusal words number) q ≡ record_at words q
  unfolding record_at count_refusal
  count_record q = ap (λ (s : List ℕ). decode_of (take 16 s)) (drop-set-lt (base_of q) words number _ (omega arith))

  pub count_length : length (count_refusal words number) ≡ length words
  unfolding count_refusal
  count_length = length-set words number _

  pub count_same : length words ≡ 4096 → refusal_count (count_refusal words number) number ≡ counted (refusal_count words number)
  unfolding refusal_count count_refusal
  count_same long = get_or-set_same words number _ 0 (omega arith)

  pub count_other : (k : ℕ) → (k ≡ number → ⊥) → refusal_count (count_refusal words number) k ≡ refusal_count words k
  unfolding refusal_count count_refusal
  count_other k n = get_or-set_other words number k _ 0 n
