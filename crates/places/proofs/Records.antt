-- What is stored at a place is read back there, and every other place keeps its record.
-- Assumes nothing.
use Rattle.std.proofs.Common.{◌≡◌, ℕ, ◌<◌, Bool, true, false, eqb, List, length, take, drop, refl, ap, ◌∙◌, inl, inr, ⊎_elim, mod-lt, mod-eq_of_lt, arith}
use lib.Seq.{paste, length-paste}
use Rattle.states.specs.declared.record.State.{State}
use Rattle.states.specs.declared.record.State.TheVariants.{Initialize, Backup, Master}
use Rattle.states.specs.declared.record.Router.{Router}
use Rattle.states.specs.Step.{state_number}
use Rattle.places.specs.Layout.{flag_of, state_of, decode_of, encode_of, InRange}
use Rattle.places.specs.Place.{base_of, record_at, set_record}
use Rattle.places.proofs.Parts.{part_same, part_other, apart}

flag_back : (b : Bool) → eqb (flag_of b) 1 ≡ b
flag_back true = refl
flag_back false = refl

pub state_back : (s : State) → state_of (state_number s) ≡ s
state_back Initialize = refl
state_back Backup = refl
state_back Master = refl

pub decode_encode : (r : Router) → InRange r → decode_of (encode_of r) ≡ r
unfolding decode_of encode_of
decode_encode r h =
    λ z.
    record {
      vrid = mod-eq_of_lt h.vrid z;
      priority = mod-eq_of_lt h.priority z;
      interval = mod-eq_of_lt h.interval z;
      preempt = flag_back r.preempt z;
      state = state_back r.state z;
      timer = r.timer;
      count = mod-eq_of_lt h.count z;
      counts = r.counts;
    }

pub encode_length : (r : Router) → length (encode_of r) ≡ 16
unfolding encode_of
encode_length r = refl

module _ (words : List ℕ) (place : ℕ) (r : Router) (below : place < 255) (long : length words ≡ 4096) where
  pub record_same : InRange r → record_at (set_record words place r) place ≡ r
  unfolding record_at set_record
  record_same h =
      ap decode_of (part_same words (encode_of r) (base_of place) 16 (omega arith) (encode_length r)) ∙ decode_encode r h

  pub other_part : (q : ℕ) → (q ≡ place → ⊥)
      → take 16 (drop (base_of q) (paste words (base_of place) (encode_of r) 16)) ≡ take 16 (drop (base_of q) words)
  other_part q n =
      part_other words (encode_of r) (base_of place) 16 (base_of q) 16 (omega arith) (encode_length r)
      (⊎_elim (λ x. inl (omega arith)) (λ x. inr (omega arith)) (apart q place n))

  pub record_other : (q : ℕ) → (q ≡ place → ⊥) → record_at (set_record words place r) q ≡ record_at words q
  unfolding record_at set_record
  record_other q n = ap decode_of (other_part q n)

  pub store_length : length (set_record words place r) ≡ 4096
  unfolding set_record
  store_length = length-paste words (base_of place) (encode_of r) 16 (omega arith) (omega (arith, encode_length r)) ∙ long

-- whatever the words, a record that they hold is in range
pub decode_in_range : (s : List ℕ) → InRange (decode_of s)
unfolding decode_of
decode_in_range s =
    record {
      vrid = mod-lt _ (omega arith);
      priority = mod-lt _ (omega arith);
      interval = mod-lt _ (omega arith);
      count = mod-lt _ (omega arith);
    }

-- and so is one that is read
pub read_in_range : (words : List ℕ) (place : ℕ) → InRange (record_at words place)
unfolding record_at
read_in_range words place = decode_in_range (take 16 (drop (base_of place) words))
