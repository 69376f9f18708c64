-- The theorems of this crate, as statements: each is proved under the same name in proofs/Theorems.antt.
use Rattle.std.specs.Prelude.{ℕ, ◌≡◌, List}
use Rattle.judging.specs.Judging.{refusal_of}
use Rattle.vrrp_c.specs.Answer.{Answered}

-- two answers that the promise of judging for C allows are equal
abbrev pub OneNumber : Type 0
OneNumber = (packet : List ℕ) (a b : ℕ) → a ≡ refusal_of packet → b ≡ refusal_of packet → a ≡ b

-- two outcomes that the promise of writing for C allows are equal
abbrev pub OneAnswer : Type 0
OneAnswer =
    (refusal : ℕ) (frame before : List ℕ) (a b : ℕ) (after other : List ℕ)
    → Answered refusal frame before a after → Answered refusal frame before b other → (a ≡ b) × (after ≡ other)
