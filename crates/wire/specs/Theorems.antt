-- The theorems of promises that are an equation or a refusal's number; each is proved under the same name in proofs/Theorems.antt.
use Rattle.std.specs.Prelude.{ℕ, ◌≡◌, Result, IfOk}
use Rattle.std.specs.Result.{result_map_both}
use Rattle.wire.specs.declared.refusal.Refusal.{Refusal}
use Rattle.wire.specs.Refusal.{number_answered}

-- "two outcomes allowed by a promise are equal": answers, memory or rooms that a promise says to be one value
abbrev pub OneValue : Type 1
OneValue = (A : Type 0) (value a b : A) → a ≡ value → b ≡ value → a ≡ b

-- the same of a check whose number is promised: each but 22, which has the room needed beside it, says the whole answer
abbrev pub OneRefusal : Type 0
OneRefusal =
    (number : ℕ) (a b : Result Unit Refusal) → ¬ (number ≡ 22) → number_answered a ≡ number → number_answered b ≡ number
    → a ≡ b

-- the same of a value or a refusal, in all that a value tells: answers whose number is not 22 and whose values tell the same
abbrev pub OneTaken : Type 1
OneTaken =
    (T A : Type 0) (told : T → A) (value : A) (number : ℕ) (a b : Result T Refusal) → ¬ (number ≡ 22)
    → number_answered a ≡ number → number_answered b ≡ number
    → IfOk a (λ x. told x ≡ value) → IfOk b (λ x. told x ≡ value)
    → result_map_both told (λ (refusal : Refusal). refusal) a ≡ result_map_both told (λ (refusal : Refusal). refusal) b
