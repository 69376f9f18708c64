-- The theorems of this crate, as statements: each is proved under the same name in proofs/Theorems.antt.
use Rattle.std.specs.Prelude.{ℕ, ◌≡◌, List}
use Rattle.events.specs.Result.{Result}
use Rattle.table_c.specs.Numbered.{Numbered}

-- two outcomes that the promise of a call for C allows are equal
abbrev pub OneNumbered : Type 0
OneNumbered =
    (result : Result) (a b : ℕ) (words other room other_room : List ℕ) → Numbered result a words room
    → Numbered result b other other_room → (a ≡ b) × (words ≡ other) × (room ≡ other_room)
