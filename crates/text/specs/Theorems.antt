-- The theorem of this crate, as a statement: it is proved under the same name in proofs/Theorems.antt.
use Rattle.std.specs.Prelude.{ℕ, ◌≡◌, List}
use Rattle.text.specs.Appended.{Appended}

-- two outcomes that the promise of putting text allows are equal
abbrev pub OneAppended : Type 0
OneAppended =
    (before : List ℕ) (at : ℕ) (bytes after other : List ℕ) (a b : ℕ) → Appended before at bytes after a
    → Appended before at bytes other b → (after ≡ other) × (a ≡ b)
