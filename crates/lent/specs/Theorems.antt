-- The theorem of this crate, as a statement: it is proved under the same name in proofs/Theorems.antt.
use Rattle.std.specs.Prelude.{◌≡◌}
use Rattle.lent.specs.declared.Moved.{Moved}
use Rattle.lent.specs.Lent.{Moves}
use Rattle.stations.specs.List.{ListResult}

-- two outcomes that the promise of a call on a copy allows are equal
abbrev pub OneMove : Type 0
OneMove = (result : ListResult) (a b : Moved) → Moves result a → Moves result b → a ≡ b
