-- The theorem of this crate, as a statement: it is proved under the same name in proofs/Theorems.antt.
use Rattle.std.specs.Prelude.{ℕ, ◌≡◌, List, length}
use Rattle.states.specs.declared.record.Router.{Router}
use Rattle.states.specs.declared.step.Writes.{Writes}
use Rattle.output.specs.Output.{bytes_of, need_of}

-- what an event writes has the length that is asked for
abbrev pub AsLongAsNeeded : Type 0
AsLongAsNeeded =
    (writes : Writes) (r : Router) (primary : ℕ) (list : List ℕ)
    → length (bytes_of writes r primary list) ≡ need_of writes (length list)
