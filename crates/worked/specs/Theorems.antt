-- The theorem of this crate, as a statement: it is proved under the same name in proofs/Cases.antt.
use Rattle.worked.specs.Cases.{Hold, cases}

-- "all P cases as one list under a single theorem"
abbrev pub CasesHold : Type 0
CasesHold = Hold cases
