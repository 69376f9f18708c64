-- The theorem of this crate, as a statement: it is proved under the same name in proofs/Theorems.antt.
use Rattle.std.specs.Prelude.{ℕ, ◌≡◌, List, Option}
use Rattle.headers.specs.declared.Unreadable.{Unreadable}
use Rattle.headers.specs.Packet.{cause_of}
use Rattle.headers.specs.Cause.{cause_answered}

-- two answers that the promise of `cause` allows are equal
abbrev pub OneCause : Type 0
OneCause =
    (packet : List ℕ) (a b : Option Unreadable) → cause_answered a ≡ cause_of packet → cause_answered b ≡ cause_of packet
    → a ≡ b
