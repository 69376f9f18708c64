-- The kinds of a script's records (01, 'The rehearsal program').
use Rattle.std.specs.Prelude.{ℕ, ◌≡◌, [], ◌∷◌, get_or, Option, Some, None, Result, MatchResult}
use Rattle.wire.specs.declared.refusal.Refusal.{Refusal}
use Rattle.wire.specs.declared.refusal.Refusal.TheVariants.{UnknownKind}
use Rattle.script.specs.declared.kinds.Kind.{Kind}
use Rattle.script.specs.declared.kinds.Kind.TheVariants.{NewSegment, NewStation, Startup, Shutdown, Clock, Deliver}

-- "Each record is one byte of kind": 1 segment, 2 station, 3 startup, 4 shutdown, 5 clock, 6 deliver
unfoldable pub kind_of : ℕ → Option Kind
kind_of byte =
    get_or
    (None ∷ (Some NewSegment ∷ (Some NewStation ∷ (Some Startup ∷ (Some Shutdown ∷ (Some Clock ∷ (Some Deliver ∷ [])))))))
    byte None

-- what is made of a byte: its kind, or 23
abbrev pub Names : ℕ → Result Kind Refusal → Type 0
Names byte r = MatchResult r (λ kind. kind_of byte ≡ Some kind) (λ e. (kind_of byte ≡ None) × (e ≡ UnknownKind))

-- "and a body whose length the kind fixes"
abbrev pub body_length : Option Kind → ℕ
body_length None = 0
body_length (Some NewSegment) = 6
body_length (Some NewStation) = 6
body_length (Some Startup) = 1
body_length (Some Shutdown) = 1
body_length (Some Clock) = 2
body_length (Some Deliver) = 2

-- the number of a kind, 0 where it is unknown
abbrev pub kind_number : Option Kind → ℕ
kind_number None = 0
kind_number (Some NewSegment) = 1
kind_number (Some NewStation) = 2
kind_number (Some Startup) = 3
kind_number (Some Shutdown) = 4
kind_number (Some Clock) = 5
kind_number (Some Deliver) = 6
