-- The theorem that specs/Theorems.antt states.
-- Assumes nothing.
use mathlib.Core.Path.{◌≡◌, refl, sym, ◌∙◌}
use mathlib.Core.List.{List, [], ◌∷◌}
use lib.ListN.{get_or}
use Rattle.std.specs.Prelude.{Option, None, Some}
use Rattle.headers.specs.declared.Unreadable.{Unreadable}
use Rattle.headers.specs.declared.Unreadable.TheVariants.{Under20Bytes, NotVersion4, LengthFieldUnder5}
use Rattle.headers.specs.declared.Unreadable.TheVariants.{HeaderBeyondGiven, TotalBelowHeader, TotalBeyondGiven}
use Rattle.headers.specs.Cause.{cause_answered}
use Rattle.headers.specs.Theorems.{OneCause}

-- the answers in the order of their numbers
abbrev in_order : List (Option Unreadable)
in_order =
    None
    ∷ (Some Under20Bytes
    ∷ (Some NotVersion4
    ∷ (Some LengthFieldUnder5
    ∷ (Some HeaderBeyondGiven ∷ (Some TotalBelowHeader ∷ (Some TotalBeyondGiven ∷ []))))))

cause_named : (a : Option Unreadable) → get_or in_order (cause_answered a) None ≡ a
cause_named None = refl
cause_named (Some Under20Bytes) = refl
cause_named (Some NotVersion4) = refl
cause_named (Some LengthFieldUnder5) = refl
cause_named (Some HeaderBeyondGiven) = refl
cause_named (Some TotalBelowHeader) = refl
cause_named (Some TotalBeyondGiven) = refl

pub one_cause : OneCause
one_cause packet a b x y = sym (cause_named a) ∙ rw (x ∙ sym y) (cause_named b)
