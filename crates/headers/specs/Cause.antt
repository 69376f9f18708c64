-- The causes of refusal 1, by their places in 01's order.
use Rattle.std.specs.Prelude.{ℕ, Option, None, Some}
use Rattle.headers.specs.declared.Unreadable.{Unreadable}
use Rattle.headers.specs.declared.Unreadable.TheVariants.{Under20Bytes, NotVersion4, LengthFieldUnder5}
use Rattle.headers.specs.declared.Unreadable.TheVariants.{HeaderBeyondGiven, TotalBelowHeader, TotalBeyondGiven}

abbrev pub cause_number : Unreadable → ℕ
cause_number Under20Bytes = 1
cause_number NotVersion4 = 2
cause_number LengthFieldUnder5 = 3
cause_number HeaderBeyondGiven = 4
cause_number TotalBelowHeader = 5
cause_number TotalBeyondGiven = 6

-- the place of the first cause that holds, 0 where none does
abbrev pub cause_answered : Option Unreadable → ℕ
cause_answered None = 0
cause_answered (Some cause) = cause_number cause
