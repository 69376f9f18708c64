-- The letters of the states, in ASCII (01, 'The rehearsal program').
use Rattle.std.specs.Prelude.{ℕ}
use Rattle.states.specs.declared.record.State.{State}
use Rattle.states.specs.declared.record.State.TheVariants.{Initialize, Backup, Master}

-- "a letter I, B or M"
abbrev pub letter_of : State → ℕ
letter_of Initialize = 73
letter_of Backup = 66
letter_of Master = 77
