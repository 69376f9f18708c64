-- A script that is run in pieces, as much at a time as there is room for (01, 'The rehearsal program').
use Rattle.std.specs.Prelude.{ℕ, suc, ◌-◌, ◌≡◌, List, [], ◌++◌, Bool, true, false, cond, ◌||◌, ltb, length, drop}
use Rattle.script.specs.declared.progress.Progress.{Progress}
use Rattle.rehearsal.specs.declared.Ran.{Ran}
use Rattle.script.specs.Lines.{Printed, refused_line}
use Rattle.script.specs.Script.{lines_from}
use Rattle.script.specs.Progress.{exhausted, segment_in}
use Rattle.turns.specs.Turn.{step_of}

-- the output that is still due
unfoldable pub due_of : List ℕ → Progress → List ℕ
due_of script p =
    cond p.reading.done []
    (cond (ltb 65536 (length script)) (refused_line 0 30)
    (cond (exhausted script p) [] (lines_from (segment_in p) p.reading.number (drop p.reading.at script) 0)))

-- what is left to do: a byte at least for each record, and one more for the end
abbrev pub left_of : List ℕ → Progress → ℕ
left_of script p = cond p.reading.done 0 (suc (length script - p.reading.at))

-- a run stops where all is done, or a line of 32 bytes might not fit
abbrev pub stops_at : Progress → ℕ → Bool
stops_at p room = p.reading.done || ltb room 32

-- the text of a run with so much room, and where it leaves the script
pub data Runs (script : List ℕ) : Progress → ℕ → List ℕ → Progress → Type 0 where
  stops : {p : Progress} {room : ℕ} → stops_at p room ≡ true → Runs script p room [] p
  goes : {p q : Progress} {room : ℕ} {text : List ℕ} → stops_at p room ≡ false
      → Runs script (step_of script p).progress (room - length (step_of script p).line) text q
      → Runs script p room ((step_of script p).line ++ text) q

-- the promise of a run: its text stands at the start of the room, and every byte past it is as it was
pub record RunLeaves (script : List ℕ) (p : Progress) (before : List ℕ) (ran : Ran) (after : List ℕ) : Type 0 where
  pub text : List ℕ
  pub runs : Runs script p (length before) text ran.progress
  pub printed : Printed text before ran.written after
