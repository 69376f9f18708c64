-- The theorems of this crate, as statements: each is proved under the same name in proofs/Theorems.antt.
use Rattle.std.specs.Prelude.{ℕ, ◌≤◌, ◌<◌, ◌≡◌, true, false, List, [], ◌++◌, length, take}
use Rattle.script.specs.declared.progress.Progress.{Progress}
use Rattle.turns.specs.declared.Turn.{Turn}
use Rattle.rehearsal.specs.declared.Ran.{Ran}
use Rattle.script.specs.Lines.{Printed}
use Rattle.script.specs.Script.{rehearsal_of}
use Rattle.script.specs.Progress.{started}
use Rattle.turns.specs.Turn.{Turns, step_of, told_of, found_in, number_in}
use Rattle.rehearsal.specs.Run.{due_of, left_of, RunLeaves}

-- two outcomes that the promise of a line allows are equal
abbrev pub OnePrinted : Type 0
OnePrinted =
    (text before : List ℕ) (a b : ℕ) (after other : List ℕ) → Printed text before a after → Printed text before b other
    → (a ≡ b) × (after ≡ other)

-- what the promise of a turn says
pub record TurnOf (script : List ℕ) (p : Progress) (turn : Turn) : Type 0 where
  pub turn_is : Turns p (step_of script p) turn
  pub found_is : told_of turn.found ≡ found_in script p
  pub number_is : turn.number ≡ number_in script p

-- two outcomes that the promise of a turn allows are equal in what they tell
abbrev pub OneTurn : Type 0
OneTurn =
    (script : List ℕ) (p : Progress) (a b : Turn) → TurnOf script p a → TurnOf script p b
    → (told_of a.found ≡ told_of b.found) × (a.number ≡ b.number) × (a.reading ≡ b.reading)

-- two outcomes that the promise of a run allows are equal
abbrev pub OneRun : Type 0
OneRun =
    (script : List ℕ) (p : Progress) (before : List ℕ) (a b : Ran) (after other : List ℕ)
    → RunLeaves script p before a after → RunLeaves script p before b other → (a ≡ b) × (after ≡ other)

-- the output that was due is what a run has written, and then what is due after it
abbrev pub RunDue : Type 0
RunDue =
    (script : List ℕ) (p : Progress) (before : List ℕ) (ran : Ran) (after : List ℕ)
    → RunLeaves script p before ran after
    → due_of script p ≡ take ran.written after ++ due_of script ran.progress

-- with room for a line, a run that is not done leaves less to do
abbrev pub RunFalls : Type 0
RunFalls =
    (script : List ℕ) (p : Progress) (before : List ℕ) (ran : Ran) (after : List ℕ)
    → RunLeaves script p before ran after → p.reading.done ≡ false → 32 ≤ length before
    → left_of script ran.progress < left_of script p

-- a run keeps the room's length, and writes within it
abbrev pub RunWithin : Type 0
RunWithin =
    (script : List ℕ) (p : Progress) (before : List ℕ) (ran : Ran) (after : List ℕ)
    → RunLeaves script p before ran after → (length after ≡ length before) × (ran.written ≤ length after)

-- runs one after another, each with any room, until all is done; and what they write together
pub data Pieces (script : List ℕ) : Progress → List ℕ → Type 0 where
  done : {p : Progress} → p.reading.done ≡ true → Pieces script p []
  piece : {p : Progress} {before after rest : List ℕ} {ran : Ran} → RunLeaves script p before ran after
      → Pieces script ran.progress rest → Pieces script p (take ran.written after ++ rest)

-- together they write what the whole script prints
abbrev pub PiecesTogether : Type 0
PiecesTogether = (script text : List ℕ) → Pieces script started text → text ≡ rehearsal_of script
