-- The theorems of specs/Theorems.antt.
-- Assumes nothing.
use mathlib.Core.Path.{◌≡◌, refl, sym, ap, ◌∙◌}
use mathlib.Core.Bool.{Bool, true, false, cond, ◌||◌}
use mathlib.Core.List.{List, [], ◌∷◌, ◌++◌, append_assoc, append-nil}
use Prim.Native.Nat.{ℕ, zero, suc, ◌+◌, ◌≤◌, ◌<◌}
use native.Mathlib.Numerals.{add-one}
use native.Mathlib.Nat.{lt_of_le_of_lt, le_refl, le_of_lt, le_trans}
use native.Mathlib.Omega.{arith}
use lib.Dec.{eqb, ltb, leb}
use lib.ListN.{length, take, drop, get_or, drop_of_length-le}
use lib.Seq.{drop-cons, drop-drop, take-append_seam}
use borrow.Author.Tests.{le-ltb, lt-leb, leb-true, leb-false, ltb-false}
use Rattle.std.specs.Prelude.{Option}
use Rattle.wire.proofs.Tested.{two_passed}
use Rattle.script.specs.Segment.{Segment}
use Rattle.script.specs.declared.kinds.Kind.{Kind}
use Rattle.script.specs.declared.progress.Progress.{Progress}
use Rattle.rehearsal.specs.declared.Ran.{Ran}
use Rattle.script.specs.Kinds.{kind_of, body_length}
use Rattle.script.specs.Record.{after_record, refusal_of}
use Rattle.script.specs.Lines.{Printed, refused_line, printed_of}
use Rattle.script.specs.Script.{lines_from, rehearsal_of}
use Rattle.script.specs.Progress.{started, exhausted, segment_in, progress_in}
use Rattle.turns.specs.Turn.{ends, record_step, step_of}
use Rattle.rehearsal.specs.Run.{due_of, left_of, stops_at, Runs, stops, goes}
use Rattle.pieces.specs.Theorems.{OnePrinted, OneTurn, OneRun, RunDue, RunFalls, RunWithin, Pieces, done, piece, PiecesTogether}
use Rattle.rehearsal.proofs.Stepping.{left_falls, over_long}

pub one_printed : OnePrinted
one_printed text before a b after other x y = (x.written_is ∙ sym y.written_is, x.room_is ∙ sym y.room_is)

pub one_turn : OneTurn
one_turn script p a b x y = (
  x.found_is ∙ sym y.found_is,
  x.number_is ∙ sym y.number_is,
  ap (λ (q : Progress). q.reading) (x.turn_is.progress_is ∙ sym y.turn_is.progress_is),
)

-- a run has one text and one end
never : {A : Type 0} (t : Bool) → t ≡ true → t ≡ false → A
never true e f = absurd (let z : ◌≡◌ {A = ℕ} 0 1 = cc in omega arith)
never false e f = absurd (let z : ◌≡◌ {A = ℕ} 0 1 = cc in omega arith)

runs_alike : {script : List ℕ} {p q r : Progress} {room : ℕ} {text other : List ℕ} → Runs script p room text q
    → Runs script p room other r → (text ≡ other) × (q ≡ r)
runs_alike (stops t) (stops u) = (refl, refl)
runs_alike (stops t) (goes u b) = never _ t u
runs_alike (goes t a) (stops u) = never _ u t
runs_alike {script} {p} (goes t a) (goes u b) =
    let alike = runs_alike a b in
    (ap (λ (l : List ℕ). (step_of script p).line ++ l) alike.0, alike.1)

same_ran : (a b : Ran) → a.progress ≡ b.progress → a.written ≡ b.written → a ≡ b
same_ran a b e f =
    ap (λ (q : Progress). record { progress = q; written = a.written }) e
    ∙ ap (λ (n : ℕ). record { progress = b.progress; written = n }) f

pub one_run : OneRun
one_run script p before a b after other x y =
    let alike = runs_alike x.runs y.runs in (
      same_ran a b alike.1 (x.printed.written_is ∙ ap length alike.0 ∙ sym y.printed.written_is),
      x.printed.room_is ∙ rw alike.0 (sym y.printed.room_is),
    )

-- the bytes of a body are passed over
skipped : (segment : Segment) (number : ℕ) (bytes : List ℕ) (skip : ℕ)
    → lines_from segment number bytes skip ≡ lines_from segment number (drop skip bytes) 0
unfolding lines_from
skipped segment number [] zero = refl
skipped segment number [] (suc skip) = refl
skipped segment number (b ∷ bytes) zero = refl
skipped segment number (b ∷ bytes) (suc skip) = skipped segment number bytes skip

no_lines : (segment : Segment) (number : ℕ) (bytes : List ℕ) → length bytes ≡ 0 → lines_from segment number bytes 0 ≡ []
unfolding lines_from
no_lines segment number [] e = refl
no_lines segment number (b ∷ bytes) e = absurd (omega arith)

-- what is due after a record that was taken
module _ (script : List ℕ) (segment : Segment) (at number : ℕ) (fits : ltb 65536 (length script) ≡ false)
    (placed : number ≤ at + 1) where
  due_test : (t : Bool) → leb (length script) at ≡ t
      → cond (t || ltb (at + 1) number) [] (lines_from segment number (drop at script) 0)
      ≡ lines_from segment number (drop at script) 0
  due_test true e =
      let past = drop_of_length-le script (leb-true (length script) at e) in
      sym (no_lines segment number (drop at script) (ap length past))
  due_test false e = rw (le-ltb (at + 1) number placed)

  due_next : due_of script (progress_in segment at number false)
      ≡ lines_from segment number (drop at script) 0
  unfolding due_of
  due_next = rw fits (due_test (leb (length script) at) refl)

due_done : (script : List ℕ) (p : Progress) → p.reading.done ≡ true → due_of script p ≡ []
unfolding due_of
due_done script p d = rw d

-- one record: its line is due first, and then what is due after it
module _ (script : List ℕ) (p : Progress) where
  abbrev kind : Option Kind
  kind = kind_of (get_or script p.reading.at 0)

  abbrev body : List ℕ
  body = drop (p.reading.at + 1) script

  -- nothing is due after the end
  ended_due : (line : List ℕ) → line ≡ line ++ due_of script (ends p line).progress
  unfolding due_of
  ended_due line = sym (append-nil line)

  due_undone : p.reading.done ≡ false
      → due_of script p
      ≡ cond (ltb 65536 (length script)) (refused_line 0 30)
      (cond (exhausted script p) [] (lines_from (segment_in p) p.reading.number (drop p.reading.at script) 0))
  unfolding due_of
  due_undone d = rw d

  line_due : (t : Bool) → ltb 65536 (length script) ≡ false → p.reading.number ≤ p.reading.at + 1
      → eqb (refusal_of (segment_in p) kind body) 0 ≡ t
      → cond t
      (printed_of kind p.reading.number (after_record kind (segment_in p) body)
      ++ lines_from (after_record kind (segment_in p) body) (p.reading.number + 1) body (body_length kind))
      (refused_line p.reading.number (refusal_of (segment_in p) kind body))
      ≡ (record_step p kind body).line ++ due_of script (record_step p kind body).progress
  line_due true fits placed e =
      let segment = after_record kind (segment_in p) body in
      let next = due_next script segment (p.reading.at + 1 + body_length kind) (p.reading.number + 1) fits (omega arith) in
      rw (
        e,
        skipped segment (p.reading.number + 1) body (body_length kind),
        drop-drop (body_length kind) (p.reading.at + 1) script,
        next,
      )
  line_due false fits placed e = rw e (ended_due (refused_line p.reading.number (refusal_of (segment_in p) kind body)))

  -- the next record of a script that is neither too long nor exhausted
  record_due : ltb 65536 (length script) ≡ false → exhausted script p ≡ false
      → lines_from (segment_in p) p.reading.number (drop p.reading.at script) 0
      ≡ (record_step p kind body).line ++ due_of script (record_step p kind body).progress
  unfolding lines_from
  record_due fits more =
      let tests = two_passed (leb (length script) p.reading.at) (ltb (p.reading.at + 1) p.reading.number) more in
      let within = leb-false (length script) p.reading.at tests.0 in
      let placed = ltb-false (p.reading.at + 1) p.reading.number tests.1 in
      let first : drop p.reading.at script ≡ get_or script p.reading.at 0 ∷ body =
      drop-cons script p.reading.at 0 within
      ∙ ap (λ (n : ℕ). get_or script p.reading.at 0 ∷ drop n script) (sym (add-one p.reading.at)) in
      ap (λ (l : List ℕ). lines_from (segment_in p) p.reading.number l 0) first
      ∙ line_due (eqb (refusal_of (segment_in p) kind body) 0) fits placed refl

  test_due : (t : Bool) → ltb 65536 (length script) ≡ false → exhausted script p ≡ t
      → cond t [] (lines_from (segment_in p) p.reading.number (drop p.reading.at script) 0)
      ≡ (cond t (ends p []) (record_step p kind body)).line
      ++ due_of script (cond t (ends p []) (record_step p kind body)).progress
  test_due true fits e = ended_due []
  test_due false fits e = record_due fits e

  long_due : (t : Bool) → ltb 65536 (length script) ≡ t
      → cond t (refused_line 0 30)
      (cond (exhausted script p) [] (lines_from (segment_in p) p.reading.number (drop p.reading.at script) 0))
      ≡ (cond t (ends p (refused_line 0 30)) (cond (exhausted script p) (ends p []) (record_step p kind body))).line
      ++ due_of script
      (cond t (ends p (refused_line 0 30)) (cond (exhausted script p) (ends p []) (record_step p kind body))).progress
  long_due true e = ended_due (refused_line 0 30)
  long_due false e = test_due (exhausted script p) e refl

  step_due : p.reading.done ≡ false → due_of script p ≡ (step_of script p).line ++ due_of script (step_of script p).progress
  unfolding step_of
  step_due d = due_undone d ∙ long_due (ltb 65536 (length script)) refl

-- a whole run
runs_due : {script text : List ℕ} {p q : Progress} {room : ℕ} → Runs script p room text q
    → due_of script p ≡ text ++ due_of script q
runs_due (stops t) = refl
runs_due {script} {text} {p} {q} {room} (goes t r) =
    step_due script p (two_passed p.reading.done (ltb room 32) t).0
    ∙ ap (λ (l : List ℕ). (step_of script p).line ++ l) (runs_due r)
    ∙ sym (append_assoc (step_of script p).line _ (due_of script q))

first_text : (text before after : List ℕ) (written : ℕ) → Printed text before written after → take written after ≡ text
first_text text before after written printed =
    rw (printed.room_is, printed.written_is) (take-append_seam text (drop (length text) before))

pub run_due : RunDue
run_due script p before ran after leaves =
    rw (first_text leaves.text before after ran.written leaves.printed) (runs_due leaves.runs)

runs_left : {script text : List ℕ} {p q : Progress} {room : ℕ} → Runs script p room text q
    → left_of script q ≤ left_of script p
runs_left (stops t) = le_refl _
runs_left {script} {text} {p} {q} {room} (goes t r) =
    le_trans (runs_left r) (le_of_lt (left_falls script p (two_passed p.reading.done (ltb room 32) t).0))

runs_fall : {script : List ℕ} {p : Progress} {room : ℕ} {text : List ℕ} {q : Progress} → Runs script p room text q
    → p.reading.done ≡ false → 32 ≤ room → left_of script q < left_of script p
runs_fall {script} {p} {room} {text} {q} (stops t) d h =
    never (stops_at p room) t (rw (d, le-ltb room 32 h))
runs_fall {script} {p} {room} {text} {q} (goes t r) d h = lt_of_le_of_lt (runs_left r) (left_falls script p d)

pub run_falls : RunFalls
run_falls script p before ran after leaves d h = runs_fall leaves.runs d h

pub run_within : RunWithin
run_within script p before ran after leaves =
    let printed = leaves.printed in
    let long = ap length printed.room_is ∙ over_long leaves.text before printed.fits in
    (long, omega (arith, printed.written_is, printed.fits))

-- all runs together
pieces_due : {script text : List ℕ} {p : Progress} → Pieces script p text → text ≡ due_of script p
pieces_due {script} {text} {p} (done d) = sym (due_done script p d)
pieces_due {script} {text} {p} (piece {before = before} {after = after} {ran = ran} leaves rest) =
    ap (λ (l : List ℕ). take ran.written after ++ l) (pieces_due rest)
    ∙ sym (run_due script p before ran after leaves)

all_due : (script : List ℕ) → due_of script started ≡ rehearsal_of script
unfolding due_of rehearsal_of lines_from
all_due [] = refl
all_due (byte ∷ script) = rw (lt-leb (suc (length script)) 0 (omega arith))

pub pieces_together : PiecesTogether
pieces_together script text pieces = pieces_due pieces ∙ all_due script
