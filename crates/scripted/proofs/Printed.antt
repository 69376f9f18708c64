-- What a script prints: lines with the letters of the segment at its end, or a refusal.
-- Assumes nothing.
use mathlib.Core.Path.{◌≡◌, refl, sym, ap, ◌∙◌}
use mathlib.Core.Logic.{◌⊎◌, inl, inr}
use mathlib.Core.Bool.{Bool, true, false, cond}
use mathlib.Core.List.{List, [], ◌∷◌, ◌++◌, append_assoc, append-nil}
use Prim.Native.Nat.{ℕ, zero, suc, ◌+◌, ◌≤◌}
use native.Mathlib.Omega.{arith}
use lib.Dec.{eqb, ltb}
use lib.ListN.{length}
use borrow.Author.Tests.{le-ltb, ltb-false, eqb-true, eqb-false}
use Rattle.script.specs.Segment.{Segment}
use Rattle.script.specs.Kinds.{kind_of, body_length}
use Rattle.script.specs.Record.{after_record, refusal_of}
use Rattle.script.specs.Lines.{printed_of, refused_line}
use Rattle.script.specs.Segment.{empty_segment}
use Rattle.script.specs.Script.{lines_from, rehearsal_of}
use Rattle.scripted.specs.Scripted.{segment_after, NoneRefused, records_in, Taken, end_of}
use Rattle.scripted.specs.Theorems.{EndsRefused, TakenOrRefused, PrintsOn}
use Rattle.scripted.proofs.Joined.{joined_after, joined_passed, joined_lines, ends_after, ends_lines}

-- a script of at most 65,536 bytes prints its lines
short_prints : (script : List ℕ) → length script ≤ 65536 → rehearsal_of script ≡ lines_from empty_segment 1 script 0
unfolding rehearsal_of
short_prints script h = rw (le-ltb 65536 (length script) h)

module _ (segment : Segment) (number byte : ℕ) (body : List ℕ) where
  abbrev line : List ℕ
  line = printed_of (kind_of byte) number (after_record (kind_of byte) segment body)

  abbrev lines : List ℕ
  lines = lines_from (after_record (kind_of byte) segment body) (number + 1) body (body_length (kind_of byte))

  -- the record is refused, or a later one is, or none
  refused_test : (t : Bool) → eqb (refusal_of segment (kind_of byte) body) 0 ≡ t
      → NoneRefused (after_record (kind_of byte) segment body) body (body_length (kind_of byte)) ⊎ EndsRefused lines
      → NoneRefused segment (byte ∷ body) 0
      ⊎ EndsRefused (cond t (line ++ lines) (refused_line number (refusal_of segment (kind_of byte) body)))
  refused_test true e (inl n) = inl (eqb-true (refusal_of segment (kind_of byte) body) 0 e, n)
  refused_test true e (inr r) =
      inr
      (record {
        before = line ++ r.before;
        number = r.number;
        refusal = r.refusal;
        some = r.some;
        is = ap (λ (l : List ℕ). line ++ l) r.is ∙ sym (append_assoc line r.before _);
      })
  refused_test false e rest =
      inr
      (record {
        before = [];
        number = number;
        refusal = refusal_of segment (kind_of byte) body;
        some = eqb-false (refusal_of segment (kind_of byte) body) 0 e;
        is = refl;
      })

none_or_refused : (segment : Segment) (number : ℕ) (bytes : List ℕ) (skip : ℕ)
    → NoneRefused segment bytes skip ⊎ EndsRefused (lines_from segment number bytes skip)
unfolding lines_from
none_or_refused segment number [] skip = inl tt
none_or_refused segment number (byte ∷ bytes) (suc skip) = none_or_refused segment number bytes skip
none_or_refused segment number (byte ∷ bytes) zero =
    refused_test segment number byte bytes (eqb (refusal_of segment (kind_of byte) bytes) 0) refl
    (none_or_refused (after_record (kind_of byte) segment bytes) (number + 1) bytes (body_length (kind_of byte)))

taken_test : (script : List ℕ) → length script ≤ 65536
    → NoneRefused empty_segment script 0 ⊎ EndsRefused (lines_from empty_segment 1 script 0)
    → Taken script ⊎ EndsRefused (rehearsal_of script)
taken_test script h (inl n) = inl (record { short = h; none_refused = n })
taken_test script h (inr r) = inr (rw (short_prints script h) r)

long_prints : (script : List ℕ) → ltb 65536 (length script) ≡ true → rehearsal_of script ≡ refused_line 0 30
unfolding rehearsal_of
long_prints script e = rw e

long_test : (script : List ℕ) (t : Bool) → ltb 65536 (length script) ≡ t → Taken script ⊎ EndsRefused (rehearsal_of script)
long_test script true e =
    inr (record { before = []; number = 0; refusal = 30; some = λ z. omega arith; is = long_prints script e })
long_test script false e =
    taken_test script (ltb-false 65536 (length script) e) (none_or_refused empty_segment 1 script 0)

pub taken_or_refused : TakenOrRefused
taken_or_refused script = long_test script (ltb 65536 (length script)) refl

-- one more record, whose body is all that is left
last_lines : (segment : Segment) (number byte : ℕ) (body : List ℕ) → NoneRefused segment (byte ∷ body) 0
    → length body ≡ body_length (kind_of byte)
    → lines_from segment number (byte ∷ body) 0
    ≡ printed_of (kind_of byte) number (segment_after segment (byte ∷ body) 0)
unfolding lines_from
last_lines segment number byte body n long =
    let kind = kind_of byte in
    let next = after_record kind segment body in
    rw (n.0, ← long, ends_lines next (number + 1) body, ends_after next body)
    (append-nil (printed_of kind number next))

pub prints_on : PrintsOn
prints_on script byte body taken whole long =
    let last : List ℕ = byte ∷ body in
    let n = taken.none_refused in
    let end = joined_after last empty_segment script 0 (omega arith) n in
    let passed = joined_passed last empty_segment script 0 (omega arith) n whole.none_refused in
    let count : 1 + records_in script 0 ≡ records_in script 0 + 1 = omega arith in
    rw (
      short_prints (script ++ last) whole.short,
      short_prints script taken.short,
      joined_lines last empty_segment 1 script 0 (omega arith) n,
      last_lines (end_of script) (1 + records_in script 0) byte body passed long,
      end,
      count,
    )
