-- A script that is followed by more bytes: what its records do, and what is printed, is as without them.
-- Assumes nothing.
use mathlib.Core.Path.{◌≡◌, refl, sym, ap, ◌∙◌}
use mathlib.Core.List.{List, [], ◌∷◌, ◌++◌, append_assoc}
use Prim.Native.Nat.{ℕ, zero, suc, ◌+◌, ◌≤◌, ◌<◌}
use native.Mathlib.Nat.{add-zero}
use native.Mathlib.Omega.{arith}
use lib.ListN.{length, get_or, length-append, get_or-append}
use borrow.Author.Tests.{le-ltb, ltb-false}
use Rattle.wire.specs.Check.{Passes}
use Rattle.wire.proofs.Checks.{Numbered, passed, all_pass}
use Rattle.station.specs.declared.station.Station.{Station}
use Rattle.script.specs.Segment.{Segment}
use Rattle.script.specs.declared.kinds.Kind.{Kind}
use Rattle.script.specs.declared.kinds.Kind.TheVariants.{NewSegment, NewStation, Startup, Shutdown, Clock, Deliver}
use Rattle.std.specs.Prelude.{Some, None, Option}
use Rattle.script.specs.Kinds.{kind_of, body_length}
use Rattle.script.specs.Checks.{record_checks, kind_checks}
use Rattle.script.specs.Record.{after_record, refusal_of}
use Rattle.script.specs.Lines.{printed_of}
use Rattle.script.specs.Script.{lines_from}
use Rattle.scripted.specs.Scripted.{segment_after, NoneRefused, records_in}

kinds_numbered : (kind : Option Kind) (used : ℕ) (stations : List Station) (body : List ℕ)
    → Numbered (kind_checks kind used stations body)
kinds_numbered None used stations body = tt
kinds_numbered (Some NewSegment) used stations body = omega arith
kinds_numbered (Some NewStation) used stations body = omega arith
kinds_numbered (Some Startup) used stations body = omega arith
kinds_numbered (Some Shutdown) used stations body = omega arith
kinds_numbered (Some Clock) used stations body = tt
kinds_numbered (Some Deliver) used stations body = omega arith

-- every check of a record that is not refused
pub checked : (segment : Segment) (kind : Option Kind) (body : List ℕ) → refusal_of segment kind body ≡ 0
    → Passes
    (record_checks segment.begun kind (length body) ++ kind_checks kind segment.used segment.stations body)
unfolding refusal_of
checked segment kind body taken =
    let kinds = kinds_numbered kind segment.used segment.stations body in
    passed
    (record_checks segment.begun kind (length body) ++ kind_checks kind segment.used segment.stations body)
    (omega arith, (omega arith, (omega arith, kinds))) taken

-- "a body whose length the kind fixes"
whole : (segment : Segment) (kind : Option Kind) (body : List ℕ) → refusal_of segment kind body ≡ 0
    → body_length kind ≤ length body
whole segment kind body taken = ltb-false (length body) (body_length kind) (checked segment kind body taken).1.0

-- what stands behind the body is not looked at
module _ (body more : List ℕ) where
  first : (i : ℕ) → i < length body → get_or (body ++ more) i 0 ≡ get_or body i 0
  first i h = get_or-append body more 0 i h

  after_same : (kind : Option Kind) (segment : Segment) → body_length kind ≤ length body
      → after_record kind segment (body ++ more) ≡ after_record kind segment body
  after_same None segment h = refl
  after_same (Some NewSegment) segment h =
      rw (
        first 0 (omega arith),
        first 1 (omega arith),
        first 2 (omega arith),
        first 3 (omega arith),
        first 4 (omega arith),
        first 5 (omega arith),
      )
  after_same (Some NewStation) segment h =
      cc (
        first 0 (omega arith),
        first 1 (omega arith),
        first 2 (omega arith),
        first 3 (omega arith),
        first 4 (omega arith),
        first 5 (omega arith),
      )
  after_same (Some Startup) segment h = rw (first 0 (omega arith))
  after_same (Some Shutdown) segment h = rw (first 0 (omega arith))
  after_same (Some Clock) segment h = rw (first 0 (omega arith), first 1 (omega arith))
  after_same (Some Deliver) segment h = rw (first 0 (omega arith), first 1 (omega arith))

  checks_same : (kind : Option Kind) (used : ℕ) (stations : List Station) → body_length kind ≤ length body
      → kind_checks kind used stations (body ++ more) ≡ kind_checks kind used stations body
  checks_same None used stations h = refl
  checks_same (Some NewSegment) used stations h = rw (first 0 (omega arith), first 1 (omega arith))
  checks_same (Some NewStation) used stations h = rw (first 0 (omega arith), first 1 (omega arith))
  checks_same (Some Startup) used stations h = rw (first 0 (omega arith))
  checks_same (Some Shutdown) used stations h = rw (first 0 (omega arith))
  checks_same (Some Clock) used stations h = refl
  checks_same (Some Deliver) used stations h = rw (first 0 (omega arith), first 1 (omega arith))

  refusal_same : (segment : Segment) (kind : Option Kind) → refusal_of segment kind body ≡ 0
      → refusal_of segment kind (body ++ more) ≡ 0
  unfolding refusal_of
  refusal_same segment kind taken =
      let fits = whole segment kind body taken in
      let checks = checked segment kind body taken in
      let longer : body_length kind ≤ length (body ++ more) = omega (arith, length-append body more) in
      let same = checks_same kind segment.used segment.stations fits in
      all_pass
      (record_checks segment.begun kind (length (body ++ more))
      ++ kind_checks kind segment.used segment.stations (body ++ more))
      (checks.0, (le-ltb (length (body ++ more)) (body_length kind) longer, (checks.1.1.0, rw same checks.1.1.1)))

-- the records of what follows come behind
module _ (more : List ℕ) where
  pub joined_after : (segment : Segment) (bytes : List ℕ) (skip : ℕ) → skip ≤ length bytes
      → NoneRefused segment bytes skip
      → segment_after segment (bytes ++ more) skip ≡ segment_after (segment_after segment bytes skip) more 0
  joined_after segment [] zero h n = refl
  joined_after segment [] (suc skip) h n = absurd (omega arith)
  joined_after segment (byte ∷ bytes) (suc skip) h n = joined_after segment bytes skip (omega arith) n
  joined_after segment (byte ∷ bytes) zero h n =
      let kind = kind_of byte in
      let fits = whole segment kind bytes n.0 in
      ap (λ (s : Segment). segment_after s (bytes ++ more) (body_length kind)) (after_same bytes more kind segment fits)
      ∙ joined_after (after_record kind segment bytes) bytes (body_length kind) fits n.1

  pub joined_passes : (segment : Segment) (bytes : List ℕ) (skip : ℕ) → skip ≤ length bytes
      → NoneRefused segment bytes skip → NoneRefused (segment_after segment bytes skip) more 0
      → NoneRefused segment (bytes ++ more) skip
  joined_passes segment [] zero h n m = m
  joined_passes segment [] (suc skip) h n m = absurd (omega arith)
  joined_passes segment (byte ∷ bytes) (suc skip) h n m = joined_passes segment bytes skip (omega arith) n m
  joined_passes segment (byte ∷ bytes) zero h n m =
      let kind = kind_of byte in
      let fits = whole segment kind bytes n.0 in (
        refusal_same bytes more segment kind n.0,
        rw (after_same bytes more kind segment fits)
            (joined_passes (after_record kind segment bytes) bytes (body_length kind) fits n.1 m),
      )

  -- and are refused where they would be
  pub joined_passed : (segment : Segment) (bytes : List ℕ) (skip : ℕ) → skip ≤ length bytes
      → NoneRefused segment bytes skip → NoneRefused segment (bytes ++ more) skip
      → NoneRefused (segment_after segment bytes skip) more 0
  joined_passed segment [] zero h n m = m
  joined_passed segment [] (suc skip) h n m = absurd (omega arith)
  joined_passed segment (byte ∷ bytes) (suc skip) h n m = joined_passed segment bytes skip (omega arith) n m
  joined_passed segment (byte ∷ bytes) zero h n m =
      let kind = kind_of byte in
      let fits = whole segment kind bytes n.0 in
      joined_passed (after_record kind segment bytes) bytes (body_length kind) fits n.1
      (rw (after_same bytes more kind segment fits) at m.1)

  pub joined_lines : (segment : Segment) (number : ℕ) (bytes : List ℕ) (skip : ℕ) → skip ≤ length bytes
      → NoneRefused segment bytes skip
      → lines_from segment number (bytes ++ more) skip
      ≡ lines_from segment number bytes skip
      ++ lines_from (segment_after segment bytes skip) (number + records_in bytes skip) more 0
  unfolding lines_from
  joined_lines segment number [] zero h n = rw add-zero
  joined_lines segment number [] (suc skip) h n = absurd (omega arith)
  joined_lines segment number (byte ∷ bytes) (suc skip) h n =
      joined_lines segment number bytes skip (omega arith) n
  joined_lines segment number (byte ∷ bytes) zero h n =
      let kind = kind_of byte in
      let next = after_record kind segment bytes in
      let fits = whole segment kind bytes n.0 in
      let count : number + records_in (byte ∷ bytes) 0 ≡ number + 1 + records_in bytes (body_length kind) = omega arith in
      let rest = joined_lines next (number + 1) bytes (body_length kind) fits n.1 in
      rw (after_same bytes more kind segment fits, refusal_same bytes more segment kind n.0, n.0, count, rest)
      (sym (append_assoc (printed_of kind number next) _ _))

-- behind the last body there is nothing
pub ends_after : (segment : Segment) (body : List ℕ) → segment_after segment body (length body) ≡ segment
ends_after segment [] = refl
ends_after segment (byte ∷ body) = ends_after segment body

pub ends_lines : (segment : Segment) (number : ℕ) (body : List ℕ) → lines_from segment number body (length body) ≡ []
unfolding lines_from
ends_lines segment number [] = refl
ends_lines segment number (byte ∷ body) = ends_lines segment number body
