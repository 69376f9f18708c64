-- The next record of a run: what `turn_of` cites.
-- Assumes nothing.
use mathlib.Core.Path.{◌≡◌, refl, sym, ◌∙◌}
use mathlib.Core.Bool.{true}
use mathlib.Core.List.{List, []}
use mathlib.Core.Logic.{dite}
use Prim.Native.Nat.{ℕ, ◌+◌, ◌-◌, ◌≤◌, ◌<◌}
use native.Mathlib.Decide.{ℕ_discrete}
use native.Mathlib.Omega.{arith}
use lib.Dec.{ltb}
use lib.ListN.{length, take, drop, get_or, length-drop}
use lib.Seq.{take_all}
use borrow.Author.Tests.{lt-ltb, le-ltb, ltb-true, ne_eqb, le-leb, lt-leb, not-false}
use Rattle.std.specs.Prelude.{Option, Some, None, Ok, Err, false}
use Rattle.wire.specs.declared.refusal.Refusal.{Refusal}
use Rattle.wire.specs.Refusal.{refusal_number}
use Rattle.wire.specs.Check.{first_refusal}
use Rattle.wire.proofs.Checks.{refusal_after, refusal_before, passed as passed_checks}
use Rattle.wire.proofs.Refusals.{within}
use Rattle.station.specs.declared.station.Station.{Station}
use Rattle.script.specs.declared.kinds.Kind.{Kind}
use Rattle.script.specs.declared.kinds.Kind.TheVariants.{NewSegment, NewStation, Startup, Shutdown, Clock, Deliver}
use Rattle.script.specs.declared.record.Record.{Record}
use Rattle.script.specs.declared.progress.Progress.{Progress}
use Rattle.script.specs.declared.progress.Reading.{Reading}
use Rattle.script.specs.Kinds.{kind_of, body_length}
use Rattle.script.specs.Segment.{Segment}
use Rattle.script.specs.Checks.{record_checks, kind_checks}
use Rattle.script.specs.Record.{after_record, refusal_of}
use Rattle.script.specs.Lines.{refused_line}
use Rattle.script.specs.Progress.{exhausted, segment_of, segment_in, read_in, new_number}
use Rattle.turns.specs.Turn.{ends, record_step, step_of, Turns, record_found, found_in, number_in}

-- what a record that is not refused has passed
module _ (segment : Segment) (kind : Option Kind) (body : List ℕ) (e : refusal_of segment kind body ≡ 0) where
  every_passed : first_refusal (record_checks segment.begun kind (length body)) ≡ 0
  unfolding refusal_of
  every_passed =
      let checks = record_checks segment.begun kind (length body) in
      dite (ℕ_discrete (first_refusal checks) 0) (λ z. z)
      (λ n. absurd (n (sym (refusal_before checks (kind_checks kind segment.used segment.stations body) n) ∙ e)))

  own_passed : first_refusal (kind_checks kind segment.used segment.stations body) ≡ 0
  unfolding refusal_of
  own_passed =
      let checks = record_checks segment.begun kind (length body) in
      sym (refusal_after checks (kind_checks kind segment.used segment.stations body) (omega arith) every_passed) ∙ e

new_fits : (segment : Segment) (kind : Option Kind) (body : List ℕ)
    → first_refusal (kind_checks kind segment.used segment.stations body) ≡ 0 → new_number kind segment.used ≤ 15
new_fits segment None body e = omega arith
new_fits segment (Some NewSegment) body e = omega arith
new_fits segment (Some NewStation) body e =
    let used = segment.used in
    let tests = passed_checks (kind_checks (Some NewStation) used segment.stations body) (omega arith) e in
    let room = ltb-true used 16 (not-false (ltb used 16) tests.0) in
    omega arith
new_fits segment (Some Startup) body e = omega arith
new_fits segment (Some Shutdown) body e = omega arith
new_fits segment (Some Clock) body e = omega arith
new_fits segment (Some Deliver) body e = omega arith

pub number_fits : (segment : Segment) (kind known : Option Kind) (body : List ℕ) → 0 ≡ refusal_of segment kind body
    → known ≡ kind → new_number known segment.used ≤ 15
number_fits segment kind known body e k = rw k (new_fits segment kind body (own_passed segment kind body (sym e)))

-- what a record says of the segment does not depend on the stations
read_alike : (kind : Option Kind) (stations : List Station) (reading : Reading) (body : List ℕ) (at number : ℕ)
    → read_in (after_record kind (segment_of [] reading) body) at number false
    ≡ read_in (after_record kind (segment_of stations reading) body) at number false
read_alike None stations reading body at number = refl
read_alike (Some NewSegment) stations reading body at number = refl
read_alike (Some NewStation) stations reading body at number = refl
read_alike (Some Startup) stations reading body at number = refl
read_alike (Some Shutdown) stations reading body at number = refl
read_alike (Some Clock) stations reading body at number = refl
read_alike (Some Deliver) stations reading body at number = refl

-- the step, by the tests that lead to it
module _ (script : List ℕ) (here : Progress) where
  pub step_long : 65536 < length script → step_of script here ≡ ends here (refused_line 0 30)
  unfolding step_of
  step_long h = rw (lt-ltb 65536 (length script) h)

  pub found_long : 65536 < length script → Err 30 ≡ found_in script here
  unfolding found_in
  found_long h = rw (lt-ltb 65536 (length script) h)

  pub number_long : 65536 < length script → 0 ≡ number_in script here
  unfolding number_in
  number_long h = rw (lt-ltb 65536 (length script) h)

  module _ (fits : length script ≤ 65536) where
    step_ends : exhausted script here ≡ true → step_of script here ≡ ends here []
    unfolding step_of
    step_ends t = rw (le-ltb 65536 (length script) fits, t)

    found_ends : exhausted script here ≡ true → Ok None ≡ found_in script here
    unfolding found_in
    found_ends t = rw (le-ltb 65536 (length script) fits, t)

    number_ends : exhausted script here ≡ true → 0 ≡ number_in script here
    unfolding number_in
    number_ends t = rw (le-ltb 65536 (length script) fits, t)

    pub number_none : length script ≤ here.reading.at → 0 ≡ number_in script here
    number_none h = number_ends (rw (le-leb (length script) here.reading.at h))

    pub step_none : length script ≤ here.reading.at → step_of script here ≡ ends here []
    step_none h = step_ends (rw (le-leb (length script) here.reading.at h))

    pub found_none : length script ≤ here.reading.at → Ok None ≡ found_in script here
    found_none h = found_ends (rw (le-leb (length script) here.reading.at h))

    module _ (more : here.reading.at < length script) where
      pub step_misplaced : here.reading.at + 1 < here.reading.number → step_of script here ≡ ends here []
      step_misplaced h =
          step_ends
          (rw (lt-leb (length script) here.reading.at more, lt-ltb (here.reading.at + 1) here.reading.number h))

      pub number_misplaced : here.reading.at + 1 < here.reading.number → 0 ≡ number_in script here
      number_misplaced h =
          number_ends
          (rw (lt-leb (length script) here.reading.at more, lt-ltb (here.reading.at + 1) here.reading.number h))

      pub found_misplaced : here.reading.at + 1 < here.reading.number → Ok None ≡ found_in script here
      found_misplaced h =
          found_ends
          (rw (lt-leb (length script) here.reading.at more, lt-ltb (here.reading.at + 1) here.reading.number h))

      module _ (placed : here.reading.number ≤ here.reading.at + 1) where
        abbrev kind : Option Kind
        kind = kind_of (get_or script here.reading.at 0)

        abbrev body : List ℕ
        body = take (length script - (here.reading.at + 1)) (drop (here.reading.at + 1) script)

        step_goes : step_of script here ≡ record_step here kind body
        unfolding step_of
        step_goes =
            rw (
              take_all (length script - (here.reading.at + 1)) (drop (here.reading.at + 1) script)
                  (omega (arith, length-drop (here.reading.at + 1) script)),
              le-ltb 65536 (length script) fits,
              lt-leb (length script) here.reading.at more,
              le-ltb (here.reading.at + 1) here.reading.number placed,
            )

        pub number_here : here.reading.number ≡ number_in script here
        unfolding number_in
        number_here =
            rw (
              le-ltb 65536 (length script) fits,
              lt-leb (length script) here.reading.at more,
              le-ltb (here.reading.at + 1) here.reading.number placed,
            )

        found_goes : found_in script here ≡ record_found here kind body
        unfolding found_in
        found_goes =
            rw (
              take_all (length script - (here.reading.at + 1)) (drop (here.reading.at + 1) script)
                  (omega (arith, length-drop (here.reading.at + 1) script)),
              le-ltb 65536 (length script) fits,
              lt-leb (length script) here.reading.at more,
              le-ltb (here.reading.at + 1) here.reading.number placed,
            )

        pub found_refused : (refusal : Refusal) → refusal_number refusal ≡ refusal_of (segment_in here) kind body
            → Err (refusal_number refusal) ≡ found_in script here
        found_refused refusal e =
            let some = (within refusal).0 in
            rw (found_goes, ← e, ne_eqb (refusal_number refusal) 0 (λ z. absurd (omega arith))) refl

        pub found_taken : (taken : Record) → 0 ≡ refusal_of (segment_in here) kind body → Some taken.kind ≡ kind
            → taken.body.now ≡ body → Ok (Some (taken.kind, taken.body.now)) ≡ found_in script here
        found_taken taken e k b = rw (found_goes, ← e, ← k, ← b) refl

        pub turn_refused : (refusal : Refusal) → refusal_number refusal ≡ refusal_of (segment_in here) kind body
            → Turns here (step_of script here)
            (record { found = Err refusal; number = here.reading.number; reading = read_in (segment_in here) here.reading.at here.reading.number true })
        turn_refused refusal e =
            let some = (within refusal).0 in
            rw (step_goes, ← e, ne_eqb (refusal_number refusal) 0 (λ z. absurd (omega arith)))
            (record { progress_is = refl; line_is = refl })

        pub turn_taken : (taken : Record) (after : Reading) → 0 ≡ refusal_of (segment_in here) kind body
            → Some taken.kind ≡ kind → taken.body.now ≡ body
            → after
            ≡ read_in (after_record (Some taken.kind) (segment_of [] here.reading) taken.body.now)
            (here.reading.at + 1 + body_length (Some taken.kind)) (here.reading.number + 1) false
            → Turns here (step_of script here)
            (record { found = Ok (Some taken); number = here.reading.number; reading = after })
        turn_taken taken after e k b a =
            let alike = read_alike (Some taken.kind) here.stations here.reading taken.body.now (here.reading.at + 1 + body_length (Some taken.kind)) (here.reading.number + 1) in
            rw (step_goes, ← e, ← k, ← b, a, alike)
            (record { progress_is = refl; line_is = refl })
