-- What refuses a record: what the functions here cite.
-- Assumes nothing.
use mathlib.Core.Path.{◌≡◌, sym, ◌∙◌}
use mathlib.Core.List.{List}
use Prim.Native.Nat.{ℕ}
use native.Mathlib.Omega.{arith}
use lib.ListN.{length}
use Rattle.std.specs.Prelude.{Option}
use Rattle.wire.specs.Check.{first_refusal}
use Rattle.wire.specs.declared.refusal.Refusal.{Refusal}
use Rattle.wire.specs.Refusal.{refusal_number}
use Rattle.wire.proofs.Checks.{refusal_after, refusal_before}
use Rattle.wire.proofs.Refusals.{within}
use Rattle.script.specs.Segment.{Segment}
use Rattle.script.specs.declared.kinds.Kind.{Kind}
use Rattle.script.specs.Checks.{record_checks, kind_checks}
use Rattle.script.specs.Record.{refusal_of}

-- the checks of a kind come after those of every record
pub record_refused : (segment : Segment) (kind : Option Kind) (body : List ℕ) (refusal : Refusal)
    → refusal_number refusal ≡ first_refusal (record_checks segment.begun kind (length body))
    → refusal_number refusal ≡ refusal_of segment kind body
unfolding refusal_of
record_refused segment kind body refusal e =
    let checks = record_checks segment.begun kind (length body) in
    let some = (within refusal).0 in
    e ∙ sym (refusal_before checks (kind_checks kind segment.used segment.stations body) (λ z. absurd (omega arith)))

pub record_goes : (segment : Segment) (kind known : Option Kind) (body same : List ℕ) (r : ℕ)
    → 0 ≡ first_refusal (record_checks segment.begun kind (length body)) → known ≡ kind → same ≡ body
    → r ≡ first_refusal (kind_checks known segment.used segment.stations same) → r ≡ refusal_of segment kind body
unfolding refusal_of
record_goes segment kind known body same r e k b own =
    let checks = record_checks segment.begun kind (length body) in
    rw (k, b) at own
    ∙ sym (refusal_after checks (kind_checks kind segment.used segment.stations body) (omega arith) (sym e))
