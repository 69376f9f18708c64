-- The theorems that specs/Theorems.antt states.
-- Assumes nothing.
use mathlib.Core.Path.{◌≡◌, refl, sym, ap, ◌∙◌}
use mathlib.Core.List.{List, [], ◌∷◌, ◌++◌}
use mathlib.Core.Bool.{Bool, true, false}
use native.Mathlib.Omega.{arith}
use lib.ListN.{length}
use Rattle.std.specs.Prelude.{Ok, Err}
use Rattle.std.proofs.lemmas.Result.{IfOk-at_ok}
use Rattle.wire.specs.Refusal.{refusal_number}
use Rattle.wire.proofs.Refusals.{same_number, same_answer}
use Rattle.judging.proofs.Accepted.{refused_most}
use Rattle.wire.specs.Check.{Check, first_refusal, Passes}
use Rattle.writing.specs.Frame.{message_of}
use Rattle.judging.specs.Judging.{packet_checks, refusal_of}
use Rattle.writing.specs.Writing.{advertisement_refusal}
use Rattle.round_trip.specs.Theorems.{AcceptedExactly, FirstThatFails, RoundTrip, OneJudgement, OneWriting}
use Rattle.wire.proofs.Checks.{passed, all_pass}
use Rattle.writing.proofs.Writes.{advertisement_passed}
use Rattle.round_trip.proofs.RoundTrip.{reads_back}

pub accepted_exactly : AcceptedExactly
unfolding refusal_of
accepted_exactly packet = (passed (packet_checks packet) (omega arith), all_pass (packet_checks packet))

-- of any list of checks
abbrev Failing : List Check → Type 0
Failing checks =
    (before : List Check) × (check : Check) × (after : List Check) × (checks ≡ before ++ (check ∷ after))
    × Passes before × (check.1 ≡ true) × (check.0 ≡ first_refusal checks)

failing_test : (t : Bool) (check : Check) (rest : List Check) → check.1 ≡ t
    → (¬ (first_refusal rest ≡ 0) → Failing rest) → ¬ (first_refusal (check ∷ rest) ≡ 0) → Failing (check ∷ rest)
failing_test true check rest e f n = ([], check, rest, refl, tt, e, rw e)
failing_test false check rest e f n =
    let r = f (rw e at n) in
    (check ∷ r.0, r.1, r.2, ap (λ (l : List Check). check ∷ l) r.3, (e, r.4), r.5, rw e r.6)

failing : (checks : List Check) → ¬ (first_refusal checks ≡ 0) → Failing checks
failing [] n = absurd (n refl)
failing (check ∷ rest) n = failing_test check.1 check rest refl (failing rest) n

pub first_that_fails : FirstThatFails
unfolding refusal_of
first_that_fails packet n = failing (packet_checks packet) n

pub one_judgement : OneJudgement
one_judgement packet (Ok f) (Ok g) x y = grind arith
one_judgement packet (Ok f) (Err q) x y = grind arith
one_judgement packet (Err p) (Ok g) x y = grind arith
one_judgement packet (Err p) (Err q) x y =
    let n : refusal_number p ≡ refusal_number q = cc in
    let most = refused_most packet (refusal_number p) x in
    ap Err (same_number p q n (λ e. omega arith))

pub one_writing : OneWriting
one_writing refusal need frame before a b after other x y = (
  same_answer a b (x.refusal_is.number_is ∙ sym y.refusal_is.number_is) (x.refusal_is.needed_is ∙ sym y.refusal_is.needed_is)
      (λ j k e f. IfOk-at_ok (λ length. length ≡ need) e x.length_is ∙ sym (IfOk-at_ok (λ length. length ≡ need) f y.length_is)),
  x.room_is ∙ sym y.room_is,
)

pub round_trip : RoundTrip
unfolding message_of
round_trip vrid priority interval primary k addresses before after v p i a b w =
    let room = length before in
    let refusal = advertisement_refusal vrid interval addresses room in
    let none = sym w.refusal_is.number_is in
    let passed = advertisement_passed vrid interval addresses room none in
    reads_back vrid priority interval primary room addresses v p i a b passed k before after w.length_is
    (rw none at w.room_is)
