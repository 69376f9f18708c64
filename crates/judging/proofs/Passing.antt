-- How the header's and the message's checks decide a packet together, in the steps of `judge`.
-- Assumes nothing.
use mathlib.Core.Path.{◌≡◌, sym, ◌∙◌}
use mathlib.Core.List.{List}
use Prim.Native.Nat.{ℕ, ◌+◌}
use native.Mathlib.Omega.{arith}
use Rattle.wire.specs.declared.refusal.Refusal.{Refusal}
use Rattle.wire.specs.Check.{first_refusal}
use Rattle.wire.specs.Refusal.{refusal_number, number_answered, numbered}
use Rattle.wire.proofs.Refusals.{nonzero}
use Rattle.judging.specs.declared.Fields.{Fields}
use Rattle.std.specs.Prelude.{Result, Ok, Err}
use Rattle.wire.specs.Reading.{number_at}
use Rattle.headers.specs.Packet.{header_length, header_checks, payload}
use Rattle.judging.specs.Message.{message_checks}
use Rattle.judging.specs.Judging.{refusal_of, fields_in, fields_of, judged_of}
use Rattle.wire.proofs.Tested.{tests}
use Rattle.wire.proofs.Checks.{passed, refusal_after, refusal_before}
use Rattle.headers.proofs.Readable.{Readable, readable}
use Rattle.judging.proofs.Messages.{message_holds}

-- where the header passes, the message decides
pub message_decides : (packet : List ℕ) → first_refusal (header_checks packet) ≡ 0
    → refusal_of packet ≡ first_refusal (message_checks (payload packet))
unfolding refusal_of
message_decides packet e = refusal_after (header_checks packet) (message_checks (payload packet)) (omega arith) e

refuses : (packet : List ℕ) (number : ℕ) → number ≡ refusal_of packet → ¬ (number ≡ 0) → Err number ≡ judged_of packet
unfolding judged_of
refuses packet number e n = grind arith

pub accepts : (packet : List ℕ) (fields : Fields) → refusal_of packet ≡ 0 → fields ≡ fields_of packet
    → Ok fields ≡ judged_of packet
unfolding judged_of
accepts packet fields e f = grind arith

-- the header refuses
pub header_refuses : (packet : List ℕ) (refusal : Refusal) → refusal_number refusal ≡ first_refusal (header_checks packet)
    → Err (refusal_number refusal) ≡ judged_of packet
unfolding refusal_of
header_refuses packet refusal e =
    let n = nonzero refusal in
    let decides = refusal_before (header_checks packet) (message_checks (payload packet)) (λ z. n (e ∙ z)) in
    refuses packet (refusal_number refusal) (e ∙ sym decides) n

-- the header passes
pub header_passed : (packet : List ℕ) → first_refusal (header_checks packet) ≡ 0 → Readable packet
header_passed packet e =
    let p = passed (header_checks packet) (omega arith) e in
    readable packet (omega tests)

-- the header passes, and the message refuses
pub message_refuses : (packet : List ℕ) (refusal : Refusal) → first_refusal (header_checks packet) ≡ 0
    → refusal_number refusal ≡ first_refusal (message_checks (payload packet)) → Err (refusal_number refusal) ≡ judged_of packet
message_refuses packet refusal h e =
    refuses packet (refusal_number refusal) (e ∙ sym (message_decides packet h)) (nonzero refusal)

-- both pass
pub both_pass : (packet : List ℕ) (fields : Fields) → first_refusal (header_checks packet) ≡ 0
    → first_refusal (message_checks (payload packet)) ≡ 0
    → fields ≡ fields_in (number_at packet 12) (payload packet) (header_length packet + 8) → Ok fields ≡ judged_of packet
unfolding fields_of
both_pass packet fields h m f = accepts packet fields (message_decides packet h ∙ m) f

-- the steps of `judge`
pub ruleset steps = (header_passed, message_holds, header_refuses, message_refuses, both_pass)

-- the number of a packet's answer is its refusal
pub number_judged : (packet : List ℕ) (answer : Result Fields Refusal) → numbered answer ≡ judged_of packet
    → number_answered answer ≡ refusal_of packet
unfolding judged_of
number_judged packet (Ok fields) j = grind arith
number_judged packet (Err refusal) j = grind arith
