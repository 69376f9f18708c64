-- An answer is one value of its type.
-- Assumes nothing.
use Rattle.std.proofs.Common.{◌≡◌, sym, ap}
use Rattle.std.specs.Prelude.{Ok, Err}
use Rattle.wire.proofs.Refusals.{nonzero, same_refusal}
use Rattle.events.specs.Result.{Answered, Answer, answer_of}

pub one_answer : (a b : Answered) → answer_of a ≡ answer_of b → a ≡ b
one_answer (Ok d) (Ok o) e = rw (ap (λ (c : Answer). c.written) e, ap (λ (c : Answer). c.leftover) e)
one_answer (Ok d) (Err r) e = absurd (nonzero r (sym (ap (λ (c : Answer). c.number) e)))
one_answer (Err r) (Ok d) e = absurd (nonzero r (ap (λ (c : Answer). c.number) e))
one_answer (Err r) (Err q) e = ap Err (same_refusal r q (ap (λ (c : Answer). c.number) e) (ap (λ (c : Answer). c.need) e))
