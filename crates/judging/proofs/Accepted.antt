-- What an answer of judging says of its packet: a refusal is at most 8, and the address list of an accepted packet lies in it.
-- Assumes nothing.
use mathlib.Core.Path.{◌≡◌, ap}
use mathlib.Core.List.{List, [], ◌∷◌}
use mathlib.Core.Bool.{Bool, true, false, cond}
use Prim.Native.Nat.{ℕ, ◌+◌, ◌-◌, ◌*◌, ◌≤◌}
use native.Mathlib.Omega.{arith}
use lib.ListN.{length, drop, length-drop, length-take}
use Rattle.judging.specs.declared.Fields.{Fields}
use Rattle.std.specs.Prelude.{Ok, Err}
use Rattle.wire.specs.Check.{Check, first_refusal}
use Rattle.wire.specs.Reading.{byte_at}
use Rattle.headers.specs.Packet.{header_length, total_length, header_checks, payload}
use Rattle.judging.specs.Message.{message_checks}
use Rattle.judging.specs.Judging.{packet_checks, refusal_of, fields_of, judged_of}
use Rattle.wire.proofs.Checks.{passed, all_pass}
use Rattle.judging.proofs.Messages.{message_passed}
use Rattle.judging.proofs.Passing.{header_passed}

-- every number of a list of checks is at most this
abbrev pub AtMost : ℕ → List Check → Type 0
AtMost most [] = Unit
AtMost most (check ∷ rest) = (check.0 ≤ most) × AtMost most rest

at_most_test : (t : Bool) (k rest most : ℕ) → k ≤ most → rest ≤ most → cond t k rest ≤ most
at_most_test true k rest most a b = a
at_most_test false k rest most a b = b

pub refusal_most : (most : ℕ) (checks : List Check) → AtMost most checks → first_refusal checks ≤ most
refusal_most most [] h = omega arith
refusal_most most (check ∷ rest) h =
    at_most_test check.1 check.0 (first_refusal rest) most h.0 (refusal_most most rest h.1)

packet_most : (packet : List ℕ) → refusal_of packet ≤ 8
unfolding refusal_of
packet_most packet = refusal_most 8 (packet_checks packet) (omega arith)

pub refused_most : (packet : List ℕ) (number : ℕ) → Err number ≡ judged_of packet → number ≤ 8
unfolding judged_of
refused_most packet number f = let most = packet_most packet in grind arith

-- a packet that is refused is refused by 1 or more
pub refused_least : (packet : List ℕ) (number : ℕ) → Err number ≡ judged_of packet → ¬ (number ≡ 0)
unfolding judged_of
refused_least packet number f = grind arith

pub accepted_is : (packet : List ℕ) (fields : Fields) → Ok fields ≡ judged_of packet
    → (refusal_of packet ≡ 0) × (fields ≡ fields_of packet)
unfolding judged_of
accepted_is packet fields f = grind arith

payload_most : (packet : List ℕ) → length (payload packet) ≤ length packet - header_length packet
payload_most packet =
    omega (arith, length-take (total_length packet - header_length packet) (drop (header_length packet) packet), length-drop (header_length packet) packet)

list_fits : (packet : List ℕ) → refusal_of packet ≡ 0 → header_length packet + 8 + 4 * byte_at (payload packet) 3 ≤ length packet
unfolding refusal_of
list_fits packet e =
    let p = passed (packet_checks packet) (omega arith) e in
    let h = all_pass (header_checks packet) (p.0, (p.1.0, (p.1.1.0, (p.1.1.1.0, tt)))) in
    let m = all_pass (message_checks (payload packet)) p.1.1.1.1 in
    let r = header_passed packet h in
    omega (arith, message_passed (payload packet) m, payload_most packet)

-- the address list of an accepted packet lies in it
pub list_inside : (packet : List ℕ) (fields : Fields) → Ok fields ≡ judged_of packet
    → fields.list + 4 * fields.count ≤ length packet
unfolding fields_of
list_inside packet fields f =
    let a = accepted_is packet fields f in
    let l : fields.list ≡ header_length packet + 8 = ap (λ (x : Fields). x.list) a.1 in
    let n : fields.count ≡ byte_at (payload packet) 3 = ap (λ (x : Fields). x.count) a.1 in
    omega (arith, list_fits packet a.0)
