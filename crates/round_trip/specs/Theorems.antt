-- The theorems of this crate, as statements: each is proved under the same name in proofs/Theorems.antt.
use Rattle.std.specs.Prelude.{ℕ, ◌/◌, ◌<◌, ◌^◌, ◌≡◌, List, ◌∷◌, ◌++◌, true, ◌↔◌, length, take, drop}
use Rattle.sums.specs.Sum.{Bytes}
use Rattle.std.specs.Prelude.{Result, Ok}
use Rattle.judging.specs.declared.Fields.{Fields}
use Rattle.wire.specs.declared.refusal.Refusal.{Refusal}
use Rattle.wire.specs.Check.{Check, Passes}
use Rattle.wire.specs.Refusal.{numbered}
use Rattle.judging.specs.Judging.{packet_checks, refusal_of, judged_of}
use Rattle.writing.specs.Writing.{Wrote, AdvertisementWritten}

-- "A packet is accepted exactly when it passes every check"
abbrev pub AcceptedExactly : Type 0
AcceptedExactly = (packet : List ℕ) → (refusal_of packet ≡ 0) ↔ Passes (packet_checks packet)

-- the number of a refused packet is that of the first check that fails: those before it pass
abbrev pub FirstThatFails : Type 0
FirstThatFails =
    (packet : List ℕ) → ¬ (refusal_of packet ≡ 0)
    → (before : List Check) × (check : Check) × (after : List Check) × (packet_checks packet ≡ before ++ (check ∷ after))
    × Passes before × (check.1 ≡ true) × (check.0 ≡ refusal_of packet)

-- "each advertisement we write reads back as the fields it was written from": where writing answers a frame of k bytes,
-- the frame less its 14 Ethernet bytes is accepted with these fields,
-- and the addresses stand where the list is said to be
abbrev pub RoundTrip : Type 0
RoundTrip =
    (vrid priority interval primary k : ℕ) (addresses before after : List ℕ)
    → vrid < 256 → priority < 256 → interval < 256 → primary < 2 ^ 32 → Bytes addresses
    → AdvertisementWritten vrid priority interval primary addresses before (Ok k) after
    → (judged_of (drop 14 (take k after))
    ≡ Ok
    (record {
      source = primary;
      vrid = vrid;
      priority = priority;
      count = length addresses / 4;
      authentication = 0;
      interval = interval;
      list = 28;
    }))
    × (take (length addresses) (drop 28 (drop 14 (take k after))) ≡ addresses)

-- two outcomes that the promise of judging allows are equal
abbrev pub OneJudgement : Type 0
OneJudgement =
    (packet : List ℕ) (a b : Result Fields Refusal) → numbered a ≡ judged_of packet → numbered b ≡ judged_of packet → a ≡ b

-- two outcomes that the promise of writing a frame allows are equal, for advertisement and ARP frames alike
abbrev pub OneWriting : Type 0
OneWriting =
    (refusal need : ℕ) (frame before : List ℕ) (a b : Result ℕ Refusal) (after other : List ℕ)
    → Wrote refusal need frame before a after → Wrote refusal need frame before b other → (a ≡ b) × (after ≡ other)
