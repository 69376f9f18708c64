-- The laws of refusals and their numbers.
--     within, nonzero  a refusal's number is 1 to 30
--     same_refusal     equal numbers and equal rooms needed are equal refusals
--     no_room          only 22 has a room that is needed
--     same_number      so any other number alone says the refusal
--     accepted         0 is answered exactly where there is a value
--     refused          and another number is that of the refusal
-- Assumes nothing.
use mathlib.Core.Path.{◌≡◌, refl, sym, ap, ◌∙◌}
use mathlib.Core.List.{List, [], ◌∷◌}
use Prim.Native.Nat.{ℕ, ◌≤◌}
use native.Mathlib.Omega.{arith}
use lib.ListN.{get_or}
use Rattle.std.specs.Prelude.{Result, Ok, Err}
use Rattle.wire.specs.declared.refusal.Refusal.{Refusal}
use Rattle.wire.specs.declared.refusal.Refusal.TheVariants.{IpHeader, IpChecksum, NotOurs, Ttl, Version, TooShort, Checksum, MessageType}
use Rattle.wire.specs.declared.refusal.Refusal.TheVariants.{UnknownVrid, AddressOwner, Authentication, AddressList, OtherInterval}
use Rattle.wire.specs.declared.refusal.Refusal.TheVariants.{VridZero, PriorityZero, IntervalZero, AddressBytes, VridTaken, NoFreePlace}
use Rattle.wire.specs.declared.refusal.Refusal.TheVariants.{NoRouter, NotInInitialize, Room}
use Rattle.wire.specs.declared.refusal.Refusal.TheVariants.{UnknownKind, BodyCutOff, NotOneSegment, UnusedStation, SeventeenthStation}
use Rattle.wire.specs.declared.refusal.Refusal.TheVariants.{NothingToDeliver, PreemptAboveOne, ScriptTooLong}
use Rattle.wire.specs.Refusal.{refusal_number, room_needed, number_answered, room_answered}

-- the refusals in the order of their numbers, where so much room is needed
in_order : ℕ → List Refusal
in_order needed =
    IpHeader ∷ (IpHeader ∷ (IpChecksum ∷ (NotOurs ∷ (Ttl ∷ (Version ∷ (TooShort ∷ (Checksum ∷ (MessageType
    ∷ (UnknownVrid ∷ (AddressOwner ∷ (Authentication ∷ (AddressList ∷ (OtherInterval
    ∷ (VridZero ∷ (PriorityZero ∷ (IntervalZero ∷ (AddressBytes ∷ (VridTaken ∷ (NoFreePlace
    ∷ (NoRouter ∷ (NotInInitialize ∷ (Room needed
    ∷ (UnknownKind ∷ (BodyCutOff ∷ (NotOneSegment ∷ (UnusedStation ∷ (SeventeenthStation
    ∷ (NothingToDeliver ∷ (PreemptAboveOne ∷ (ScriptTooLong ∷ []))))))))))))))))))))))))))))))

abbrev named : ℕ → ℕ → Refusal
named number needed = get_or (in_order needed) number IpHeader

refusal_named : (r : Refusal) → named (refusal_number r) (room_needed r) ≡ r
unfolding in_order
refusal_named IpHeader = refl
refusal_named IpChecksum = refl
refusal_named NotOurs = refl
refusal_named Ttl = refl
refusal_named Version = refl
refusal_named TooShort = refl
refusal_named Checksum = refl
refusal_named MessageType = refl
refusal_named UnknownVrid = refl
refusal_named AddressOwner = refl
refusal_named Authentication = refl
refusal_named AddressList = refl
refusal_named OtherInterval = refl
refusal_named VridZero = refl
refusal_named PriorityZero = refl
refusal_named IntervalZero = refl
refusal_named AddressBytes = refl
refusal_named VridTaken = refl
refusal_named NoFreePlace = refl
refusal_named NoRouter = refl
refusal_named NotInInitialize = refl
refusal_named (Room needed) = refl
refusal_named UnknownKind = refl
refusal_named BodyCutOff = refl
refusal_named NotOneSegment = refl
refusal_named UnusedStation = refl
refusal_named SeventeenthStation = refl
refusal_named NothingToDeliver = refl
refusal_named PreemptAboveOne = refl
refusal_named ScriptTooLong = refl

pub same_refusal : (a b : Refusal) → refusal_number a ≡ refusal_number b → room_needed a ≡ room_needed b → a ≡ b
same_refusal a b n r = sym (refusal_named a) ∙ rw (n, r, refusal_named b)

pub no_room : (r : Refusal) → ¬ (refusal_number r ≡ 22) → room_needed r ≡ 0
no_room IpHeader h = refl
no_room IpChecksum h = refl
no_room NotOurs h = refl
no_room Ttl h = refl
no_room Version h = refl
no_room TooShort h = refl
no_room Checksum h = refl
no_room MessageType h = refl
no_room UnknownVrid h = refl
no_room AddressOwner h = refl
no_room Authentication h = refl
no_room AddressList h = refl
no_room OtherInterval h = refl
no_room VridZero h = refl
no_room PriorityZero h = refl
no_room IntervalZero h = refl
no_room AddressBytes h = refl
no_room VridTaken h = refl
no_room NoFreePlace h = refl
no_room NoRouter h = refl
no_room NotInInitialize h = refl
no_room (Room needed) h = absurd (h refl)
no_room UnknownKind h = refl
no_room BodyCutOff h = refl
no_room NotOneSegment h = refl
no_room UnusedStation h = refl
no_room SeventeenthStation h = refl
no_room NothingToDeliver h = refl
no_room PreemptAboveOne h = refl
no_room ScriptTooLong h = refl

pub same_number : (a b : Refusal) → refusal_number a ≡ refusal_number b → ¬ (refusal_number a ≡ 22) → a ≡ b
same_number a b n h = same_refusal a b n (no_room a h ∙ sym (no_room b (λ e. h (n ∙ e))))

pub within : (r : Refusal) → (1 ≤ refusal_number r) × (refusal_number r ≤ 30)
within IpHeader = omega arith
within IpChecksum = omega arith
within NotOurs = omega arith
within Ttl = omega arith
within Version = omega arith
within TooShort = omega arith
within Checksum = omega arith
within MessageType = omega arith
within UnknownVrid = omega arith
within AddressOwner = omega arith
within Authentication = omega arith
within AddressList = omega arith
within OtherInterval = omega arith
within VridZero = omega arith
within PriorityZero = omega arith
within IntervalZero = omega arith
within AddressBytes = omega arith
within VridTaken = omega arith
within NoFreePlace = omega arith
within NoRouter = omega arith
within NotInInitialize = omega arith
within (Room needed) = omega arith
within UnknownKind = omega arith
within BodyCutOff = omega arith
within NotOneSegment = omega arith
within UnusedStation = omega arith
within SeventeenthStation = omega arith
within NothingToDeliver = omega arith
within PreemptAboveOne = omega arith
within ScriptTooLong = omega arith

pub nonzero : (r : Refusal) → ¬ (refusal_number r ≡ 0)
nonzero r e = omega (arith, within r)

pub accepted : {T : Type 0} (answer : Result T Refusal) → number_answered answer ≡ 0 → (value : T) × (answer ≡ Ok value)
accepted (Ok value) e = (value, refl)
accepted (Err refusal) e = absurd (omega (arith, within refusal))

pub refused : {T : Type 0} (answer : Result T Refusal) → ¬ (number_answered answer ≡ 0)
    → (refusal : Refusal) × (answer ≡ Err refusal)
refused (Ok value) n = absurd (n refl)
refused (Err refusal) n = (refusal, refl)

-- answers that tell the same are the same
pub same_answer : {T : Type 0} (a b : Result T Refusal) → number_answered a ≡ number_answered b → room_answered a ≡ room_answered b
    → ((x y : T) → a ≡ Ok x → b ≡ Ok y → x ≡ y) → a ≡ b
same_answer (Ok x) (Ok y) n r v = ap Ok (v x y refl refl)
same_answer (Ok x) (Err q) n r v = absurd (nonzero q (sym n))
same_answer (Err p) (Ok y) n r v = absurd (nonzero p n)
same_answer (Err p) (Err q) n r v = ap Err (same_refusal p q n r)
