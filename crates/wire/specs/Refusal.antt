-- The numbers of the refusals (01, 'Refusal numbers' and 'The rehearsal program').
use Rattle.std.specs.Prelude.{ℕ, ◌≡◌, cond, eqb, Result, Ok, Err}
use Rattle.wire.specs.declared.refusal.Refusal.{Refusal}
use Rattle.wire.specs.declared.refusal.Refusal.TheVariants.{IpHeader, IpChecksum, NotOurs, Ttl, Version, TooShort, Checksum, MessageType}
use Rattle.wire.specs.declared.refusal.Refusal.TheVariants.{UnknownVrid, AddressOwner, Authentication, AddressList, OtherInterval}
use Rattle.wire.specs.declared.refusal.Refusal.TheVariants.{VridZero, PriorityZero, IntervalZero, AddressBytes, VridTaken, NoFreePlace}
use Rattle.wire.specs.declared.refusal.Refusal.TheVariants.{NoRouter, NotInInitialize, Room}
use Rattle.wire.specs.declared.refusal.Refusal.TheVariants.{UnknownKind, BodyCutOff, NotOneSegment, UnusedStation, SeventeenthStation}
use Rattle.wire.specs.declared.refusal.Refusal.TheVariants.{NothingToDeliver, PreemptAboveOne, ScriptTooLong}

abbrev pub refusal_number : Refusal → ℕ
refusal_number IpHeader = 1
refusal_number IpChecksum = 2
refusal_number NotOurs = 3
refusal_number Ttl = 4
refusal_number Version = 5
refusal_number TooShort = 6
refusal_number Checksum = 7
refusal_number MessageType = 8
refusal_number UnknownVrid = 9
refusal_number AddressOwner = 10
refusal_number Authentication = 11
refusal_number AddressList = 12
refusal_number OtherInterval = 13
refusal_number VridZero = 14
refusal_number PriorityZero = 15
refusal_number IntervalZero = 16
refusal_number AddressBytes = 17
refusal_number VridTaken = 18
refusal_number NoFreePlace = 19
refusal_number NoRouter = 20
refusal_number NotInInitialize = 21
refusal_number (Room needed) = 22
refusal_number UnknownKind = 23
refusal_number BodyCutOff = 24
refusal_number NotOneSegment = 25
refusal_number UnusedStation = 26
refusal_number SeventeenthStation = 27
refusal_number NothingToDeliver = 28
refusal_number PreemptAboveOne = 29
refusal_number ScriptTooLong = 30

-- "22 also with the room needed"; 0 for every other
abbrev pub room_needed : Refusal → ℕ
room_needed (Room needed) = needed
room_needed other = 0

-- the number that an answer is refused by, 0 where it is not refused
abbrev pub number_answered : {T : Type 0} → Result T Refusal → ℕ
number_answered (Ok value) = 0
number_answered (Err refusal) = refusal_number refusal

-- the answer with its refusal's number
abbrev pub numbered : {T : Type 0} → Result T Refusal → Result T ℕ
numbered (Ok value) = Ok value
numbered (Err refusal) = Err (refusal_number refusal)

-- the room that an answer says is needed, 0 where it says none
abbrev pub room_answered : {T : Type 0} → Result T Refusal → ℕ
room_answered (Ok value) = 0
room_answered (Err refusal) = room_needed refusal

-- "A refusal answers its number, 22 also with the room needed": by which refusal, 0 for none
pub record RefusedBy (refusal need : ℕ) {T : Type 0} (answer : Result T Refusal) : Type 0 where
  pub number_is : number_answered answer ≡ refusal
  pub needed_is : room_answered answer ≡ cond (eqb refusal 22) need 0
