-- Direct writing into a room that the caller lends: the refusals, the answer and every byte of the room.
use Rattle.std.specs.Prelude.{ℕ, ◌+◌, ◌%◌, ◌≡◌, List, [], ◌∷◌, ◌++◌, Bool, cond, not, ◌||◌, ltb, eqb, length, drop}
use Rattle.std.specs.Prelude.{Result, IfOk}
use Rattle.wire.specs.declared.refusal.Refusal.{Refusal}
use Rattle.wire.specs.Check.{Check, first_refusal}
use Rattle.wire.specs.Refusal.{RefusedBy}
use Rattle.writing.specs.Frame.{frame_of}
use Rattle.writing.specs.Arp.{arp_of}

-- "17 address bytes not a multiple of 4, none, or above 64"
unfoldable pub address_bytes_wrong : List ℕ → Bool
address_bytes_wrong addresses =
    not (eqb (length addresses % 4) 0) || eqb (length addresses) 0 || ltb 64 (length addresses)

-- "Direct writing from C checks 14, 16, 17, 22 and allows priority 0"
abbrev pub advertisement_checks : ℕ → ℕ → List ℕ → ℕ → List Check
advertisement_checks vrid interval addresses room =
    (14, eqb vrid 0)
    ∷ ((16, eqb interval 0)
    ∷ ((17, address_bytes_wrong addresses) ∷ ((22, ltb room (50 + length addresses)) ∷ [])))

-- the refusal of writing an advertisement frame, 0 where there is none
unfoldable pub advertisement_refusal : ℕ → ℕ → List ℕ → ℕ → ℕ
advertisement_refusal vrid interval addresses room = first_refusal (advertisement_checks vrid interval addresses room)

-- "of one ARP frame 14, 22"
abbrev pub arp_checks : ℕ → ℕ → List Check
arp_checks vrid room = (14, eqb vrid 0) ∷ ((22, ltb room 42) ∷ [])

-- the refusal of writing an ARP frame, 0 where there is none
unfoldable pub arp_refusal : ℕ → ℕ → ℕ
arp_refusal vrid room = first_refusal (arp_checks vrid room)

-- bytes at the start of a room, over what stood there
abbrev pub over : List ℕ → List ℕ → List ℕ
over bytes room = bytes ++ drop (length bytes) room

-- "Output bytes stay untouched; on success those past the written part do"
abbrev pub room_after : ℕ → List ℕ → List ℕ → List ℕ
room_after refusal frame room = cond (eqb refusal 0) (over frame room) room

-- the promise of writing a frame into a room, by its refusal: the answer, and the whole room
pub record Wrote (refusal need : ℕ) (frame before : List ℕ) (answer : Result ℕ Refusal) (after : List ℕ) : Type 0 where
  pub refusal_is : RefusedBy refusal need answer
  pub length_is : IfOk answer (λ length. length ≡ need)
  pub room_is : after ≡ room_after refusal frame before

-- writing an advertisement frame of 50 + 4n bytes
abbrev pub AdvertisementWritten : ℕ → ℕ → ℕ → ℕ → List ℕ → List ℕ → Result ℕ Refusal → List ℕ → Type 0
AdvertisementWritten vrid priority interval primary addresses before answer after =
    Wrote (advertisement_refusal vrid interval addresses (length before)) (50 + length addresses)
    (frame_of vrid priority interval primary addresses) before answer after

-- writing a gratuitous ARP frame of 42 bytes
abbrev pub ArpWritten : ℕ → ℕ → List ℕ → Result ℕ Refusal → List ℕ → Type 0
ArpWritten vrid address before answer after =
    Wrote (arp_refusal vrid (length before)) 42 (arp_of vrid address) before answer after
