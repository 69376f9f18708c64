-- What C is told: 0 or the refusal's number alone (01: "they answer 0 or the refusal's number alone").
use Rattle.std.specs.Prelude.{◌≡◌, List, ℕ, length}
use Rattle.writing.specs.Frame.{frame_of}
use Rattle.writing.specs.Arp.{arp_of}
use Rattle.writing.specs.Writing.{advertisement_refusal, arp_refusal, room_after}

-- the promise of writing for C: the number, and the whole room
pub record Answered (refusal : ℕ) (frame before : List ℕ) (answer : ℕ) (after : List ℕ) : Type 0 where
  pub answer_is : answer ≡ refusal
  pub room_is : after ≡ room_after refusal frame before

-- writing an advertisement frame
abbrev pub AdvertisementAnswered : ℕ → ℕ → ℕ → ℕ → List ℕ → List ℕ → ℕ → List ℕ → Type 0
AdvertisementAnswered vrid priority interval primary addresses before answer after =
    Answered (advertisement_refusal vrid interval addresses (length before))
    (frame_of vrid priority interval primary addresses) before answer after

-- writing a gratuitous ARP frame
abbrev pub ArpAnswered : ℕ → ℕ → List ℕ → ℕ → List ℕ → Type 0
ArpAnswered vrid address before answer after =
    Answered (arp_refusal vrid (length before)) (arp_of vrid address) before answer after
