-- Bytes put one behind another at the start of a room.
-- Assumes nothing.
use mathlib.Core.Path.{◌≡◌, refl, ◌∙◌}
use mathlib.Core.List.{List, [], ◌++◌, append_assoc}
use Prim.Native.Nat.{ℕ, ◌+◌}
use native.Mathlib.Omega.{arith}
use lib.ListN.{length, replicate, length-append}
use lib.Seq.{paste, take-append_seam, take-length, drop-append-add, drop-drop}
use Rattle.writing.specs.Arp.{arp_start, arp_end, arp_of}
use Rattle.writing.specs.Frame.{ethernet_of, header_of, message_end, message_of, packet_of, frame_of}
use Rattle.writing.specs.Writing.{over}

paste_behind : (w s room : List ℕ) → paste (over w room) (length w) s (length s) ≡ over (w ++ s) room
paste_behind w s room = simp (take-append_seam, take-length, drop-append-add, drop-drop, length-append)

-- w stands at the start of the room, and ends where the next bytes go
pub record Stands (w room after : List ℕ) (next : ℕ) : Type 0 where
  pub room_is : after ≡ over w room
  pub next_is : next ≡ length w

pub nothing : {room : List ℕ} → Stands [] room room 0
nothing = record { room_is = refl; next_is = refl }

-- where w stands, and s is pasted right behind it, both stand
pub put_next : {w room before after : List ℕ} {at : ℕ} (s : List ℕ) (next : ℕ) → Stands w room before at
    → after ≡ paste before at s (length s) → next ≡ at + length s → Stands (w ++ s) room after next
put_next {w} {room} s next h a e =
    record {
      room_is = a ∙ rw (h.room_is, h.next_is, paste_behind w s room);
      next_is = omega (arith, length-append w s);
    }

-- and w is the frame
pub frame_stands : {w room after frame : List ℕ} {next : ℕ} → Stands w room after next → w ≡ frame
    → after ≡ over frame room
frame_stands h e = rw (← e) h.room_is

-- the parts of each frame
pub arp_parts : (vrid address : ℕ) (head tail : List ℕ) → head ≡ arp_start vrid → tail ≡ arp_end vrid address
    → head ++ tail ≡ arp_of vrid address
unfolding arp_of
arp_parts vrid address head tail h t = rw (h, t)

pub frame_parts : (vrid priority interval primary : ℕ) (addresses ethernet header message : List ℕ)
    → ethernet ≡ ethernet_of vrid → header ≡ header_of primary addresses
    → message ++ message_end addresses ≡ message_of vrid priority interval addresses
    → ethernet ++ header ++ message ++ addresses ++ replicate 8 0 ≡ frame_of vrid priority interval primary addresses
unfolding packet_of frame_of
frame_parts vrid priority interval primary addresses ethernet header message e h m =
    simp append_assoc (rw (e, h, m))
