-- The gratuitous ARP frame (01, 'Bytes').
use Rattle.std.specs.Prelude.{ℕ, List, [], ◌∷◌, ◌++◌, replicate}
use Rattle.wire.specs.Reading.{four_bytes}
use Rattle.writing.specs.Frame.{virtual_mac}

-- "to FF:FF:FF:FF:FF:FF, from the virtual MAC, type 0x0806; hardware 1, protocol 0x0800, sizes 6 and 4, operation 1"
abbrev pub arp_start : ℕ → List ℕ
arp_start vrid =
    replicate 6 0xFF
    ++ (virtual_mac vrid
    ++ (0x08 ∷ (0x06 ∷ (0 ∷ (1 ∷ (0x08 ∷ (0x00 ∷ (6 ∷ (4 ∷ (0 ∷ (1 ∷ [])))))))))))

-- "sender virtual MAC and virtual address; target MAC zero (a house ruling); target address the same"
abbrev pub arp_end : ℕ → ℕ → List ℕ
arp_end vrid address = virtual_mac vrid ++ (four_bytes address ++ (replicate 6 0 ++ four_bytes address))

-- "42 bytes, no padding"
unfoldable pub arp_of : ℕ → ℕ → List ℕ
arp_of vrid address = arp_start vrid ++ arp_end vrid address
