-- The advertisement frame (01, 'Bytes').
use Rattle.std.specs.Prelude.{ℕ, ◌+◌, ◌/◌, List, [], ◌∷◌, ◌++◌, length, replicate}
use Rattle.sums.specs.Sum.{checksum_of, with_field}
use Rattle.wire.specs.Reading.{two_bytes, four_bytes}

-- "from 00:00:5E:00:01:VRID"
abbrev pub virtual_mac : ℕ → List ℕ
virtual_mac vrid = 0x00 ∷ (0x00 ∷ (0x5E ∷ (0x00 ∷ (0x01 ∷ (vrid ∷ [])))))

-- "byte 0 version 2 in the high four bits, type 1 in the low four; VRID; priority; address count n;
-- authentication type 0; A"
abbrev pub message_start : ℕ → ℕ → ℕ → List ℕ → List ℕ
message_start vrid priority interval addresses =
    0x21 ∷ (vrid ∷ (priority ∷ (length addresses / 4 ∷ (0 ∷ (interval ∷ [])))))

-- "n addresses of 4 bytes; 8 zero bytes"
abbrev pub message_end : List ℕ → List ℕ
message_end addresses = addresses ++ replicate 8 0

-- "Checksum: the 16-bit one's complement of the one's complement sum of the message, the field taken as zero"
unfoldable pub message_checksum : ℕ → ℕ → ℕ → List ℕ → ℕ
message_checksum vrid priority interval addresses =
    checksum_of (with_field (message_start vrid priority interval addresses) 0 (message_end addresses))

unfoldable pub message_of : ℕ → ℕ → ℕ → List ℕ → List ℕ
message_of vrid priority interval addresses =
    with_field (message_start vrid priority interval addresses) (message_checksum vrid priority interval addresses)
    (message_end addresses)

-- "20 bytes, service 0, total length 36 + 4n, identification 0, don't-fragment set, offset 0, TTL 255, protocol 112"
abbrev pub header_start : List ℕ → List ℕ
header_start addresses = 0x45 ∷ (0 ∷ (two_bytes (36 + length addresses) ++ (0 ∷ (0 ∷ (0x40 ∷ (0 ∷ (255 ∷ (112 ∷ []))))))))

-- "source = primary address, destination 224.0.0.18"
abbrev pub header_end : ℕ → List ℕ
header_end primary = four_bytes primary ++ (224 ∷ (0 ∷ (0 ∷ (18 ∷ []))))

unfoldable pub header_checksum : ℕ → List ℕ → ℕ
header_checksum primary addresses = checksum_of (with_field (header_start addresses) 0 (header_end primary))

unfoldable pub header_of : ℕ → List ℕ → List ℕ
header_of primary addresses = with_field (header_start addresses) (header_checksum primary addresses) (header_end primary)

-- the packet that an advertisement is
unfoldable pub packet_of : ℕ → ℕ → ℕ → ℕ → List ℕ → List ℕ
packet_of vrid priority interval primary addresses =
    header_of primary addresses ++ message_of vrid priority interval addresses

-- "Ethernet: to 01:00:5E:00:00:12, from 00:00:5E:00:01:VRID, type 0x0800"
abbrev pub ethernet_of : ℕ → List ℕ
ethernet_of vrid =
    0x01 ∷ (0x00 ∷ (0x5E ∷ (0x00 ∷ (0x00 ∷ (0x12 ∷ (virtual_mac vrid ++ (0x08 ∷ (0x00 ∷ []))))))))

-- "Frame: 50 + 4n bytes"
unfoldable pub frame_of : ℕ → ℕ → ℕ → ℕ → List ℕ → List ℕ
frame_of vrid priority interval primary addresses = ethernet_of vrid ++ packet_of vrid priority interval primary addresses
