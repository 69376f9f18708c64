-- The IPv4 header of a packet, and refusals 1 to 4 (01, 'Refusal numbers').
use Rattle.std.specs.Prelude.{ℕ, ◌-◌, ◌*◌, ◌/◌, ◌%◌, List, [], ◌∷◌, Bool, not, ◌||◌, ltb, eqb, length, take, drop}
use Rattle.sums.specs.Sum.{sum_of}
use Rattle.wire.specs.Check.{Check, first_refusal}
use Rattle.wire.specs.Reading.{byte_at, word_at, number_at}

-- the header length field counts in four bytes
abbrev pub header_length : List ℕ → ℕ
header_length packet = 4 * (byte_at packet 0 % 16)

abbrev pub total_length : List ℕ → ℕ
total_length packet = word_at packet 2

-- the causes of refusal 1 in 01's order, each with its place: "fewer than 20 bytes; IP version not 4;
-- header length field under 5; header longer than the bytes given;
-- total length below the header or above the bytes given"
abbrev pub causes : List ℕ → List Check
causes packet =
    (1, ltb (length packet) 20)
    ∷ ((2, not (eqb (byte_at packet 0 / 16) 4))
    ∷ ((3, ltb (byte_at packet 0 % 16) 5)
    ∷ ((4, ltb (length packet) (header_length packet))
    ∷ ((5, ltb (total_length packet) (header_length packet)) ∷ ((6, ltb (length packet) (total_length packet)) ∷ [])))))

-- which of the causes makes a packet unreadable, 0 where none does
unfoldable pub cause_of : List ℕ → ℕ
cause_of packet = first_refusal (causes packet)

-- "one's complement sum of the IP header not 0xFFFF"
unfoldable pub header_sum_wrong : List ℕ → Bool
header_sum_wrong packet = not (eqb (sum_of (take (header_length packet) packet)) 0xFFFF)

-- the fragment field: a reserved bit, don't-fragment, more-fragments, an offset of 13 bits
abbrev pub fragment_field : List ℕ → ℕ
fragment_field packet = word_at packet 6

-- "more-fragments bit or nonzero offset; protocol not 112; destination not 224.0.0.18"
unfoldable pub not_ours : List ℕ → Bool
not_ours packet =
    not (eqb (fragment_field packet / 8192 % 2) 0)
    || not (eqb (fragment_field packet % 8192) 0)
    || not (eqb (byte_at packet 9) 112)
    || not (eqb (number_at packet 16) 0xE0000012)

-- the checks of the header: 1 unreadable, 2 header sum, 3 not ours, 4 "TTL not 255"
abbrev pub header_checks : List ℕ → List Check
header_checks packet =
    (1, not (eqb (cause_of packet) 0))
    ∷ ((2, header_sum_wrong packet) ∷ ((3, not_ours packet) ∷ ((4, not (eqb (byte_at packet 8) 255)) ∷ [])))

-- the bytes between the header and the total length
abbrev pub payload : List ℕ → List ℕ
payload packet = take (total_length packet - header_length packet) (drop (header_length packet) packet)
