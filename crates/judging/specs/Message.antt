-- The VRRP message in the payload, and refusals 5 to 8 (01, 'Refusal numbers').
use Rattle.std.specs.Prelude.{ℕ, ◌+◌, ◌*◌, ◌/◌, ◌%◌, List, [], ◌∷◌, Bool, not, ◌&&◌, ◌||◌, ltb, eqb, length, take}
use Rattle.sums.specs.Sum.{sum_of}
use Rattle.wire.specs.Check.{Check}
use Rattle.wire.specs.Reading.{byte_at}

-- "Length 16 + 4n", n being the address count in byte 3
abbrev pub message_length : List ℕ → ℕ
message_length payload = 16 + 4 * byte_at payload 3

-- "payload has a byte and version is not 2"
unfoldable pub version_wrong : List ℕ → Bool
version_wrong payload = ltb 0 (length payload) && not (eqb (byte_at payload 0 / 16) 2)

-- "payload under 8 bytes or under 16 + 4n"
unfoldable pub too_short : List ℕ → Bool
too_short payload = ltb (length payload) 8 || ltb (length payload) (message_length payload)

-- "the sum over the first 16 + 4n bytes with the field as it stands must be 0xFFFF"
unfoldable pub message_sum_wrong : List ℕ → Bool
message_sum_wrong payload = not (eqb (sum_of (take (message_length payload) payload)) 0xFFFF)

-- the checks of the message: 5 version, 6 length, 7 checksum, 8 "type not 1"
abbrev pub message_checks : List ℕ → List Check
message_checks payload =
    (5, version_wrong payload)
    ∷ ((6, too_short payload) ∷ ((7, message_sum_wrong payload) ∷ ((8, not (eqb (byte_at payload 0 % 16) 1)) ∷ [])))
