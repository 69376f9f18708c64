-- How numbers stand in bytes: "first byte greatest" (01, 'The table').
use Rattle.std.specs.Prelude.{ℕ, ◌+◌, ◌*◌, ◌/◌, ◌%◌, List, [], ◌∷◌, get_or}
use Rattle.sums.specs.Number.{number_of}

-- the byte at a place
abbrev pub byte_at : List ℕ → ℕ → ℕ
byte_at bytes i = get_or bytes i 0

-- the number in two bytes from a place on
abbrev pub word_at : List ℕ → ℕ → ℕ
word_at bytes i = 256 * byte_at bytes i + byte_at bytes (i + 1)

-- the number in four bytes from a place on
abbrev pub number_at : List ℕ → ℕ → ℕ
number_at bytes i = number_of (byte_at bytes i) (byte_at bytes (i + 1)) (byte_at bytes (i + 2)) (byte_at bytes (i + 3))

-- a number in two bytes
abbrev pub two_bytes : ℕ → List ℕ
two_bytes x = x / 256 ∷ (x % 256 ∷ [])

-- "Addresses are 32-bit numbers, first byte greatest": an address in four bytes
abbrev pub four_bytes : ℕ → List ℕ
four_bytes x = x / 16777216 ∷ (x / 65536 % 256 ∷ (x / 256 % 256 ∷ (x % 256 ∷ [])))
