-- Numbers, addresses and bytes as text, in ASCII. Assumes nothing.
use Rattle.std.specs.Prelude.{ℕ, zero, suc, ◌+◌, ◌/◌, ◌%◌, cond, List, [], ◌∷◌, ◌++◌, eqb, ltb, length, flat_map}

-- the decimal digits of n, the greatest first; the other number bounds how many there are
unfoldable pub digits : ℕ → ℕ → List ℕ
digits zero n = []
digits (suc most) n = cond (ltb n 10) ((48 + n) ∷ []) (digits most (n / 10) ++ ((48 + n % 10) ∷ []))

-- n in decimal: it has at most n + 1 digits
unfoldable pub decimal_of : ℕ → List ℕ
decimal_of n = digits (suc n) n

-- four bytes as a dotted address
unfoldable pub dotted_of : ℕ → ℕ → ℕ → ℕ → List ℕ
dotted_of a b c d = decimal_of a ++ (46 ∷ []) ++ decimal_of b ++ (46 ∷ []) ++ decimal_of c ++ (46 ∷ []) ++ decimal_of d

-- a 32-bit address, first byte greatest, as its four bytes
abbrev pub address_of : ℕ → List ℕ
address_of n = dotted_of (n / 16777216) (n / 65536 % 256) (n / 256 % 256) (n % 256)

-- the hexadecimal digit of a number below 16, in lower case
abbrev pub hex_digit : ℕ → ℕ
hex_digit n = cond (ltb n 10) (48 + n) (87 + n)

-- a byte in hexadecimal
abbrev pub hex_byte : ℕ → List ℕ
hex_byte b = hex_digit (b / 16) ∷ (hex_digit (b % 16) ∷ [])

-- bytes in hexadecimal
abbrev pub hex_of : List ℕ → List ℕ
hex_of bytes = flat_map hex_byte bytes

-- bytes in hexadecimal, or a dash where there are none
abbrev pub hex_or_dash : List ℕ → List ℕ
hex_or_dash bytes = cond (eqb (length bytes) 0) (45 ∷ []) (hex_of bytes)
