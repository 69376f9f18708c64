-- Worked examples of the definitions: a number, an address of the paper's example, and two bytes. Assumes nothing.
use mathlib.Core.Path.{◌≡◌, refl}
use mathlib.Core.List.{[], ◌∷◌}
use Rattle.text.specs.Digits.{digits, decimal_of, dotted_of, address_of, hex_of}

-- 0
zero_decimal : decimal_of 0 ≡ 48 ∷ []
unfolding decimal_of digits
zero_decimal = refl

-- 65535
large_decimal : decimal_of 65535 ≡ 54 ∷ 53 ∷ 53 ∷ 51 ∷ 53 ∷ []
unfolding decimal_of digits
large_decimal = refl

-- 192.168.1.2
source_address : address_of 0xC0A80102 ≡ 49 ∷ 57 ∷ 50 ∷ 46 ∷ 49 ∷ 54 ∷ 56 ∷ 46 ∷ 49 ∷ 46 ∷ 50 ∷ []
unfolding dotted_of decimal_of digits
source_address = refl

-- 0fa5
two_bytes : hex_of (15 ∷ 165 ∷ []) ≡ 48 ∷ 102 ∷ 97 ∷ 53 ∷ []
two_bytes = refl
