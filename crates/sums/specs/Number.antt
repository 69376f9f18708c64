-- A number in four bytes (01, 'The table').
use Rattle.std.specs.Prelude.{ℕ, ◌+◌, ◌*◌}

-- "32-bit numbers, first byte greatest": the number in four bytes
abbrev pub number_of : ℕ → ℕ → ℕ → ℕ → ℕ
number_of a b c d = 16777216 * a + 65536 * b + 256 * c + d
