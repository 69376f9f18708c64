-- The virtual addresses that a call is given.
use Rattle.std.specs.Prelude.{ℕ, ◌≡◌, List, true, false, Result, MatchResult}
use Rattle.wire.specs.declared.refusal.Refusal.{Refusal}
use Rattle.wire.specs.declared.refusal.Refusal.TheVariants.{AddressBytes}
use Rattle.writing.specs.Writing.{address_bytes_wrong}
use Rattle.writing.specs.declared.addresses.Addresses.{Addresses}

-- what is made of address bytes: the addresses, or 17
abbrev pub Taken : List ℕ → Result Addresses Refusal → Type 0
Taken given result =
    MatchResult result (λ list. (address_bytes_wrong given ≡ false) × (list.bytes.now ≡ given))
    (λ refusal. (address_bytes_wrong given ≡ true) × (refusal ≡ AddressBytes))
