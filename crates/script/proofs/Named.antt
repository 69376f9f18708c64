-- The kind of a byte: what `Kind::try_from` cites.
-- Assumes nothing.
use mathlib.Core.Path.{◌≡◌, refl}
use mathlib.Core.List.{[], ◌∷◌}
use Prim.Native.Nat.{ℕ, zero, suc, ◌≤◌}
use native.Mathlib.Omega.{arith}
use lib.ListN.{get_or-eq_default}
use Rattle.std.specs.Prelude.{Some, None}
use Rattle.script.specs.declared.kinds.Kind.TheVariants.{NewSegment, NewStation, Startup, Shutdown, Clock, Deliver}
use Rattle.script.specs.Kinds.{kind_of}

-- a byte that is no kind
pub unknown_kind : (byte : ℕ) → ¬ (byte ≡ 1) → ¬ (byte ≡ 2) → ¬ (byte ≡ 3) → ¬ (byte ≡ 4) → ¬ (byte ≡ 5)
    → ¬ (byte ≡ 6) → kind_of byte ≡ None
unfolding kind_of
unknown_kind zero a b c d e f = refl
unknown_kind (suc byte) a b c d e f =
    let past : 7 ≤ suc byte = omega arith in
    get_or-eq_default
    (None ∷ (Some NewSegment ∷ (Some NewStation ∷ (Some Startup ∷ (Some Shutdown ∷ (Some Clock ∷ (Some Deliver ∷ [])))))))
    None past
