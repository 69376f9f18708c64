-- The address lists after a history: the bytes that were lent for them stay bytes, and as many.
-- Assumes nothing.
use mathlib.Core.Path.{◌≡◌, sym, subst}
use mathlib.Core.List.{List, [], ◌∷◌, ◌++◌}
use Prim.Native.Nat.{ℕ, zero, suc, ◌+◌, ◌*◌, ◌<◌}
use native.Mathlib.Omega.{arith}
use lib.Dec.{eqb}
use lib.ListN.{length, take, drop, replicate, length-replicate}
use lib.Seq.{paste, get_or-drop}
use Rattle.std.proofs.lemmas.Bool.{cond_both}
use Rattle.sums.specs.Sum.{Bytes}
use Rattle.sums.proofs.Bytes.{bytes_cons, bytes_append}
use Rattle.places.specs.Place.{place_of}
use Rattle.events.specs.Lists.{list_at, set_list}
use Rattle.configuring.specs.Configuring.{place_in, configure_refusal}
use Rattle.histories.specs.Histories.{Call, configure, remove, startup, shutdown, clock, packet, Given, Memory, called}
use Rattle.histories.specs.Histories.{after, GivenAll}
use Rattle.histories.proofs.Does.{call_does}
use Rattle.histories.proofs.Held.{Held}
use Rattle.histories.proofs.Histories.{call_held}
use Rattle.histories.proofs.Stays.{does_long}

-- 64 bytes for each place
pub record Listed (lists : List ℕ) : Type 0 where
  pub bytes : Bytes lists
  pub long : length lists ≡ 16320

-- a list of zeros
zeros_bytes : (n : ℕ) → Bytes (replicate n 0)
zeros_bytes zero = λ i. omega arith
zeros_bytes (suc n) = bytes_cons 0 (replicate n 0) (omega arith) (zeros_bytes n)

pub zeros_listed : Listed (replicate 16320 0)
zeros_listed = record { bytes = zeros_bytes 16320; long = length-replicate {A = ℕ} 16320 0 }

bytes_take : (n : ℕ) (s : List ℕ) → Bytes s → Bytes (take n s)
bytes_take zero s h = λ i. omega arith
bytes_take (suc n) [] h = h
bytes_take (suc n) (a ∷ s) h = bytes_cons a (take n s) (h 0) (bytes_take n s (λ i. h (suc i)))

bytes_drop : (n : ℕ) (s : List ℕ) → Bytes s → Bytes (drop n s)
bytes_drop n s h i = subst (λ (k : ℕ). k < 256) (sym (get_or-drop n s i 0)) (h _)

-- the list of a place
pub list_bytes : (lists : List ℕ) (place n : ℕ) → Bytes lists → Bytes (list_at lists place n)
unfolding list_at
list_bytes lists place n h = bytes_take (4 * n) (drop (64 * place) lists) (bytes_drop (64 * place) lists h)

bytes_paste : (d : List ℕ) (at : ℕ) (s : List ℕ) (n : ℕ) → Bytes d → Bytes s → Bytes (paste d at s n)
bytes_paste d at s n h k =
    bytes_append (take at d ++ take n s) (drop (at + n) d)
    (bytes_append (take at d) (take n s) (bytes_take at d h) (bytes_take n s k))
    (bytes_drop (at + n) d h)

set_bytes : (lists : List ℕ) (place : ℕ) (addresses : List ℕ) → Bytes lists → Bytes addresses
    → Bytes (set_list lists place addresses)
unfolding set_list
set_bytes lists place addresses h k = bytes_paste lists (64 * place) addresses (length addresses) h k

call_bytes : (m : Memory) (call : Call) → Given call → Bytes m.lists → Bytes (called m call).lists
call_bytes m (configure v priority interval preempt addresses) g h =
    let place = place_in (place_of m.words 0) in
    cond_both (eqb (configure_refusal m.words v priority interval addresses) 0) (set_list m.lists place addresses)
    m.lists Bytes (λ t. set_bytes m.lists place addresses h g.3) (λ t. h)
call_bytes m (remove v) g h = h
call_bytes m (startup v room) g h = h
call_bytes m (shutdown v room) g h = h
call_bytes m (clock v d room) g h = h
call_bytes m (packet bytes room) g h = h

pub history_listed : (m : Memory) (history : List Call) → GivenAll history → Held m.words → Listed m.lists
    → Listed (after m history).lists
history_listed m [] g held listed = listed
history_listed m (call ∷ rest) g held listed =
    history_listed (called m call) rest g.1 (call_held m call g.0 held)
    (record {
      bytes = call_bytes m call g.0 listed.bytes;
      long = does_long m.words m.lists _ _ _ listed.long (call_does m call held.long);
    })
