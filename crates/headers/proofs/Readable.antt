-- What a packet is that no cause of refusal 1 makes unreadable: every read of it leans on that.
-- Assumes nothing.
use mathlib.Core.Path.{◌≡◌}
use mathlib.Core.List.{List}
use Prim.Native.Nat.{ℕ, ◌≤◌}
use native.Mathlib.Omega.{arith}
use lib.ListN.{length, length-take}
use Rattle.headers.specs.Packet.{header_length, total_length, causes, cause_of}
use Rattle.wire.proofs.Tested.{tests}
use Rattle.wire.proofs.Checks.{passed}

pub record Readable (packet : List ℕ) : Type 0 where
  pub given : 20 ≤ length packet
  pub header : header_length packet ≤ length packet
  pub low : header_length packet ≤ total_length packet
  pub high : total_length packet ≤ length packet

pub readable : (packet : List ℕ) → cause_of packet ≡ 0 → Readable packet
unfolding cause_of
readable packet e = let p = passed (causes packet) (omega arith) e in omega tests

-- and its header as a part of it
pub ruleset reads = (readable, length-take)
