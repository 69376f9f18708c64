-- How long what an event writes is: what callers hold a room to.
-- Assumes nothing.
use mathlib.Core.Path.{◌≡◌, refl}
use mathlib.Core.List.{List}
use Prim.Native.Nat.{ℕ, ◌+◌}
use native.Mathlib.Omega.{arith}
use lib.ListN.{length, replicate, length-append}
use Rattle.writing.specs.Frame.{header_of, message_of, packet_of, frame_of}
use Rattle.states.specs.declared.record.Router.{Router}
use Rattle.states.specs.declared.step.Writes.{Writes}
use Rattle.states.specs.declared.step.Writes.TheVariants.{Nothing, Advertisement, Farewell, Takeover}
use Rattle.output.specs.Output.{arps_of, bytes_of, need_of}
use Rattle.output.proofs.Arps.{arps_length}

-- "Frame: 50 + 4n bytes", whatever the numbers in it are
pub frame_length : (vrid priority interval primary : ℕ) (addresses : List ℕ)
    → length (frame_of vrid priority interval primary addresses) ≡ 50 + length addresses
unfolding frame_of packet_of header_of message_of
frame_length vrid priority interval primary addresses = omega (arith, length-append addresses (replicate 8 0))

-- what is written is as long as the room that it needs
pub bytes_length : (writes : Writes) (r : Router) (primary : ℕ) (list : List ℕ)
    → length (bytes_of writes r primary list) ≡ need_of writes (length list)
bytes_length Nothing r primary list = refl
bytes_length Advertisement r primary list = frame_length r.vrid r.priority r.interval primary list
bytes_length Farewell r primary list = frame_length r.vrid 0 r.interval primary list
bytes_length Takeover r primary list =
    let frame = frame_of r.vrid r.priority r.interval primary list in
    let arps = arps_of r.vrid list in
    omega (
      arith,
      length-append frame arps,
      frame_length r.vrid r.priority r.interval primary list,
      arps_length r.vrid list,
    )
