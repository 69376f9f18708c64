-- `writing::frame::Advertisement::put` meets its contract: the parts of the frame stand one behind another.
-- Assumes nothing.
use mathlib.Core.Path.{refl}
use Prim.Native.Nat.{◌+◌}
use native.Mathlib.Omega.{arith}
use lib.ListN.{length, replicate}
use Rattle.writing.proofs.Pasting.{nothing, put_next, frame_stands, frame_parts}
use Rattle.writing.proofs.frame.Advertisement.put.Goals as goal

pub returns : goal.returns
returns c =
    let addresses = c.args.self.now.addresses.bytes.now in
    let e = c.ethernet_head.ensures in
    let h = c.ip_header.ensures in
    let m = c.message_head.ensures in
    let one = put_next c.ethernet_head.result 14 nothing c.put.ensures (omega arith) in
    let two = put_next c.ip_header.result 34 one c.put-2.ensures (omega arith) in
    let three = put_next c.message_head.result 42 two c.put-3.ensures (omega arith) in
    let four = put_next addresses (42 + length addresses) three c.put-4.ensures refl in
    let all = put_next (replicate 8 0) _ four c.put-5.ensures refl in
    frame_stands all (frame_parts _ _ _ _ _ _ _ _ e.bytes h.bytes m.bytes)
