-- `writing::arp::put_arp` meets its contract: head and tail stand one behind the other.
-- Assumes nothing.
use native.Mathlib.Omega.{arith}
use Rattle.writing.proofs.Pasting.{nothing, put_next, frame_stands, arp_parts}
use Rattle.writing.proofs.arp.put_arp.Goals as goal

pub returns : goal.returns
returns c =
    let h = c.arp_head.ensures in
    let t = c.arp_tail.ensures in
    let head = put_next c.arp_head.result 22 nothing c.put.ensures (omega arith) in
    let both = put_next c.arp_tail.result 42 head c.put-2.ensures (omega arith) in
    frame_stands both (arp_parts _ _ _ _ h.bytes t.bytes)
