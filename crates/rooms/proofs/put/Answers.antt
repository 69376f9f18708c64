-- One byte more is pasted in each turn.
use Rattle.std.proofs.Common.{refl, arith}
use native.Mathlib.Numerals.{add-one}
use lib.ListN.{length-set}
use lib.Seq.{paste-zero, paste-suc}
use Rattle.rooms.proofs.put.Goals as goal

pub loop-k-init : goal.loop-k-init
loop-k-init c = (paste-zero c.args.room.now c.args.at c.args.bytes.now, refl)

pub loop-k-preserved : goal.loop-k-preserved
loop-k-preserved c =
    let a = c.args in
    let one_more = paste-suc a.room.now a.at a.bytes.now c.loop-k.k 0 (omega arith) (omega arith) in
    (rw (c.loop-k.invariant.0, add-one c.loop-k.k, one_more), simp length-set c.loop-k.invariant.1)
