-- One read more takes from the input what it puts behind what came before.
use Rattle.std.proofs.Common.{rules, subst}
use Rattle.std.specs.Io.KnownBytes.{Consumes}
use Rattle.std.proofs.KnownBytes.{Consumes-trans}
use Rattle.records.proofs.Filling.{filled_more}
use Rattle.records.proofs.reading.read_full.Goals as goal

pub loop-done-preserved : goal.loop-done-preserved
loop-done-preserved g c =
    let within = c.loop-done.invariant.1 in
    let joined = filled_more _ _ _ _ _ within c.in_ok-more.ensures.bound.0 in (
      search rules,
      search rules,
      subst (Consumes _ _) joined (Consumes-trans _ _ _ _ _ c.loop-done.invariant.2 c.in_ok-more.ensures.bytes.0),
    )
