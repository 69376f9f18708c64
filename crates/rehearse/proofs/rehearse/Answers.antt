-- Each turn writes a piece and leaves less of the script, since there is room for a line; together the pieces are all.
use Rattle.std.proofs.Common.{arith, ◌++◌, [], take, sym, ◌∙◌, subst, append_assoc, append-nil}
use Rattle.std.proofs.lemmas.Bool.{not-true, not-false}
use Rattle.std.proofs.KnownBytes.{Appends-trans}
use Rattle.std.specs.Io.KnownBytes.{Appends}
use Rattle.script.specs.Progress.{started}
use Rattle.pieces.specs.Theorems.{Pieces, done, piece}
use Rattle.pieces.proofs.Theorems.{run_falls, run_within, pieces_together}
use Rattle.rehearse.proofs.rehearse.Goals as goal

pub loop-now-smaller : goal.loop-now-smaller
loop-now-smaller g c =
    run_falls
    _
    _
    _
    _
    _
    c.run-ran.ensures
    (not-true _ c.loop-now-test.true)
    (omega (arith, c.loop-now.invariant.0))

pub loop-now-preserved : goal.loop-now-preserved
loop-now-preserved g c =
    let written = c.loop-now.invariant.1 in
    let more = take c.run-ran.result.written c.run-ran.new.out in (
      (run_within _ _ _ _ _ c.run-ran.ensures).0 ∙ c.loop-now.invariant.0,
      (
        written.0 ++ more,
        Appends-trans _ _ _ written.0 more written.1 c.in_ok-write_all.ensures.bytes,
        λ rest pieces. subst
            (Pieces c.args.script.now started)
            (sym (append_assoc written.0 more rest))
            (written.2 (more ++ rest) (piece c.run-ran.ensures pieces)),
      ),
    )

pub returns : goal.returns
returns g c =
    let written = c.loop-now.invariant.1 in
    let pieces = written.2 [] (done (not-false _ c.loop-now-test.false)) in
    subst (Appends _ _) (sym (append-nil written.0) ∙ pieces_together _ _ pieces) written.1
