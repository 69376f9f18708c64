-- `turns::turn_of` meets its contract.
-- Assumes nothing.
use mathlib.Core.Path.{refl}
use Prim.Native.Nat.{◌≤◌}
use native.Mathlib.Omega.{arith}
use lib.ListN.{length}
use Rattle.script.specs.Progress.{segment_in}
use Rattle.turns.proofs.Turning.{number_fits, step_long, step_none, step_misplaced, turn_refused, turn_taken, found_long, number_long, found_none, number_none, number_misplaced, number_here, found_misplaced, found_refused, found_taken}
use Rattle.turns.proofs.turn_of.Goals as goal
use Rattle.turns.proofs.turn_of.Goals.{then-at-script-via-then-at-script, then-at-script-via-else-at-script+then-reading-at}

pub returns-then-script-gt65536-clause-turn : goal.returns-then-script-gt65536-clause-turn
returns-then-script-gt65536-clause-turn c =
    let a = c.args in
    rw (step_long a.script.now a.progress.now (omega arith))
    (record { progress_is = refl; line_is = refl })

pub returns-then-at-script-clause-turn : goal.returns-then-at-script-clause-turn
returns-then-at-script-clause-turn c =
    let a = c.args in
    let fits : length a.script.now ≤ 65536 = omega arith in
    elim c.then-at-script.branch [
      | then-at-script-via-then-at-script w ↦
          rw (step_none a.script.now a.progress.now fits w.if-at-script.true)
          (record { progress_is = refl; line_is = refl })
      | then-at-script-via-else-at-script+then-reading-at w ↦
          rw (step_misplaced a.script.now a.progress.now fits w.if-at-script.false w.if-reading-at.true)
          (record { progress_is = refl; line_is = refl })
    ]

pub reading_after-requires-clause-number_bound : goal.reading_after-requires-clause-number_bound
reading_after-requires-clause-number_bound c =
    let found = c.in-Ok.ensures in
    number_fits (segment_in c.args.progress.now) _ _ _ found.refused found.taken.0

pub returns-in-Ok-clause-turn : goal.returns-in-Ok-clause-turn
returns-in-Ok-clause-turn c =
    let a = c.args in
    let found = c.in-Ok.ensures in
    turn_taken a.script.now a.progress.now (omega arith) c.if-at-script.false c.if-reading-at.false
    c.in-Ok.taken _ found.refused found.taken.0 found.taken.1 c.reading_after.ensures

pub returns-in-Err-clause-turn : goal.returns-in-Err-clause-turn
returns-in-Err-clause-turn c =
    let a = c.args in
    turn_refused a.script.now a.progress.now (omega arith) c.if-at-script.false c.if-reading-at.false
    c.in-Err.refusal c.in-Err.ensures.refused

pub returns-then-script-gt65536-clause-found : goal.returns-then-script-gt65536-clause-found
returns-then-script-gt65536-clause-found c = found_long c.args.script.now c.args.progress.now (omega arith)

pub returns-then-script-gt65536-clause-number : goal.returns-then-script-gt65536-clause-number
returns-then-script-gt65536-clause-number c = number_long c.args.script.now c.args.progress.now (omega arith)

pub returns-then-at-script-clause-found : goal.returns-then-at-script-clause-found
returns-then-at-script-clause-found c =
    let a = c.args in
    let fits : length a.script.now ≤ 65536 = omega arith in
    elim c.then-at-script.branch [
      | then-at-script-via-then-at-script w ↦ found_none a.script.now a.progress.now fits w.if-at-script.true
      | then-at-script-via-else-at-script+then-reading-at w ↦
          found_misplaced a.script.now a.progress.now fits w.if-at-script.false w.if-reading-at.true
    ]

pub returns-then-at-script-clause-number : goal.returns-then-at-script-clause-number
returns-then-at-script-clause-number c =
    let a = c.args in
    let fits : length a.script.now ≤ 65536 = omega arith in
    elim c.then-at-script.branch [
      | then-at-script-via-then-at-script w ↦ number_none a.script.now a.progress.now fits w.if-at-script.true
      | then-at-script-via-else-at-script+then-reading-at w ↦
          number_misplaced a.script.now a.progress.now fits w.if-at-script.false w.if-reading-at.true
    ]

pub returns-in-Ok-clause-found : goal.returns-in-Ok-clause-found
returns-in-Ok-clause-found c =
    let a = c.args in
    let found = c.in-Ok.ensures in
    found_taken a.script.now a.progress.now (omega arith) c.if-at-script.false c.if-reading-at.false
    c.in-Ok.taken found.refused found.taken.0 found.taken.1

pub returns-in-Ok-clause-number : goal.returns-in-Ok-clause-number
returns-in-Ok-clause-number c =
    number_here c.args.script.now c.args.progress.now (omega arith) c.if-at-script.false c.if-reading-at.false

pub returns-in-Err-clause-found : goal.returns-in-Err-clause-found
returns-in-Err-clause-found c =
    let a = c.args in
    found_refused a.script.now a.progress.now (omega arith) c.if-at-script.false c.if-reading-at.false
    c.in-Err.refusal c.in-Err.ensures.refused

pub returns-in-Err-clause-number : goal.returns-in-Err-clause-number
returns-in-Err-clause-number c =
    number_here c.args.script.now c.args.progress.now (omega arith) c.if-at-script.false c.if-reading-at.false
