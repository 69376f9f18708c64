-- `states::step::turn` meets its contract: each arm is a row of the table.
-- Assumes nothing.
use Rattle.std.proofs.Common.{ap, ◌∙◌, ap₂, arith}
use Rattle.states.specs.Step.{heard_by_backup, heard_by_master}
use Rattle.states.specs.Turn.{turn_of}
use Rattle.states.proofs.Rows.{owner_starts, other_starts, stays_unlisted}
use Rattle.states.proofs.Rows.{backup_stops, backup_fires, backup_hears_farewell, backup_hears_other}
use Rattle.states.proofs.Rows.{master_stops, master_fires, master_hears_farewell, master_hears_other}
use Rattle.states.proofs.step.turn.Goals as goal
use Rattle.states.proofs.step.turn.Goals.{in_default-via-then-row-lt5120+else-row-lt255+then-row-lt4352, in_default-via-else-row-lt5120+then-row-lt8448, in_default-via-else-row-lt5120+else-row-lt8448+else-row-lt8704+else-row-lt8960+else-row-lt9216}

pub returns-in-255 : goal.returns-in-255
returns-in-255 c =
    let a = c.args in
    c.advertise.ensures ∙ ap turn_of (owner_starts a.primary a.r a.event (omega arith) (omega arith))

pub returns-in-4864 : goal.returns-in-4864
returns-in-4864 c =
    let a = c.args in
    c.hurry.ensures ∙ ap turn_of (backup_hears_farewell a.primary a.r a.event (omega arith) (omega arith))

pub returns-in-8960 : goal.returns-in-8960
returns-in-8960 c =
    let a = c.args in
    c.advertise-in-8960.ensures ∙ ap turn_of (master_hears_farewell a.primary a.r a.event (omega arith) (omega arith))

pub returns-in-0-to-254 : goal.returns-in-0-to-254
returns-in-0-to-254 c =
    let a = c.args in
    c.wait.ensures ∙ ap turn_of (other_starts a.primary a.r a.event (omega arith) (omega arith))

pub returns-in-4352-to-4607 : goal.returns-in-4352-to-4607
returns-in-4352-to-4607 c =
    let a = c.args in
    c.stop.ensures ∙ ap turn_of (backup_stops a.primary a.r a.event (omega arith) (omega arith) (omega arith))

pub returns-in-4608-to-4863 : goal.returns-in-4608-to-4863
returns-in-4608-to-4863 c =
    let a = c.args in
    c.advertise-in-4608-to-4863.ensures ∙ ap turn_of (backup_fires a.primary a.r a.event (omega arith) (omega arith) (omega arith))

pub returns-in-4865-to-5118 : goal.returns-in-4865-to-5118
returns-in-4865-to-5118 c =
    let a = c.args in
    c.hear_as_backup.ensures
    ∙ ap (λ x. turn_of (heard_by_backup a.r x)) c.event_priority-theirs.ensures
    ∙ ap turn_of (backup_hears_other a.primary a.r a.event (omega arith) (omega arith) (omega arith))

pub returns-in-8448-to-8703 : goal.returns-in-8448-to-8703
returns-in-8448-to-8703 c =
    let a = c.args in
    c.stop-in-8448-to-8703.ensures ∙ ap turn_of (master_stops a.primary a.r a.event (omega arith) (omega arith) (omega arith))

pub returns-in-8704-to-8959 : goal.returns-in-8704-to-8959
returns-in-8704-to-8959 c =
    let a = c.args in
    c.advertise-in-8704-to-8959.ensures ∙ ap turn_of (master_fires a.primary a.r a.event (omega arith) (omega arith) (omega arith))

pub returns-in-8961-to-9214 : goal.returns-in-8961-to-9214
returns-in-8961-to-9214 c =
    let a = c.args in
    let p = c.event_priority-theirs.ensures in
    let n = c.event_number.ensures in
    let s = c.state_number.ensures in
    c.hear_as_master.ensures
    ∙ ap₂ (λ x y. turn_of (heard_by_master a.primary a.r x y)) p c.event_source-source.ensures
    ∙ ap turn_of (master_hears_other a.primary a.r a.event (omega arith) (omega arith) (omega arith))

pub returns-in_default : goal.returns-in_default
returns-in_default c =
    c.no_change.ensures
    ∙ ap turn_of
    (elim c.in_default.branch [
      | in_default-via-then-row-lt5120+else-row-lt255+then-row-lt4352 w ↦
          stays_unlisted c.args.primary c.args.r c.args.event (omega arith) (omega arith) (omega arith) (omega arith)
      | in_default-via-else-row-lt5120+then-row-lt8448 w ↦
          stays_unlisted c.args.primary c.args.r c.args.event (omega arith) (omega arith) (omega arith) (omega arith)
      | in_default-via-else-row-lt5120+else-row-lt8448+else-row-lt8704+else-row-lt8960+else-row-lt9216 w ↦
          stays_unlisted c.args.primary c.args.r c.args.event (omega arith) (omega arith) (omega arith) (omega arith)
    ])
