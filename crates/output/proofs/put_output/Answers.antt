-- `output::put_output` meets its contract: ARP frames stand behind the advertisement.
-- Assumes nothing.
use Rattle.std.proofs.Common.{◌+◌, length, sym, ap, ◌∙◌}
use Rattle.writing.specs.Frame.{frame_of}
use Rattle.writing.specs.Writing.{over}
use Rattle.states.specs.declared.step.Writes.{Writes}
use Rattle.output.specs.Output.{arps_of, bytes_of}
use Rattle.output.proofs.Parts.{part_behind}
use Rattle.output.proofs.Lengths.{frame_length}
use Rattle.output.proofs.put_output.Goals as goal

pub returns-in-Takeover : goal.returns-in-Takeover
returns-in-Takeover c =
    let a = c.args in
    let r = a.r in
    let list = a.list.bytes.now in
    let room = a.room.now in
    let frame = frame_of r.vrid r.priority r.interval a.primary list in
    part_behind frame (arps_of r.vrid list) room _ _ (50 + length list) c.put-in-Takeover.ensures
    (sym (frame_length r.vrid r.priority r.interval a.primary list))
    c.put_arps.ensures
    ∙ ap (λ (w : Writes). over (bytes_of w r a.primary list) room) (sym c.in-Takeover.is)
