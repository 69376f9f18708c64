-- Every case of the list, by computing both sides.
-- Assumes nothing.
use mathlib.Core.Path.{refl}
use Rattle.sums.specs.Sum.{plus, sum_of}
use Rattle.writing.specs.Frame.{message_checksum, message_of, header_checksum, header_of}
use Rattle.states.specs.Timers.{skew_of, master_down_of, advertisement_interval_of}
use Rattle.states.specs.Step.{step_of}
use Rattle.router.specs.Clock.{ticked_of}
use Rattle.worked.specs.Theorems.{CasesHold}

pub cases_hold : CasesHold
unfolding plus sum_of message_checksum message_of header_checksum header_of skew_of master_down_of advertisement_interval_of step_of ticked_of
cases_hold = (refl, (refl, (refl, (refl, (refl, (refl, (refl, (refl, (refl, (refl, (refl, (refl, (refl, (refl, tt))))))))))))))
