-- How the code computes the time of a station, all fires together: nobody needs to believe it, `passed` is what is promised.
use Rattle.std.specs.Prelude.{ℕ, ◌-◌, ◌%◌, Bool, cond, not, ◌&&◌, ◌||◌, ◌==◌, nat_le}
use Rattle.states.specs.declared.record.State.{State}
use Rattle.states.specs.declared.record.State.TheVariants.{Initialize, Backup, Master}
use Rattle.states.specs.declared.record.Counts.{Counts}
use Rattle.states.specs.declared.record.Router.{Router}
use Rattle.states.specs.Timers.{advertisement_interval_of}
use Rattle.states.specs.Step.{state_number, with_state, with_counts, became_master}

-- whether the timer fires within so many ticks; in Initialize none runs
unfoldable pub due_in : Router → ℕ → Bool
due_in r ticks = not (state_number r.state == 0) && nat_le r.timer ticks

-- the counts after a fire: a Backup became Master
abbrev pub counts_in : State → Counts → Counts
counts_in Initialize counts = counts
counts_in Backup counts = became_master counts
counts_in Master counts = counts

-- a router after its fires, of which the first left so many ticks: a Master with what remains of its last interval
unfoldable pub fired_of : Router → ℕ → Router
fired_of r left =
    with_state (with_counts r (counts_in r.state r.counts)) Master
    (advertisement_interval_of r.interval - left % advertisement_interval_of r.interval)

-- a router when so many ticks have passed: its timer has fallen, or fired as often as due; where none is there, nothing passes
unfoldable pub elapsed_of : Router → ℕ → Router
elapsed_of r ticks =
    cond (r.vrid == 0 || state_number r.state == 0) r
    (cond (nat_le r.timer ticks) (fired_of r (ticks - r.timer)) (with_state r r.state (r.timer - ticks)))
