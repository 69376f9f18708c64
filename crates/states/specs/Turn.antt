-- How the code computes a step: what an event changes of a router, and the router with that changed. `step_of` is the promise.
use Rattle.std.specs.Prelude.{ℕ}
use Rattle.states.specs.declared.record.Router.{Router}
use Rattle.states.specs.declared.record.Turn.{Turn}
use Rattle.states.specs.declared.step.Writes.{Writes}
use Rattle.states.specs.declared.step.Writes.TheVariants.{Nothing, Advertisement, Farewell, Takeover}
use Rattle.states.specs.declared.step.Outcome.{Outcome}
use Rattle.states.specs.Step.{counted}

-- what an outcome may have changed of the router: its state and timer, and what it writes
abbrev pub turn_of : Outcome → Turn
turn_of o = record { state = o.router.state; timer = o.router.timer; writes = o.writes }

-- how often it became Master: a takeover counts
abbrev pub became_by : Writes → ℕ → ℕ
became_by Nothing became = became
became_by Advertisement became = became
became_by Farewell became = became
became_by Takeover became = counted became

-- the router with that changed, and what it writes
abbrev pub applied_to : Router → Turn → Outcome
applied_to r t =
    record {
      router =
          record {
            vrid = r.vrid;
            priority = r.priority;
            interval = r.interval;
            preempt = r.preempt;
            state = t.state;
            timer = t.timer;
            count = r.count;
            counts =
                record {
                  accepted = r.counts.accepted;
                  became = became_by t.writes r.counts.became;
                  owner = r.counts.owner;
                  authentication = r.counts.authentication;
                  list = r.counts.list;
                  interval = r.counts.interval;
                };
          };
      writes = t.writes;
    }
