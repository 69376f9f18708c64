-- How the code takes an event at a place, by what it changes of the router: nobody needs to believe it, the promises are in
-- Result.antt and Events.antt.
use Rattle.std.specs.Prelude.{ℕ, List, Bool, cond}
use Rattle.states.specs.declared.record.Router.{Router}
use Rattle.states.specs.declared.record.Turn.{Turn}
use Rattle.states.specs.declared.step.Outcome.{Outcome}
use Rattle.states.specs.Turn.{applied_to}
use Rattle.router.specs.Accept.{accepted_of}
use Rattle.places.specs.Place.{record_at}

-- a router that hears an event: one accepted packet more where that is a packet
abbrev pub heard_router : Bool → Router → Router
heard_router heard r = cond heard (accepted_of r) r

-- what the changes come to for the router at a place
abbrev pub turned_at : List ℕ → ℕ → Bool → Turn → Outcome
turned_at words place heard turn = applied_to (heard_router heard (record_at words place)) turn
