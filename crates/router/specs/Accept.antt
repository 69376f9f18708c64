-- What a router says to a packet that passed refusals 1 to 9: refusals 10 to 13, and the counts (01, 'Refusal numbers', 'Counts').
use Rattle.std.specs.Prelude.{ℕ, Bool, cond, not, ◌&&◌, List, [], ◌∷◌, ◌==◌}
use Rattle.judging.specs.declared.Fields.{Fields}
use Rattle.wire.specs.Check.{Check, first_refusal}
use Rattle.states.specs.declared.record.Counts.{Counts}
use Rattle.states.specs.declared.record.Router.{Router}
use Rattle.states.specs.Step.{counted, with_counts}

-- "packet priority not 255, and its address list differs from ours"
abbrev pub list_differs : ℕ → Bool → Bool
list_differs priority same = not (priority == 255) && not same

-- "10 local priority is 255; 11 authentication type not 0; 12 packet priority not 255, and its address list differs from ours;
-- 13 interval differs from A"
abbrev pub router_checks : Router → Fields → Bool → List Check
router_checks r fields same =
    (10, (r.priority == 255))
    ∷ ((11, not (fields.authentication == 0))
    ∷ ((12, list_differs fields.priority same) ∷ ((13, not (fields.interval == r.interval)) ∷ [])))

-- the first of refusals 10 to 13, 0 where there is none
unfoldable pub router_refusal : Router → Fields → Bool → ℕ
router_refusal r fields same = first_refusal (router_checks r fields same)

-- one where two numbers are equal
abbrev pub counted_at : ℕ → ℕ → ℕ → ℕ
counted_at here number count = cond (number == here) (counted count) count

-- "Refusals .. 10 to 13 [add one] to that router's count"
abbrev pub refused_counts : Counts → ℕ → Counts
refused_counts c number =
    record {
      accepted = c.accepted;
      became = c.became;
      owner = counted_at 10 number c.owner;
      authentication = counted_at 11 number c.authentication;
      list = counted_at 12 number c.list;
      interval = counted_at 13 number c.interval;
    }

abbrev pub refused_of : Router → ℕ → Router
refused_of r number = with_counts r (refused_counts r.counts number)

-- "accepted packets (any state)"
abbrev pub accepted_counts : Counts → Counts
accepted_counts c =
    record {
      accepted = counted c.accepted;
      became = c.became;
      owner = c.owner;
      authentication = c.authentication;
      list = c.list;
      interval = c.interval;
    }

abbrev pub accepted_of : Router → Router
accepted_of r = with_counts r (accepted_counts r.counts)
