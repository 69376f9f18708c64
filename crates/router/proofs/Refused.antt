-- The numbers by which a router refuses a packet.
-- Assumes nothing.
use Rattle.std.proofs.Common.{◌≤◌, Bool, true, false, cond, not, eqb, arith}
use Rattle.judging.specs.declared.Fields.{Fields}
use Rattle.states.specs.declared.record.Router.{Router}
use Rattle.router.specs.Accept.{list_differs, router_refusal}

most_test : (a b c d : Bool) → cond a 10 (cond b 11 (cond c 12 (cond d 13 0))) ≤ 13
most_test true b c d = omega arith
most_test false true c d = omega arith
most_test false false true d = omega arith
most_test false false false true = omega arith
most_test false false false false = omega arith

pub refusal_most : (r : Router) (f : Fields) (same : Bool) → router_refusal r f same ≤ 13
unfolding router_refusal
refusal_most r f same =
    most_test (eqb r.priority 255) (not (eqb f.authentication 0)) (list_differs f.priority same) (not (eqb f.interval r.interval))
