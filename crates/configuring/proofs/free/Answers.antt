-- `configuring::free` meets its contract: 20, 21, or the place is freed.
-- Assumes nothing.
use mathlib.Core.Path.{◌≡◌, refl, sym, ap, ◌∙◌}
use mathlib.Core.Bool.{true, false, not}
use denote.Enum.Bare.{sameb}
use native.Mathlib.Omega.{arith}
use Rattle.std.specs.Prelude.{Some, None}
use Rattle.std.proofs.lemmas.Result.{err_from_is_err_and}
use Rattle.wire.specs.declared.refusal.Refusal.TheVariants.{NoRouter}
use Rattle.states.specs.declared.record.State.{State}
use Rattle.states.specs.declared.record.State.TheVariants.{Initialize, Backup, Master}
use Rattle.states.specs.declared.record.Router.{Router}
use Rattle.states.specs.contracts.record.State.{the_type}
use Rattle.states.specs.Step.{state_number}
use Rattle.configuring.proofs.Configures.{remove_unknown, remove_busy, remove_done}
use Rattle.configuring.proofs.free.Goals as goal

-- `!=` of the state and Initialize, by its number
busy : (s : State) → true ≡ not (sameb the_type s Initialize) → state_number s ≡ 0 → ⊥
busy Initialize e z = cc
busy Backup e z = omega arith
busy Master e z = omega arith

idle : (s : State) → false ≡ not (sameb the_type s Initialize) → state_number s ≡ 0
idle Initialize e = refl
idle Backup e = absurd cc
idle Master e = absurd cc

pub returns-in_err-place : goal.returns-in_err-place
returns-in_err-place c =
    let a = c.args in
    let none : c.seek.result ≡ None = grind arith in
    let p = err_from_is_err_and c.from_residual.result c.from_residual.ensures.1 in
    let why : c.in_err-place.field-0.0 ≡ NoRouter = grind arith in
    rw (p.1, p.2, why) (remove_unknown a.words.now a.vrid (sym c.seek.ensures ∙ none))

pub returns-then-ne : goal.returns-then-ne
returns-then-ne c =
    let a = c.args in
    let found : c.seek.result ≡ Some c.in_ok-place.place = grind arith in
    remove_busy a.words.now a.vrid c.in_ok-place.place (sym c.seek.ensures ∙ found)
    (λ z. busy c.load.result.state c.if-ne.ensures (ap (λ (r : Router). state_number r.state) c.load.ensures.record ∙ z))

pub returns : goal.returns
returns c =
    let a = c.args in
    let found : c.seek.result ≡ Some c.in_ok-place.place = grind arith in
    remove_done a.words.now a.vrid c.in_ok-place.place _ (sym c.seek.ensures ∙ found)
    (ap (λ (r : Router). state_number r.state) (sym c.load.ensures.record) ∙ idle c.load.result.state c.if-ne.ensures)
    (c.store.ensures ∙ rw c.new_router.ensures)
