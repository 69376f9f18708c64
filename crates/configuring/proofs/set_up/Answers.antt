-- `configuring::set_up` meets its contract: refused, or at the lowest free place.
-- Assumes nothing.
use mathlib.Core.Path.{◌≡◌, sym, ◌∙◌}
use native.Mathlib.Omega.{arith}
use Rattle.std.specs.Prelude.{Some, None}
use Rattle.configuring.proofs.Configures.{configure_done, never_full}
use Rattle.configuring.proofs.set_up.Goals as goal

pub returns-in_err-place : goal.returns-in_err-place
returns-in_err-place c =
    let a = c.args in
    let s = a.settings in
    let none : c.find.result ≡ None = grind arith in
    absurd (never_full a.words.now s.vrid s.priority s.interval a.addresses.now
    (sym c.in_ok-list.ensures.refused) (sym c.find.ensures ∙ none))

pub returns : goal.returns
returns c =
    let a = c.args in
    let s = a.settings in
    let found : c.find.result ≡ Some c.in_ok-place.place = grind arith in
    let list = c.in_ok-list.ensures in
    configure_done a.words.now a.lists.now s.vrid s.priority s.interval s.preempt a.addresses.now c.in_ok-place.place _ _
    (sym list.refused) (sym c.find.ensures ∙ found)
    (c.fill.ensures.words ∙ rw (c.new_router-fresh.ensures, c.count.ensures, list.taken))
    (c.fill.ensures.lists ∙ rw list.taken)
