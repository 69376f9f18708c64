-- `configuring::configure_refusal` meets its contract: each check in turn.
-- Assumes nothing.
use Rattle.std.proofs.lemmas.Result.{err_from_is_err_and}
use mathlib.Core.Path.{refl, sym, ap, ◌∙◌}
use mathlib.Core.Bool.{not}
use Rattle.configuring.proofs.Configures.{settings_refused, table_refused}
use Rattle.configuring.proofs.configure_refusal.Goals as goal

pub returns-in_err-list-clause-refused : goal.returns-in_err-list-clause-refused
returns-in_err-list-clause-refused c =
    let a = c.args in
    let s = a.settings in
    let p = err_from_is_err_and c.from_residual.result c.from_residual.ensures.1 in
    rw (p.1, p.2)
    (settings_refused a.words.now s.vrid s.priority s.interval a.addresses.now _ c.in_err-list.ensures.refused)

pub returns-then-is_taken-clause-refused : goal.returns-then-is_taken-clause-refused
returns-then-is_taken-clause-refused c =
    let a = c.args in
    let s = a.settings in
    table_refused a.words.now s.vrid s.priority s.interval a.addresses.now 18 c.in_ok-list.ensures.refused
    (sym c.is_taken.ensures ∙ c.if-is_taken.true)

pub returns-then-not-is_taken-clause-refused : goal.returns-then-not-is_taken-clause-refused
returns-then-not-is_taken-clause-refused c =
    let a = c.args in
    let s = a.settings in
    table_refused a.words.now s.vrid s.priority s.interval a.addresses.now 19 c.in_ok-list.ensures.refused
    (sym c.is_taken.ensures ∙ c.if-is_taken.false, ap not (sym c.is_taken-2.ensures ∙ c.if-not-is_taken.true))

pub returns-clause-refused : goal.returns-clause-refused
returns-clause-refused c =
    let a = c.args in
    let s = a.settings in
    table_refused a.words.now s.vrid s.priority s.interval a.addresses.now 0 c.in_ok-list.ensures.refused
    (sym c.is_taken.ensures ∙ c.if-is_taken.false, (ap not (sym c.is_taken-2.ensures ∙ c.if-not-is_taken.false), refl))
