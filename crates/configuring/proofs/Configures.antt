-- The ends of configuring and removing.
-- Assumes nothing.
use mathlib.Core.Path.{◌≡◌, sym, ap, ◌∙◌}
use mathlib.Core.List.{List, [], ◌∷◌}
use mathlib.Core.Bool.{Bool, not, ◌||◌}
use Prim.Native.Nat.{ℕ, ◌/◌, ◌%◌, ◌≤◌}
use native.Mathlib.Omega.{arith}
use lib.Dec.{eqb, ltb}
use lib.ListN.{length}
use borrow.Author.Tests.{eq-eqb, ne_eqb, not-false, ltb-false}
use Rattle.writing.specs.Writing.{address_bytes_wrong}
use Rattle.wire.specs.declared.refusal.Refusal.{Refusal}
use Rattle.wire.specs.Check.{Check}
use Rattle.wire.specs.Refusal.{refusal_number}
use Rattle.wire.proofs.Checks.{First, first, passed, refusal_after, refusal_before}
use Rattle.wire.proofs.Refusals.{nonzero}
use Rattle.wire.proofs.Tested.{two_passed}
use Rattle.states.specs.Step.{state_number}
use Rattle.std.specs.Prelude.{Some, None}
use Rattle.places.specs.Place.{record_at, set_record, place_of}
use Rattle.events.specs.Lists.{set_list}
use Rattle.events.specs.Result.{router_place}
use Rattle.configuring.specs.Configuring.{is_found, new_router, freed, settings_checks, settings_refusal, configure_checks}
use Rattle.configuring.specs.Configuring.{configure_refusal, Configured, remove_checks, remove_refusal, Removed}

module _ (words lists : List ℕ) (v priority interval : ℕ) (preempt : Bool) (addresses : List ℕ) where
  pub configure_done : (p : ℕ) (after lists_after : List ℕ) → configure_refusal words v priority interval addresses ≡ 0
      → place_of words 0 ≡ Some p → after ≡ set_record words p (new_router v priority interval preempt (length addresses / 4))
      → lists_after ≡ set_list lists p addresses → Configured words lists v priority interval preempt addresses 0 after lists_after
  configure_done p after lists_after e f w l =
      record { answer_is = sym e; words_are = rw (e, f, w); lists_are = rw (e, f, l) }

module _ (words : List ℕ) (v priority interval : ℕ) (addresses : List ℕ) where
  -- what no table decides goes before what the table does
  abbrev pub table_checks : List Check
  table_checks = (18, is_found (place_of words v)) ∷ ((19, not (is_found (place_of words 0))) ∷ [])

  pub settings_refused : (reason : Refusal) → refusal_number reason ≡ settings_refusal v priority interval addresses
      → refusal_number reason ≡ configure_refusal words v priority interval addresses
  unfolding configure_refusal settings_refusal
  settings_refused reason e =
      e ∙ sym (refusal_before (settings_checks v priority interval addresses) table_checks (λ z. nonzero reason (e ∙ z)))

  pub table_refused : (r : ℕ) → 0 ≡ settings_refusal v priority interval addresses → First r table_checks
      → r ≡ configure_refusal words v priority interval addresses
  unfolding configure_refusal settings_refusal
  table_refused r e f =
      first r table_checks f
      ∙ sym (refusal_after (settings_checks v priority interval addresses) table_checks (omega arith) (sym e))

  -- where nothing is refused, there is a free place
  pub never_full : configure_refusal words v priority interval addresses ≡ 0 → place_of words 0 ≡ None → ⊥
  unfolding configure_refusal
  never_full e f =
      let p = passed (configure_checks words v priority interval addresses) (omega arith) e in
      let t = not-false (is_found (place_of words 0)) p.1.1.1.1.1.0 in
      let s = sym (ap is_found f) ∙ t in
      cc

  pub configure_most : configure_refusal words v priority interval addresses ≡ 0 → length addresses ≤ 64
  unfolding configure_refusal address_bytes_wrong
  configure_most e =
      let p = passed (configure_checks words v priority interval addresses) (omega arith) e in
      let n = length addresses in
      ltb-false 64 n (two_passed (not (eqb (n % 4) 0) || eqb n 0) (ltb 64 n) p.1.1.1.0).1

module _ (words : List ℕ) (v : ℕ) where
  pub remove_unknown : router_place words v ≡ None → Removed words v 20 words
  unfolding remove_refusal
  remove_unknown e = record { answer_is = rw e; words_are = rw e }

  pub remove_busy : (p : ℕ) → router_place words v ≡ Some p → ¬ (state_number (record_at words p).state ≡ 0) → Removed words v 21 words
  unfolding remove_refusal
  remove_busy p e n =
      let t = ne_eqb (state_number (record_at words p).state) 0 n in
      record { answer_is = rw (e, t); words_are = rw (e, t) }

  pub remove_done : (p : ℕ) (after : List ℕ) → router_place words v ≡ Some p → state_number (record_at words p).state ≡ 0
      → after ≡ set_record words p freed → Removed words v 0 after
  unfolding remove_refusal
  remove_done p after e n w =
      let t = eq-eqb (state_number (record_at words p).state) 0 n in
      record { answer_is = rw (e, t); words_are = rw (e, t, w) }

  -- where nothing is refused, the router is in the table
  pub never_unknown : remove_refusal words v ≡ 0 → router_place words v ≡ None → ⊥
  unfolding remove_refusal
  never_unknown e f =
      let p = passed (remove_checks words v) (omega arith) e in
      let t = not-false (is_found (router_place words v)) p.0 in
      let s = sym (ap is_found f) ∙ t in
      cc
