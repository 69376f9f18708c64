-- The ends of an event's outcome at a place.
-- Assumes nothing.
use mathlib.Core.Path.{◌≡◌, refl, sym, ap, ◌∙◌}
use mathlib.Core.List.{List}
use mathlib.Core.Bool.{Bool, true, false}
use Prim.Native.Nat.{ℕ, ◌*◌, ◌≤◌, ◌<◌}
use native.Mathlib.Omega.{arith}
use lib.ListN.{length}
use borrow.Author.Tests.{lt-ltb, le-ltb}
use Rattle.states.specs.declared.record.Router.{Router}
use Rattle.states.specs.declared.record.Turn.{Turn}
use Rattle.states.specs.declared.step.Event.{Event}
use Rattle.states.specs.declared.step.Outcome.{Outcome}
use Rattle.states.specs.declared.step.Writes.{Writes}
use Rattle.states.specs.declared.step.Writes.TheVariants.{Nothing, Advertisement, Farewell, Takeover}
use Rattle.states.specs.Step.{step_of}
use Rattle.states.specs.Turn.{turn_of}
use Rattle.states.proofs.Turning.{applied_turn}
use Rattle.writing.specs.Writing.{over}
use Rattle.output.specs.Output.{bytes_of, need_of}
use Rattle.places.specs.Place.{primary_of, record_at, set_event}
use Rattle.wire.specs.declared.refusal.Refusal.TheVariants.{Room}
use Rattle.std.specs.Prelude.{Ok, Err}
use Rattle.events.specs.Lists.{list_at}
use Rattle.events.specs.Result.{Leaves, acted_of}
use Rattle.events.specs.Turned.{turned_at}

module _ (words lists : List ℕ) (place : ℕ) (outcome : Outcome) (leftover : ℕ) (room : List ℕ) (need : ℕ)
    (is_need : need ≡ need_of outcome.writes (4 * outcome.router.count)) where
  pub acted_short : length room < need → Leaves (acted_of words lists place outcome leftover room) (Err (Room need)) words room
  unfolding acted_of
  acted_short h =
      let t = lt-ltb (length room) need h in
      record {
        answer_is = rw (← is_need, t);
        words_are = rw (← is_need, t);
        room_is = rw (← is_need, t);
      }

  pub acted_done : (after room_after : List ℕ) → need ≤ length room → after ≡ set_event words place outcome.router
      → room_after
      ≡ over (bytes_of outcome.writes outcome.router (primary_of words) (list_at lists place outcome.router.count)) room
      → Leaves (acted_of words lists place outcome leftover room) (Ok (record { written = need; leftover = leftover })) after room_after
  unfolding acted_of
  acted_done after room_after h w o =
      let t = le-ltb (length room) need h in
      record {
        answer_is = rw (← is_need, t);
        words_are = rw (← is_need, t, w);
        room_is = rw (← is_need, t, o);
      }

-- what an event changes leaves the router configured as it was
pub turned_count : (heard : Bool) (words : List ℕ) (p : ℕ) (t : Turn)
    → (turned_at words p heard t).router.count ≡ (record_at words p).count
turned_count true words p t = refl
turned_count false words p t = refl

-- the room that an event needs, by the list of the router that was read
pub need_is : (words : List ℕ) (p : ℕ) (heard : Bool) (t : Turn) (own : Router) (long need : ℕ) → own ≡ record_at words p
    → long ≡ 4 * own.count → need ≡ need_of t.writes long → need ≡ need_of t.writes (4 * (turned_at words p heard t).router.count)
need_is words p heard t own long need e l n =
    let count : own.count ≡ (turned_at words p heard t).router.count
    = ap (λ (x : Router). x.count) e ∙ sym (turned_count heard words p t) in
    n ∙ ap (need_of t.writes) (l ∙ ap (λ (k : ℕ). 4 * k) count)

pub turned_bytes : (heard : Bool) (writes : Writes) (words : List ℕ) (p : ℕ) (t : Turn) (primary : ℕ) (list : List ℕ)
    → bytes_of writes (record_at words p) primary list ≡ bytes_of writes (turned_at words p heard t).router primary list
turned_bytes true Nothing words p t primary list = refl
turned_bytes true Advertisement words p t primary list = refl
turned_bytes true Farewell words p t primary list = refl
turned_bytes true Takeover words p t primary list = refl
turned_bytes false Nothing words p t primary list = refl
turned_bytes false Advertisement words p t primary list = refl
turned_bytes false Farewell words p t primary list = refl
turned_bytes false Takeover words p t primary list = refl

-- the room with the bytes of that list
pub output_is : (words lists : List ℕ) (p : ℕ) (heard : Bool) (t : Turn) (own : Router) (room list : List ℕ) (primary : ℕ)
    → own ≡ record_at words p → primary ≡ primary_of words → list ≡ list_at lists p own.count
    → over (bytes_of t.writes own primary list) room
    ≡ over (bytes_of t.writes (turned_at words p heard t).router (primary_of words)
    (list_at lists p (turned_at words p heard t).router.count)) room
output_is words lists p heard t own room list primary e f l =
    let count : own.count ≡ (turned_at words p heard t).router.count
    = ap (λ (x : Router). x.count) e ∙ sym (turned_count heard words p t) in
    ap (λ (b : List ℕ). over b room)
    (ap (λ (x : Router). bytes_of t.writes x primary list) e
    ∙ ap (λ (x : ℕ). bytes_of t.writes (record_at words p) x list) f
    ∙ ap (bytes_of t.writes (record_at words p) (primary_of words)) (l ∙ ap (list_at lists p) count)
    ∙ turned_bytes heard t.writes words p t (primary_of words) (list_at lists p (turned_at words p heard t).router.count))

-- an outcome that writes nothing is done in any room
pub acted_silent : (words lists : List ℕ) (p : ℕ) (o : Outcome) (leftover : ℕ) (room after : List ℕ) → o.writes ≡ Nothing
    → after ≡ set_event words p o.router → Leaves (acted_of words lists p o leftover room) (Ok (record { written = 0; leftover = leftover })) after room
unfolding acted_of
acted_silent words lists p o leftover room after s w =
    let t = le-ltb (length room) 0 (omega arith) in
    record { answer_is = rw (s, t); words_are = rw (s, t, w); room_is = rw (s, t) }

-- what the code does with an event is what the table of states has it do
pub turned_step : (words lists : List ℕ) (p : ℕ) (e : Event) (leftover : ℕ) (room : List ℕ) (t : Turn)
    → t ≡ turn_of (step_of (primary_of words) (record_at words p) e)
    → acted_of words lists p (turned_at words p false t) leftover room
    ≡ acted_of words lists p (step_of (primary_of words) (record_at words p) e) leftover room
turned_step words lists p e leftover room t h =
    ap (λ (x : Turn). acted_of words lists p (turned_at words p false x) leftover room) h
    ∙ ap (λ (o : Outcome). acted_of words lists p o leftover room) (applied_turn (primary_of words) (record_at words p) e)
