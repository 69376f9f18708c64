-- What a call does to the memory of a table: nothing, a count of the interface, another router at a place in use, a router
-- configured at the lowest free place, or a place freed. What no call changes follows by these five cases.
-- Assumes nothing.
use mathlib.Core.Path.{◌≡◌, refl, sym}
use mathlib.Core.List.{List}
use mathlib.Core.Bool.{Bool, true, false, cond}
use Prim.Native.Nat.{ℕ, ◌*◌, ◌/◌, ◌≤◌}
use native.Mathlib.Omega.{arith}
use lib.Dec.{eqb, ltb}
use lib.ListN.{length}
use borrow.Author.Tests.{eqb-true, eqb-false}
use Rattle.judging.specs.declared.Fields.{Fields}
use Rattle.judging.specs.Judging.{Judged, judged_of}
use Rattle.std.specs.Prelude.{Ok, Err, Some, None}
use Rattle.judging.proofs.Accepted.{refused_most, refused_least}
use Rattle.states.specs.declared.record.Router.{Router}
use Rattle.states.specs.declared.step.Event.{Event}
use Rattle.states.specs.declared.step.Event.TheVariants.{Startup, Shutdown}
use Rattle.states.specs.declared.step.Outcome.{Outcome}
use Rattle.states.proofs.Kept.{Unchanged, step_unchanged}
use Rattle.router.proofs.Kept.{ticked_unchanged}
use Rattle.output.specs.Output.{need_of}
use Rattle.places.specs.Place.{Found, primary_of, record_at, set_record, place_of, count_refusal, count_at_place}
use Rattle.events.specs.Lists.{set_list}
use Rattle.events.specs.Result.{Result, refuses, router_place, acted_of}
use Rattle.events.specs.Events.{happened_at, happened_of, clocked_at, clocked_of}
use Rattle.events.proofs.Sought.{sought_below}
use Rattle.configuring.specs.Configuring.{place_in, new_router, freed, configure_refusal, remove_refusal}
use Rattle.configuring.proofs.Configures.{never_full, never_unknown}
use Rattle.packets.specs.Packets.{refusal_at, accepted_at, sought_at, judged_at, heard_of}
use Rattle.packets.proofs.Heard.{refused_range}
use Rattle.histories.specs.Histories.{Call, configure, remove, startup, shutdown, clock, packet, Memory, called}
use Rattle.histories.proofs.Changed.{Changed, event_changed, count_changed}
use Rattle.histories.proofs.Histories.{accepted_unchanged}

-- what an event does to the words
pub data Moves (words : List ℕ) : List ℕ → Type 0 where
  same : Moves words words
  counts : (n : ℕ) → 1 ≤ n → n ≤ 9 → Moves words (count_refusal words n)
  changes : (v p : ℕ) (after : List ℕ) (r : Router) → router_place words v ≡ Some p → Changed p words after r → Moves words after

-- what a call does that is to remove a virtual router, or none
pub data Does (words lists : List ℕ) (gone : ℕ) : List ℕ → List ℕ → Type 0 where
  moves : (after : List ℕ) → Moves words after → Does words lists gone after lists
  configures : (v priority interval : ℕ) (preempt : Bool) (addresses : List ℕ) (p : ℕ)
      → configure_refusal words v priority interval addresses ≡ 0 → place_of words 0 ≡ Some p
      → Does words lists gone (set_record words p (new_router v priority interval preempt (length addresses / 4)))
      (set_list lists p addresses)
  frees : (p : ℕ) → remove_refusal words gone ≡ 0 → router_place words gone ≡ Some p
      → Does words lists gone (set_record words p freed) lists

module _ (words lists : List ℕ) (long : length words ≡ 4096) where
  either : (t : Bool) (a b : Result) → Moves words a.words → Moves words b.words → Moves words (cond t a b).words
  either true a b x y = x
  either false a b x y = y

  acted : (v p : ℕ) (o : Outcome) (leftover : ℕ) (room : List ℕ) → router_place words v ≡ Some p
      → Unchanged (record_at words p) o.router → Moves words (acted_of words lists p o leftover room).words
  unfolding acted_of
  acted v p o leftover room s same_as =
      either (ltb (length room) (need_of o.writes (4 * o.router.count))) _ _ same
      (changes v p _ o.router s (event_changed words p o.router (sought_below words v p s) long same_as))

  happened : (f : Found) (v : ℕ) (e : Event) (room : List ℕ) → router_place words v ≡ f
      → Moves words (happened_at f words lists e room).words
  happened None v e room s = same
  happened (Some p) v e room s = acted v p _ 0 room s (step_unchanged (primary_of words) (record_at words p) e)

  clocked : (f : Found) (v d : ℕ) (room : List ℕ) → router_place words v ≡ f
      → Moves words (clocked_at f words lists d room).words
  clocked None v d room s = same
  clocked (Some p) v d room s = acted v p _ _ room s (ticked_unchanged (primary_of words) (record_at words p) d)

  heard : (t : Bool) (p : ℕ) (bytes : List ℕ) (f : Fields) (room : List ℕ) → router_place words f.vrid ≡ Some p
      → eqb (refusal_at words lists p bytes f) 0 ≡ t
      → Moves words
      (cond t (acted_of words lists p (accepted_at words p f) 0 room)
      (refuses (refusal_at words lists p bytes f) (count_at_place words p (refusal_at words lists p bytes f)) room)).words
  heard true p bytes f room s e = acted f.vrid p _ 0 room s (accepted_unchanged words p f)
  heard false p bytes f room s e =
      let n = refusal_at words lists p bytes f in
      let range = refused_range words lists bytes p f n refl (eqb-false n 0 e) in
      changes f.vrid p _ _ s (count_changed words p n (sought_below words f.vrid p s) long range.0 range.1)

  sought : (f : Found) (bytes : List ℕ) (fields : Fields) (room : List ℕ) → router_place words fields.vrid ≡ f
      → Moves words (sought_at f words lists bytes fields room).words
  sought None bytes fields room s = counts 9 (omega arith) (omega arith)
  sought (Some p) bytes fields room s = heard (eqb (refusal_at words lists p bytes fields) 0) p bytes fields room s refl

  judged : (j : Judged) (bytes room : List ℕ) → judged_of bytes ≡ j → Moves words (judged_at j words lists bytes room).words
  judged (Err n) bytes room e =
      counts n (omega (arith, refused_least bytes n (sym e))) (omega (arith, refused_most bytes n (sym e)))
  judged (Ok fields) bytes room e = sought (router_place words fields.vrid) bytes fields room refl

module _ (words lists : List ℕ) (gone : ℕ) where
  configured : (t : Bool) (f : Found) (v priority interval : ℕ) (preempt : Bool) (addresses : List ℕ) → place_of words 0 ≡ f
      → eqb (configure_refusal words v priority interval addresses) 0 ≡ t
      → Does words lists gone
      (cond t (set_record words (place_in f) (new_router v priority interval preempt (length addresses / 4))) words)
      (cond t (set_list lists (place_in f) addresses) lists)
  configured false f v priority interval preempt addresses s e = moves words same
  configured true None v priority interval preempt addresses s e =
      absurd (never_full words v priority interval addresses (eqb-true _ 0 e) s)
  configured true (Some p) v priority interval preempt addresses s e =
      configures v priority interval preempt addresses p (eqb-true (configure_refusal words v priority interval addresses) 0 e) s

  removed : (t : Bool) (f : Found) → router_place words gone ≡ f → eqb (remove_refusal words gone) 0 ≡ t
      → Does words lists gone (cond t (set_record words (place_in f) freed) words) lists
  removed false f s e = moves words same
  removed true None s e = absurd (never_unknown words gone (eqb-true (remove_refusal words gone) 0 e) s)
  removed true (Some p) s e = frees p (eqb-true (remove_refusal words gone) 0 e) s

-- the virtual router that a call is to remove, 0 where it is to remove none
abbrev pub gone_by : Call → ℕ
gone_by (configure v priority interval preempt addresses) = 0
gone_by (remove v) = v
gone_by (startup v room) = 0
gone_by (shutdown v room) = 0
gone_by (clock v d room) = 0
gone_by (packet bytes room) = 0

-- neither configuring nor removing
abbrev pub IsEvent : Call → Type 0
IsEvent (configure v priority interval preempt addresses) = ⊥
IsEvent (remove v) = ⊥
IsEvent (startup v room) = Unit
IsEvent (shutdown v room) = Unit
IsEvent (clock v d room) = Unit
IsEvent (packet bytes room) = Unit

pub event_moves : (m : Memory) (call : Call) → IsEvent call → length m.words ≡ 4096 → Moves m.words (called m call).words
unfolding happened_of clocked_of heard_of
event_moves m (configure v priority interval preempt addresses) e long = absurd e
event_moves m (remove v) e long = absurd e
event_moves m (startup v room) e long = happened m.words m.lists long (router_place m.words v) v Startup room refl
event_moves m (shutdown v room) e long = happened m.words m.lists long (router_place m.words v) v Shutdown room refl
event_moves m (clock v d room) e long = clocked m.words m.lists long (router_place m.words v) v d room refl
event_moves m (packet bytes room) e long = judged m.words m.lists long (judged_of bytes) bytes room refl

pub call_does : (m : Memory) (call : Call) → length m.words ≡ 4096
    → Does m.words m.lists (gone_by call) (called m call).words (called m call).lists
call_does m (configure v priority interval preempt addresses) long =
    configured m.words m.lists 0 (eqb (configure_refusal m.words v priority interval addresses) 0)
    (place_of m.words 0) v priority interval preempt addresses refl refl
call_does m (remove v) long =
    removed m.words m.lists v (eqb (remove_refusal m.words v) 0) (router_place m.words v) refl refl
call_does m (startup v room) long = moves _ (event_moves m (startup v room) tt long)
call_does m (shutdown v room) long = moves _ (event_moves m (shutdown v room) tt long)
call_does m (clock v d room) long = moves _ (event_moves m (clock v d room) tt long)
call_does m (packet bytes room) long = moves _ (event_moves m (packet bytes room) tt long)
