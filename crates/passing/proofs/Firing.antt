-- The fires of a station's timer, taken together: the functions of `passing` cite it.
--     passed-silent   what passes where the timer does not fire
--     passed-due      what passes where it does: all fires of the router, and its own advertisement
-- Assumes nothing.
use Rattle.std.proofs.Common.{◌≡◌, ℕ, zero, suc, ◌+◌, ◌-◌, ◌%◌, ◌<◌, ◌≤◌, Bool, true, false, cond, not, ◌&&◌, eqb, leb, List, ◌++◌, length, take, drop, sym, refl, ap, ◌∙◌, le_of_lt, mod-lt, mod-eq_of_lt, arith, take_all, take_at, drop_at, le-ltb, lt-ltb, eq-eqb, ne_eqb, eqb-true, leb-false, leb-true}
use mathlib.Core.Logic.{dite}
use native.Mathlib.Nat.{mod-eq-sub-mod, zero-mod}
use native.Mathlib.Decide.{dec_lt}
use borrow.Author.Tests.{eqb-false}
use Rattle.writing.specs.Writing.{over}
use Rattle.writing.specs.Frame.{frame_of}
use Rattle.states.specs.declared.record.State.{State}
use Rattle.states.specs.declared.record.State.TheVariants.{Initialize, Backup, Master}
use Rattle.states.specs.declared.record.Router.{Router}
use Rattle.states.specs.declared.step.Writes.{Writes}
use Rattle.states.specs.declared.step.Writes.TheVariants.{Nothing, Advertisement, Farewell, Takeover}
use Rattle.states.specs.declared.step.Event.TheVariants.{Timer}
use Rattle.states.specs.declared.step.Outcome.{Outcome}
use Rattle.router.specs.declared.clock.Ticked.{Ticked}
use Rattle.states.specs.Timers.{advertisement_interval_of}
use Rattle.states.specs.Step.{state_number, with_state, with_counts, step_in, step_of}
use Rattle.router.specs.Clock.{falls, fires, ticked_in, ticked_of}
use Rattle.output.specs.Output.{arps_of, bytes_of, need_of}
use Rattle.output.proofs.Lengths.{frame_length}
use Rattle.events.specs.Result.{done}
use Rattle.station.specs.declared.station.Station.{Station}
use Rattle.station.specs.Station.{list_of, with_router, with_frame}
use Rattle.station.specs.Acting.{written_by, needed_by, kept_by, acted_by}
use Rattle.steps.specs.Steps.{clocked_by}
use Rattle.passing.specs.Passing.{room_bytes, fresh_room, passed_in, passed}
use Rattle.passing.specs.Elapsed.{due_in, counts_in, fired_of, elapsed_of}
use Rattle.station.proofs.Arrays.{list_length}

pub rest_below : (n m : ℕ) → ¬ (m ≡ 0) → n % m ≤ m
rest_below n m some = le_of_lt (mod-lt n (omega arith))

-- the advertisement of a station
abbrev own_frame : Station → List ℕ
own_frame s = frame_of s.router.vrid s.router.priority s.router.interval s.primary (list_of s)

-- the station with another timer
abbrev with_timer : Station → ℕ → Station
with_timer s timer = with_router s (with_state s.router s.router.state timer)

-- a router that has just fired: a Master whose timer is full
abbrev full : Router → Router
full r = with_state (with_counts r (counts_in r.state r.counts)) Master (advertisement_interval_of r.interval)

-- a station that has just fired
abbrev after : Station → Station
after s = with_frame (with_router s (full s.router)) (own_frame s)

-- what is written over with the same bytes stays
over_again : (bytes before : List ℕ) → over bytes (over bytes before) ≡ over bytes before
over_again bytes before =
    ap (λ (l : List ℕ). bytes ++ l) (drop_at bytes (drop (length bytes) before) (length bytes) refl)

-- to fire again leaves the very station
after_again : (s : Station) → after (after s) ≡ after s
unfolding list_of
after_again s =
    ap (λ (l : List ℕ). record {
      primary = s.primary;
      router = full s.router;
      refusals = s.refusals;
      addresses = s.addresses;
      frame = l;
      sent = length (own_frame s);
    }) (over_again (own_frame s) s.frame)

-- an outcome that advertises, and so is kept
data Advertises : Writes → Type 0 where
  alone : Advertises Advertisement
  with_arps : Advertises Takeover

some_need : (w : Writes) (n : ℕ) → Advertises w → 50 + n ≤ need_of w n
some_need Advertisement n alone = omega arith
some_need Takeover n with_arps = omega arith
some_need Nothing n other = elim other [ ]
some_need Farewell n other = elim other [ ]

most_need : (w : Writes) (n : ℕ) → n ≤ 64 → need_of w n ≤ room_bytes
most_need Nothing n h = omega arith
most_need Advertisement n h = omega arith
most_need Farewell n h = omega arith
most_need Takeover n h = omega arith

room_length : length fresh_room ≡ room_bytes
unfolding fresh_room
room_length = refl

-- what is kept begins with the advertisement
first_bytes : (w : Writes) (r : Router) (primary : ℕ) (list : List ℕ) → Advertises w
    → take (50 + length list) (bytes_of w r primary list) ≡ frame_of r.vrid r.priority r.interval primary list
first_bytes Advertisement r primary list alone =
    let long = frame_length r.vrid r.priority r.interval primary list in
    take_all (50 + length list) (frame_of r.vrid r.priority r.interval primary list) (omega arith)
first_bytes Takeover r primary list with_arps =
    take_at (frame_of r.vrid r.priority r.interval primary list) (arps_of r.vrid list) (50 + length list)
    (frame_length r.vrid r.priority r.interval primary list)
first_bytes Nothing r primary list other = elim other [ ]
first_bytes Farewell r primary list other = elim other [ ]

-- the outcome of a timer that runs
module _ (primary : ℕ) (r : Router) where
  runs_out : (state : State) → ¬ (state_number state ≡ 0)
      → Advertises (step_in state Timer primary r).writes
      × ((step_in state Timer primary r).router
      ≡ with_state (with_counts r (counts_in state r.counts)) Master (advertisement_interval_of r.interval))
  runs_out Initialize n = absurd (n refl)
  runs_out Backup n = (with_arps, refl)
  runs_out Master n = (alone, refl)

  ticks_short : (state : State) (d : ℕ) → ¬ (state_number state ≡ 0) → d < r.timer
      → ticked_in state primary r d ≡ falls r d
  ticks_short Initialize d n h = absurd (n refl)
  ticks_short Backup d n h = rw (lt-ltb d r.timer h)
  ticks_short Master d n h = rw (lt-ltb d r.timer h)

  ticks_out : (state : State) (d : ℕ) → ¬ (state_number state ≡ 0) → r.timer ≤ d
      → ticked_in state primary r d ≡ fires primary r d
  ticks_out Initialize d n h = absurd (n refl)
  ticks_out Backup d n h = rw (le-ltb d r.timer h)
  ticks_out Master d n h = rw (le-ltb d r.timer h)

  ticks_none : (state : State) (d : ℕ) → state_number state ≡ 0
      → ticked_in state primary r d ≡ ticked_in Initialize primary r d
  ticks_none Initialize d e = refl
  ticks_none Backup d e = absurd (omega arith)
  ticks_none Master d e = absurd (omega arith)

-- whether a station's timer fires within so many ticks: it may have no router
abbrev pub fires_in : Router → ℕ → Bool
fires_in r ticks = not (eqb r.vrid 0) && due_in r ticks

-- nothing passes where there is no router
none_passed : (s : Station) (times d : ℕ) → s.router.vrid ≡ 0 → passed_in (suc times) s d ≡ s
unfolding passed_in clocked_by
none_passed s times d z = rw (eq-eqb s.router.vrid 0 z)

module _ (s : Station) (long : length s.addresses ≡ 64) (named : ¬ (s.router.vrid ≡ 0)) where
  abbrev state : ℕ
  state = state_number s.router.state

  abbrev ticked : ℕ → Ticked
  ticked d = ticked_of s.primary s.router d

  -- no outcome is refused for room
  acted_whole : (o : Outcome) (leftover : ℕ) → acted_by s o leftover fresh_room
      ≡ record {
        answer = done (needed_by s o) leftover;
        station = kept_by s o;
        room = over (written_by s o) fresh_room;
      }
  unfolding acted_by
  acted_whole o leftover =
      let few : s.router.count % 17 < 17 = mod-lt s.router.count (omega arith) in
      let most = most_need o.writes (length (list_of s)) (omega (arith, list_length s long)) in
      rw (le-ltb (length fresh_room) (needed_by s o) (omega (arith, room_length)))

  -- so what passes goes by the router's clock alone
  by_clock : (times d : ℕ) (t : Ticked) → ticked d ≡ t
      → passed_in (suc times) s d
      ≡ cond (eqb t.leftover 0) (kept_by s t.outcome) (passed_in times (kept_by s t.outcome) t.leftover)
  unfolding passed_in clocked_by
  by_clock times d t e = rw (e, ne_eqb s.router.vrid 0 named, acted_whole t.outcome t.leftover)

  stays_passed : (times d : ℕ) → state ≡ 0 → passed_in (suc times) s d ≡ s
  unfolding ticked_of
  stays_passed times d z = by_clock times d _ (ticks_none s.primary s.router s.router.state d z)

  falls_passed : (times d : ℕ) → ¬ (state ≡ 0) → d < s.router.timer
      → passed_in (suc times) s d ≡ with_timer s (s.router.timer - d)
  unfolding ticked_of
  falls_passed times d n h = by_clock times d _ (ticks_short s.primary s.router s.router.state d n h)

  fire_kept : ¬ (state ≡ 0) → kept_by s (step_of s.primary s.router Timer) ≡ after s
  unfolding step_of
  fire_kept n =
      let o = step_of s.primary s.router Timer in
      let out = runs_out s.primary s.router s.router.state n in
      let least = some_need o.writes (length (list_of s)) out.0 in
      let some : ¬ (needed_by s o ≡ 0) = λ z. omega arith in
      rw (
        ne_eqb (needed_by s o) 0 some,
        first_bytes o.writes o.router s.primary (list_of s) out.0,
        out.1,
      )

  fires_passed : (times d : ℕ) → ¬ (state ≡ 0) → s.router.timer ≤ d
      → passed_in (suc times) s d
      ≡ cond (eqb (d - s.router.timer) 0) (after s) (passed_in times (after s) (d - s.router.timer))
  unfolding ticked_of
  fires_passed times d n h =
      by_clock times d _ (ticks_out s.primary s.router s.router.state d n h) ∙ rw (fire_kept n)

-- the fires after the first
either_is : {a b : Station} (t : Bool) → b ≡ a → cond t a b ≡ a
either_is true e = refl
either_is false e = e

module _ (s : Station) (long : length s.addresses ≡ 64) (named : ¬ (s.router.vrid ≡ 0)) where
  abbrev interval : ℕ
  interval = advertisement_interval_of s.router.interval

  is_running : ¬ (state_number Master ≡ 0)
  is_running e = omega arith

  more_fires : (times d : ℕ) → interval ≤ d
      → passed_in (suc times) (after s) d
      ≡ cond (eqb (d - interval) 0) (after s) (passed_in times (after s) (d - interval))
  more_fires times d h = fires_passed (after s) long named times d is_running h ∙ rw (after_again s)

  -- a timer of 0, which no configured station has, fires for ever and changes nothing
  stuck_passed : (times d : ℕ) → interval ≡ 0 → passed_in times (after s) d ≡ after s
  unfolding passed_in
  stuck_passed zero d z = refl
  stuck_passed (suc times) d z =
      more_fires times d (omega arith) ∙ either_is (eqb (d - interval) 0) (stuck_passed times (d - interval) z)

  -- the last fire leaves nothing over, or there are more
  last_or_more : (t : Bool) (left : ℕ) (more : Station) → eqb left 0 ≡ t
      → more ≡ with_timer (after s) (interval - left % interval)
      → cond t (after s) more ≡ with_timer (after s) (interval - left % interval)
  last_or_more true left more e h =
      let none : left % interval ≡ 0 = ap (λ (n : ℕ). n % interval) (eqb-true left 0 e) ∙ zero-mod interval in
      let whole : interval ≡ interval - left % interval = omega arith in
      ap (with_timer (after s)) whole
  last_or_more false left more e h = h

  steady_passed : (times d : ℕ) → 0 < interval → d < times
      → passed_in times (after s) d ≡ with_timer (after s) (interval - d % interval)
  steady_passed zero d some enough = elim enough [ ]
  steady_passed (suc times) d some enough =
      dite (dec_lt d interval)
      (λ h. falls_passed (after s) long named times d is_running h ∙ rw (mod-eq_of_lt h))
      (λ h.
      let most : interval ≤ d = omega arith in
      let left = d - interval in
      more_fires times d most
      ∙ last_or_more (eqb left 0) left (passed_in times (after s) left) refl
      (steady_passed times left some (omega arith))
      ∙ rw (mod-eq-sub-mod most))

  after_passed : (times d : ℕ) → d < times
      → passed_in times (after s) d ≡ with_timer (after s) (interval - d % interval)
  after_passed times d enough =
      dite (dec_lt 0 interval)
      (λ some. steady_passed times d some enough)
      (λ n.
      let none : interval ≡ interval - d % interval = omega arith in
      stuck_passed times d (omega arith) ∙ ap (with_timer (after s)) none)

module _ (s : Station) (long : length s.addresses ≡ 64) (ticks : ℕ) where
  abbrev timer : ℕ
  timer = s.router.timer

  abbrev nameless : Bool
  nameless = eqb s.router.vrid 0

  abbrev stopped : Bool
  stopped = eqb (state_number s.router.state) 0

  abbrev elapsed : Station
  elapsed = with_router s (elapsed_of s.router ticks)

  by_tests : (n t u : Bool) → nameless ≡ n → stopped ≡ t → leb timer ticks ≡ u
      → cond (fires_in s.router ticks) (with_frame elapsed (own_frame s)) elapsed ≡ passed s ticks
  unfolding due_in elapsed_of fired_of passed
  by_tests true t u d e f = rw d (sym (none_passed s (suc ticks) ticks (eqb-true _ 0 d)))
  by_tests false true u d e f =
      rw (d, e) (sym (stays_passed s long (eqb-false _ 0 d) (suc ticks) ticks (eqb-true _ 0 e)))
  by_tests false false false d e f =
      let named = eqb-false _ 0 d in
      rw (d, e, f) (sym (falls_passed s long named (suc ticks) ticks (eqb-false _ 0 e) (leb-false timer ticks f)))
  by_tests false false true d e f =
      let named = eqb-false _ 0 d in
      let left = ticks - timer in
      let first = fires_passed s long named (suc ticks) ticks (eqb-false _ 0 e) (leb-true timer ticks f) in
      let more = after_passed s long named (suc ticks) left (omega arith) in
      let all = last_or_more s long named (eqb left 0) left (passed_in (suc ticks) (after s) left) refl more in
      rw (d, e, f) (sym (first ∙ all))

  is_passed : cond (fires_in s.router ticks) (with_frame elapsed (own_frame s)) elapsed ≡ passed s ticks
  is_passed = by_tests nameless stopped (leb timer ticks) refl refl refl

  -- the code's values: the router, the frame and how long it is
  module _ (router : Router) (frame : List ℕ) (sent : ℕ) (is_router : router ≡ elapsed_of s.router ticks) where
    abbrev made : Station
    made =
        record {
          primary = s.primary;
          router = router;
          refusals = s.refusals;
          addresses = s.addresses;
          frame = frame;
          sent = sent;
        }

    pub passed_silent : fires_in s.router ticks ≡ false → frame ≡ s.frame → sent ≡ s.sent → made ≡ passed s ticks
    passed_silent due same_frame same_sent = rw (is_router, same_frame, same_sent, ← is_passed, due)

    pub passed_due : fires_in s.router ticks ≡ true → frame ≡ over (own_frame s) s.frame
        → sent ≡ 50 + length (list_of s) → made ≡ passed s ticks
    passed_due due wrote is_sent =
        let own = s.router in
        let is_length : sent ≡ length (own_frame s) =
        is_sent ∙ sym (frame_length own.vrid own.priority own.interval s.primary (list_of s)) in
        rw (is_router, wrote, is_length, ← is_passed, due)
