-- What a call that is done changes of the table, in any memory.
-- Assumes nothing.
use mathlib.Core.Path.{◌≡◌, refl, sym, ap, ◌∙◌}
use mathlib.Core.Logic.{◌⊎◌, inl, inr}
use mathlib.Core.List.{List, [], ◌∷◌}
use mathlib.Core.Bool.{Bool, true, false, cond, not, ◌||◌}
use Prim.Native.Nat.{ℕ, ◌+◌, ◌-◌, ◌*◌, ◌<◌}
use native.Mathlib.Omega.{arith}
use lib.Dec.{eqb, leb, ltb}
use lib.ListN.{length, get_or, set}
use lib.Seq.{get_or-set_other, set-get_or}
use borrow.Author.Tests.{eq-eqb}
use Rattle.judging.specs.declared.Fields.{Fields}
use Rattle.judging.specs.Judging.{fields_of}
use Rattle.states.specs.declared.record.State.{State}
use Rattle.states.specs.declared.record.State.TheVariants.{Initialize, Backup, Master}
use Rattle.states.specs.declared.record.Counts.{Counts}
use Rattle.states.specs.declared.record.Router.{Router}
use Rattle.states.specs.declared.step.Event.{Event}
use Rattle.states.specs.declared.step.Event.TheVariants.{Packet}
use Rattle.states.specs.declared.step.Outcome.{Outcome}
use Rattle.states.specs.Step.{state_number, counted, became_master, stays, waits, hurries, advertises, beats}
use Rattle.states.specs.Step.{heard_by_backup, heard_by_master, step_in, step_of}
use Rattle.router.specs.Accept.{accepted_of}
use Rattle.router.specs.Clock.{ticked_of}
use Rattle.output.specs.Output.{need_of}
use Rattle.places.specs.Place.{Found, base_of, primary_of, record_at, state_word, set_event}
use Rattle.std.specs.Prelude.{Some, None}
use Rattle.places.specs.Layout.{state_of, decode_of}
use Rattle.places.proofs.Beside.{part_word}
use Rattle.places.proofs.Events.{event_beside, event_record, timer_is, timer_event}
use Rattle.events.specs.Result.{Result, router_place, acted_of}
use Rattle.events.specs.Events.{happened_at, happened_of, clocked_at, clocked_of}
use Rattle.events.proofs.Sought.{clocked}
use Rattle.events.proofs.Ticking.{clocked_falls}
use Rattle.configuring.specs.Configuring.{place_in}
use Rattle.packets.specs.Packets.{accepted_at}
use Rattle.histories.specs.Rows.{packet_outcome}
use Rattle.histories.specs.Kept.{OnlyThese, words_at, OneCount, packet_place}
use Rattle.histories.specs.Theorems.{EventChanges, ClockChanges, TimerFalls, PacketChanges, PacketCounts}
use Rattle.histories.specs.Counts.{becomes}
use Rattle.histories.proofs.Became.{Bumped, step_bumped, ticked_bumped}
use Rattle.histories.proofs.Histories.{accepted_unchanged}
use Rattle.histories.proofs.Kept.{Heard, refused, taken, ends_done, heard_ends, taken_ends}

-- a word is as it was where another is stored, or it is stored as it stood
abbrev Stays : List ℕ → ℕ → ℕ → ℕ → Type 0
Stays words at v i = ¬ (i ≡ at) ⊎ (v ≡ get_or words at 0)

set_stays : (words after : List ℕ) (at v i : ℕ) → get_or after at 0 ≡ get_or words at 0 → get_or after i 0 ≡ get_or words i 0
    → Stays words at v i → get_or (set after at v) i 0 ≡ get_or words i 0
set_stays words after at v i e f (inl n) = get_or-set_other after at i v 0 n ∙ f
set_stays words after at v i e f (inr z) =
    ap (λ (x : ℕ). get_or (set after at x) i 0) (z ∙ sym e) ∙ ap (λ (l : List ℕ). get_or l i 0) (set-get_or after at 0) ∙ f

-- an event stores four words of a place
module _ (words : List ℕ) (p : ℕ) (r : Router) where
  abbrev one : List ℕ
  one = set words (base_of p + 4) (state_word (get_or words (base_of p + 4) 0) r.state)

  abbrev two : List ℕ
  two = set one (base_of p + 5) r.timer

  abbrev three : List ℕ
  three = set two (base_of p + 7) r.counts.accepted

  one_at : (k : ℕ) → 4 < k → get_or one (base_of p + k) 0 ≡ get_or words (base_of p + k) 0
  one_at k h = get_or-set_other words (base_of p + 4) (base_of p + k) _ 0 (λ z. omega arith)

  two_at : (k : ℕ) → 5 < k → get_or two (base_of p + k) 0 ≡ get_or words (base_of p + k) 0
  two_at k h = get_or-set_other one (base_of p + 5) (base_of p + k) _ 0 (λ z. omega arith) ∙ one_at k (omega arith)

  three_at : (k : ℕ) → 7 < k → get_or three (base_of p + k) 0 ≡ get_or words (base_of p + k) 0
  three_at k h = get_or-set_other two (base_of p + 7) (base_of p + k) _ 0 (λ z. omega arith) ∙ two_at k (omega arith)

  event_stays : (i : ℕ) → Stays words (base_of p + 4) (state_word (get_or words (base_of p + 4) 0) r.state) i
      → Stays words (base_of p + 5) r.timer i → Stays words (base_of p + 7) r.counts.accepted i
      → Stays words (base_of p + 8) r.counts.became i → get_or (set_event words p r) i 0 ≡ get_or words i 0
  unfolding set_event
  event_stays i a b c d =
      let x = set_stays words words (base_of p + 4) _ i refl refl a in
      let y = set_stays words one (base_of p + 5) _ i (one_at 5 (omega arith)) x b in
      let z = set_stays words two (base_of p + 7) _ i (two_at 7 (omega arith)) y c in
      set_stays words three (base_of p + 8) _ i (three_at 8 (omega arith)) z d

-- the words that the counts accepted and became, and the state, are read from
accepted_word : (words : List ℕ) (p : ℕ) → (record_at words p).counts.accepted ≡ get_or words (base_of p + 7) 0
unfolding record_at decode_of
accepted_word words p = part_word words p 7 (omega arith)

became_word : (words : List ℕ) (p : ℕ) → (record_at words p).counts.became ≡ get_or words (base_of p + 8) 0
unfolding record_at decode_of
became_word words p = part_word words p 8 (omega arith)

state_word_lem : (words : List ℕ) (p : ℕ) (s : State) → s ≡ (record_at words p).state
    → state_word (get_or words (base_of p + 4) 0) s ≡ get_or words (base_of p + 4) 0
unfolding record_at decode_of
state_word_lem words p s e =
    let z : s ≡ state_of (get_or words (base_of p + 4) 0) = e ∙ ap state_of (part_word words p 4 (omega arith)) in
    rw (z, eq-eqb _ _ refl)

-- an event that is no accepted packet
event_only : (words : List ℕ) (p : ℕ) (r : Router) → r.counts.accepted ≡ (record_at words p).counts.accepted
    → OnlyThese words (set_event words p r) (words_at p (4 ∷ (5 ∷ (8 ∷ []))))
event_only words p r e =
    record {
      long = (event_beside words p r).long;
      others =
          λ i n.
          event_stays words p r i (inl (λ z. n (inl z))) (inl (λ z. n (inr (inl z)))) (inr (e ∙ accepted_word words p))
          (inl (λ z. n (inr (inr (inl z)))));
    }

acted_only : (t : Bool) (words these : List ℕ) (a b : Result) → OnlyThese words a.words these
    → OnlyThese words b.words these → OnlyThese words (cond t a b).words these
acted_only true words these a b x y = x
acted_only false words these a b x y = y

same_only : (words these : List ℕ) → OnlyThese words words these
same_only words these = record { long = refl; others = λ i n. refl }

acted_changes : (words lists : List ℕ) (p : ℕ) (o : Outcome) (leftover : ℕ) (room : List ℕ)
    → o.router.counts.accepted ≡ (record_at words p).counts.accepted
    → OnlyThese words (acted_of words lists p o leftover room).words (words_at p (4 ∷ (5 ∷ (8 ∷ []))))
unfolding acted_of
acted_changes words lists p o leftover room e =
    acted_only (ltb (length room) (need_of o.writes (4 * o.router.count))) words _ _ _ (same_only words _)
    (event_only words p o.router e)

-- an event accepts no packet
bump_accepted : (t : Bool) (c : Counts) → (cond t (became_master c) c).accepted ≡ c.accepted
bump_accepted true c = refl
bump_accepted false c = refl

bumped_accepted : (r after : Router) → Bumped r r.state after → after.counts.accepted ≡ r.counts.accepted
bumped_accepted r after e =
    ap (λ (c : Counts). c.accepted) e ∙ bump_accepted (becomes r.state after.state) r.counts

happened_changes : (f : Found) (words lists : List ℕ) (e : Event) (room : List ℕ)
    → OnlyThese words (happened_at f words lists e room).words (words_at (place_in f) (4 ∷ (5 ∷ (8 ∷ []))))
happened_changes None words lists e room = same_only words _
happened_changes (Some p) words lists e room =
    let r = record_at words p in
    let o = step_of (primary_of words) r e in
    acted_changes words lists p o 0 room (bumped_accepted r o.router (step_bumped (primary_of words) r e))

pub event_changes : EventChanges
unfolding happened_of
event_changes words lists v e room = happened_changes (router_place words v) words lists e room

clocked_changes : (f : Found) (words lists : List ℕ) (d : ℕ) (room : List ℕ)
    → OnlyThese words (clocked_at f words lists d room).words (words_at (place_in f) (4 ∷ (5 ∷ (8 ∷ []))))
clocked_changes None words lists d room = same_only words _
clocked_changes (Some p) words lists d room =
    let r = record_at words p in
    let t = ticked_of (primary_of words) r d in
    acted_changes words lists p t.outcome t.leftover room
    (bumped_accepted r t.outcome.router (ticked_bumped (primary_of words) r d))

pub clock_changes : ClockChanges
unfolding clocked_of
clock_changes words lists v d room = clocked_changes (router_place words v) words lists d room

-- a timer runs outside of Initialize
running : (s : State) → ¬ (s ≡ Initialize) → eqb (state_number s) 0 ≡ false
running Initialize n = absurd (n refl)
running Backup n = refl
running Master n = refl

pub timer_falls : TimerFalls
timer_falls words lists v d p room e n h =
    let r = record_at words p in
    let falls = clocked_falls words lists p d room _ (running r.state n) h (timer_event words p (r.timer - d)) in
    sym (ap (λ (x : Result). x.words) (clocked words lists v p d room e)) ∙ sym falls.words_are

-- no packet makes a Master
became_test : (t : Bool) (a b : Outcome) (n : ℕ) → a.router.counts.became ≡ n → b.router.counts.became ≡ n
    → (cond t a b).router.counts.became ≡ n
became_test true a b n x y = x
became_test false a b n x y = y

packet_became : (s : State) (priority source primary : ℕ) (r : Router)
    → (step_in s (Packet priority source) primary r).router.counts.became ≡ r.counts.became
packet_became Initialize priority source primary r = refl
packet_became Backup priority source primary r =
    became_test (eqb priority 0) (hurries r) (heard_by_backup r priority) _ refl
    (became_test (not r.preempt || leb r.priority priority) (waits r) (stays r) _ refl refl)
packet_became Master priority source primary r =
    became_test (eqb priority 0) (advertises r) (heard_by_master primary r priority source) _ refl
    (became_test (beats primary r priority source) (waits r) (stays r) _ refl refl)

-- an accepted packet at a place
module _ (words : List ℕ) (p : ℕ) (f : Fields) (below : p < 255) (long : length words ≡ 4096) where
  abbrev event : Event
  event = Packet f.priority f.source

  abbrev own : Router
  own = accepted_of (record_at words p)

  abbrev s : Router
  s = (accepted_at words p f).router

  abbrev after : List ℕ
  after = set_event words p s

  read_back : record_at after p ≡ s
  read_back = event_record words p s below long (accepted_unchanged words p f)

  accepted_counts_lem : get_or after (base_of p + 7) 0 ≡ counted (get_or words (base_of p + 7) 0)
  accepted_counts_lem =
      sym (accepted_word after p)
      ∙ ap (λ (x : Router). x.counts.accepted) read_back
      ∙ bumped_accepted own s (step_bumped (primary_of words) own event)
      ∙ ap counted (accepted_word words p)

  became_stays : s.counts.became ≡ get_or words (base_of p + 8) 0
  unfolding step_of
  became_stays = packet_became own.state f.priority f.source (primary_of words) own ∙ became_word words p

  packet_only : OnlyThese words after (words_at p (4 ∷ (5 ∷ (7 ∷ []))))
  packet_only =
      record {
        long = (event_beside words p s).long;
        others =
            λ i n.
            event_stays words p s i (inl (λ z. n (inl z))) (inl (λ z. n (inr (inl z))))
            (inl (λ z. n (inr (inr (inl z)))))
            (inr became_stays);
      }

  packet_one : (record_at after p).state ≡ (record_at words p).state → (record_at after p).timer ≡ (record_at words p).timer
      → OneCount words after (base_of p + 7)
  packet_one e t =
      let state = state_word_lem words p s.state (sym (ap (λ (x : Router). x.state) read_back) ∙ e) in
      let timer = sym (ap (λ (x : Router). x.timer) read_back) ∙ t ∙ timer_is words p in
      record {
        long = (event_beside words p s).long;
        count = accepted_counts_lem;
        others = λ i n. event_stays words p s i (inr state) (inr timer) (inl n) (inr became_stays);
      }

-- a packet that is answered by 0
packet_done : (words lists bytes room : List ℕ) (r : Result) → Heard words lists bytes room r → r.answer.number ≡ 0
    → (packet_place words bytes < 255)
    × (r.words ≡ set_event words (packet_place words bytes) (packet_outcome words bytes).router)
packet_done words lists bytes room r (refused n least most h e) z =
    absurd (let y : n ≡ 0 = sym (ap (λ (x : Result). x.answer.number) e) ∙ z in omega arith)
packet_done words lists bytes room r (taken h e) z =
    (h, ends_done words _ room r (taken_ends words lists bytes room r e) z)

pub packet_changes : PacketChanges
packet_changes words lists bytes room p long w z =
    let d = packet_done words lists bytes room _ (heard_ends words lists bytes room) z in
    rw (← w, d.1) (
      packet_only words (packet_place words bytes) (fields_of bytes) d.0 long,
      accepted_counts_lem words (packet_place words bytes) (fields_of bytes) d.0 long,
    )

pub packet_counts : PacketCounts
packet_counts words lists bytes room p long w z =
    let d = packet_done words lists bytes room _ (heard_ends words lists bytes room) z in
    rw (← w, d.1) (packet_one words (packet_place words bytes) (fields_of bytes) d.0 long)
