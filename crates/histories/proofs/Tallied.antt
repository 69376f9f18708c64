-- A router's counts over a history: what each call adds at a place, and so what all of them add.
-- Assumes nothing.
use mathlib.Core.Path.{◌≡◌, refl, sym, ap, subst, ◌∙◌}
use mathlib.Core.Logic.{◌⊎◌, inl, inr}
use mathlib.Core.List.{List, [], ◌∷◌}
use mathlib.Core.Bool.{Bool, true, false, cond, ◌&&◌}
use Prim.Native.Nat.{ℕ, ◌*◌, ◌/◌, ◌%◌, ◌^◌, ◌≤◌, ◌<◌}
use native.Mathlib.Omega.{arith}
use lib.Dec.{eqb, ltb}
use lib.ListN.{length}
use borrow.Author.Tests.{eqb-true, eqb-false, eq-eqb, ne_eqb}
use Rattle.std.proofs.lemmas.Bool.{cases_eq}
use Rattle.judging.specs.declared.Fields.{Fields}
use Rattle.judging.specs.Judging.{Judged, judged_of}
use Rattle.std.specs.Prelude.{Ok, Err, Some, None}
use Rattle.judging.proofs.Accepted.{refused_most}
use Rattle.states.specs.declared.record.Counts.{Counts}
use Rattle.states.specs.declared.record.Router.{Router}
use Rattle.states.specs.declared.step.Event.{Event}
use Rattle.states.specs.declared.step.Event.TheVariants.{Startup, Shutdown, Packet}
use Rattle.states.specs.declared.step.Outcome.{Outcome}
use Rattle.states.specs.Step.{counted, became_master}
use Rattle.router.specs.Accept.{refused_counts, accepted_of, accepted_counts}
use Rattle.states.proofs.Kept.{Unchanged, step_unchanged}
use Rattle.router.proofs.Kept.{ticked_unchanged}
use Rattle.output.specs.Output.{need_of}
use Rattle.places.specs.Place.{Found, primary_of, record_at, set_record, set_event, place_of, count_refusal, count_at_place}
use Rattle.places.proofs.Beside.{beside_record}
use Rattle.places.proofs.Finding.{found}
use Rattle.places.specs.Layout.{InRange}
use Rattle.places.proofs.Records.{record_same, record_other}
use Rattle.places.proofs.Words.{count_record}
use Rattle.events.specs.Result.{done, short, Result, refuses, router_place, acted_of}
use Rattle.configuring.specs.Configuring.{place_in, no_counts, new_router, freed, configure_refusal, remove_refusal}
use Rattle.events.specs.Events.{happened_at, happened_of, clocked_at, clocked_of}
use Rattle.packets.specs.Packets.{refusal_at, accepted_at, heard_at, sought_at, judged_at, heard_of}
use Rattle.packets.proofs.Heard.{refused_range}
use Rattle.histories.specs.Counts.{becomes, is_at, addressee, hears, becomes_master, begins, more, tallied, tally_of, modulo}
use Rattle.histories.specs.Theorems.{RouterCounts}
use Rattle.histories.specs.Histories.{Call, configure, remove, startup, shutdown, clock, packet, Given, Memory, called, after}
use Rattle.histories.specs.Histories.{begun, GivenAll}
use Rattle.histories.proofs.Became.{Bumped, becomes_self, stays_bumped, step_bumped, ticked_bumped}
use Rattle.histories.proofs.Changed.{Changed, event_changed, count_changed}
use Rattle.histories.proofs.Held.{Held}
use Rattle.histories.proofs.Begun.{empty_held, empty_record}
use Rattle.configuring.proofs.Configures.{configure_most, never_full, never_unknown}
use Rattle.histories.proofs.Histories.{accepted_unchanged, call_held}
use Rattle.events.proofs.Sought.{sought_below}
use Rattle.histories.proofs.Theorems.{heard_elsewhere}

-- each count one higher where its event happened
abbrev pub Bumps : Bool → Bool → Bool → Bool → Bool → Bool → Counts → Counts
Bumps a b o u l i c =
    record {
      accepted = cond a (counted c.accepted) c.accepted;
      became = cond b (counted c.became) c.became;
      owner = cond o (counted c.owner) c.owner;
      authentication = cond u (counted c.authentication) c.authentication;
      list = cond l (counted c.list) c.list;
      interval = cond i (counted c.interval) c.interval;
    }

bump : (t : Bool) (x : ℕ) → cond t (counted (x % 2 ^ 32)) (x % 2 ^ 32) ≡ more t x % 2 ^ 32
bump true x = omega arith
bump false x = omega arith

bumps_tally : (a b o u l i : Bool) (n : Counts) → Bumps a b o u l i (modulo n)
    ≡ modulo
    (record {
      accepted = more a n.accepted;
      became = more b n.became;
      owner = more o n.owner;
      authentication = more u n.authentication;
      list = more l n.list;
      interval = more i n.interval;
    })
bumps_tally a b o u l i n =
    rw
    (bump a n.accepted, bump b n.became, bump o n.owner, bump u n.authentication, bump l n.list, bump i n.interval)

became_form : (t : Bool) (c : Counts) → cond t (became_master c) c ≡ Bumps false t false false false false c
became_form true c = refl
became_form false c = refl

accepted_form : (t : Bool) (c : Counts) → cond t (became_master (accepted_counts c)) (accepted_counts c) ≡ Bumps true t false false false false c
accepted_form true c = refl
accepted_form false c = refl

at_same : (q p : ℕ) → Some q ≡ Some p → q ≡ p
at_same q p e = ap place_in e

module _ (p : ℕ) (below : p < 255) (words : List ℕ) (long : length words ≡ 4096) where
  abbrev here : Router
  here = record_at words p

  abbrev Same : List ℕ → Type 0
  Same after = Bumped here here.state (record_at after p)

  unchanged : (after : List ℕ) → record_at after p ≡ here → Same after
  unchanged after e =
      stays_bumped here.state here (record_at after p) (ap (λ (r : Router). r.state) e) (ap (λ (r : Router). r.counts) e)

  stored : (q : ℕ) (after : List ℕ) (r : Router) → Changed q words after r → Bumped (record_at words q) (record_at words q).state r
      → (p ≡ q) ⊎ (p ≡ q → ⊥) → Same after
  stored q after r changed bumped (inl e) =
      subst (λ (k : ℕ). Bumped (record_at words k) (record_at words k).state (record_at after k)) (sym e)
      (rw changed.here bumped)
  stored q after r changed bumped (inr n) = unchanged after (beside_record q words after changed.beside p n)

  same_test : (t : Bool) (a b : Result) → Same a.words → Same b.words → Same (cond t a b).words
  same_test true a b x y = x
  same_test false a b x y = y

  acted : (lists : List ℕ) (q : ℕ) (o : Outcome) (leftover : ℕ) (room : List ℕ) → q < 255
      → Unchanged (record_at words q) o.router → Bumped (record_at words q) (record_at words q).state o.router
      → Same (acted_of words lists q o leftover room).words
  unfolding acted_of
  acted lists q o leftover room low kept bumped =
      same_test (ltb (length room) (need_of o.writes (4 * o.router.count))) _ _ (unchanged words refl)
      (stored q _ o.router (event_changed words q o.router low long kept) bumped (cases_eq p q))

  pub happened : (f : Found) (lists : List ℕ) (v : ℕ) (e : Event) (room : List ℕ) → router_place words v ≡ f
      → Same (happened_at f words lists e room).words
  happened None lists v e room s = unchanged words refl
  happened (Some q) lists v e room s =
      acted lists q _ 0 room (sought_below words v q s) (step_unchanged (primary_of words) (record_at words q) e)
      (step_bumped (primary_of words) (record_at words q) e)

  pub clocked : (f : Found) (lists : List ℕ) (v d : ℕ) (room : List ℕ) → router_place words v ≡ f
      → Same (clocked_at f words lists d room).words
  clocked None lists v d room s = unchanged words refl
  clocked (Some q) lists v d room s =
      acted lists q _ _ room (sought_below words v q s) (ticked_unchanged (primary_of words) (record_at words q) d)
      (ticked_bumped (primary_of words) (record_at words q) d)

  -- one more where it became Master, and nothing heard
  pub form : (after : List ℕ) → Same after → (record_at after p).counts
      ≡ Bumps false (becomes here.state (record_at after p).state) false false false false here.counts
  form after same = same ∙ became_form (becomes here.state (record_at after p).state) here.counts

  -- what a packet comes to here by its answer, if it is for the router here
  abbrev HeardAs : Bool → Result → Type 0
  HeardAs t result =
      (record_at result.words p).counts
      ≡ Bumps (t && eqb result.answer.number 0) (becomes here.state (record_at result.words p).state)
      (t && eqb result.answer.number 10) (t && eqb result.answer.number 11)
      (t && eqb result.answer.number 12) (t && eqb result.answer.number 13) here.counts

  abbrev Heard : Found → Result → Type 0
  Heard f result = HeardAs (is_at f p) result

  heard_test : (t : Bool) (a b : Result) → HeardAs true a → HeardAs true b → HeardAs true (cond t a b)
  heard_test true a b x y = x
  heard_test false a b x y = y

  no_room : (need : ℕ) (room : List ℕ) → HeardAs true (record { answer = short need; words = words; room = room })
  no_room need room = form words (unchanged words refl)

  all_done : (r : Router) (need leftover : ℕ) (room : List ℕ) → Unchanged here r → Bumped (accepted_of here) here.state r
      → HeardAs true (record { answer = done need leftover; words = set_event words p r; room = room })
  all_done r need leftover room same bumped =
      rw (event_changed words p r below long same).here
      (bumped ∙ accepted_form (becomes here.state r.state) here.counts)

  accepted : (lists : List ℕ) (f : Fields) (room : List ℕ) → HeardAs true (acted_of words lists p (accepted_at words p f) 0 room)
  unfolding acted_of
  accepted lists f room =
      let o = accepted_at words p f in
      let need = need_of o.writes (4 * o.router.count) in
      heard_test (ltb (length room) need) _ _ (no_room need room)
      (all_done o.router need 0 room (accepted_unchanged words p f)
      (step_bumped (primary_of words) (accepted_of here) (Packet f.priority f.source)))

  refused_form : (n : ℕ) (t z : Bool) → t ≡ false → z ≡ false → refused_counts here.counts n
      ≡ Bumps z t (eqb n 10) (eqb n 11) (eqb n 12) (eqb n 13) here.counts
  refused_form n t z e f = rw (e, f)

  refused : (n : ℕ) (room : List ℕ) → 10 ≤ n → n ≤ 13 → HeardAs true (refuses n (count_at_place words p n) room)
  refused n room least most =
      rw (count_changed words p n below long least most).here
      (refused_form n (becomes here.state here.state) (eqb n 0) (becomes_self here.state) (ne_eqb n 0 (λ z. omega arith)))

  heard_here_test : (t : Bool) (lists bytes : List ℕ) (f : Fields) (room : List ℕ) → eqb (refusal_at words lists p bytes f) 0 ≡ t
      → HeardAs true
      (cond t (acted_of words lists p (accepted_at words p f) 0 room)
      (refuses (refusal_at words lists p bytes f) (count_at_place words p (refusal_at words lists p bytes f)) room))
  heard_here_test true lists bytes f room e = accepted lists f room
  heard_here_test false lists bytes f room e =
      let range = refused_range words lists bytes p f _ refl (eqb-false (refusal_at words lists p bytes f) 0 e) in
      refused (refusal_at words lists p bytes f) room range.0 range.1

  heard_at_lem : (q : ℕ) (lists bytes : List ℕ) (f : Fields) (room : List ℕ) → router_place words f.vrid ≡ Some q
      → (p ≡ q) ⊎ (p ≡ q → ⊥) → Heard (Some q) (heard_at words lists q bytes f room)
  heard_at_lem q lists bytes f room s (inl e) =
      subst (λ (k : ℕ). Heard (Some k) (heard_at words lists k bytes f room)) e
      (subst (λ (t : Bool). HeardAs t (heard_at words lists p bytes f room)) (sym (eq-eqb p p refl))
      (heard_here_test (eqb (refusal_at words lists p bytes f) 0) lists bytes f room refl))
  heard_at_lem q lists bytes f room s (inr n) =
      subst (λ (t : Bool). HeardAs t (heard_at words lists q bytes f room)) (sym (ne_eqb q p (λ z. n (sym z))))
      (form (heard_at words lists q bytes f room).words
      (unchanged _ (heard_elsewhere (Some q) words lists bytes f room p (λ z. n (sym (at_same q p z))))))

  sought : (f : Found) (lists bytes : List ℕ) (fields : Fields) (room : List ℕ) → router_place words fields.vrid ≡ f
      → Heard f (sought_at f words lists bytes fields room)
  sought None lists bytes fields room s =
      form (count_refusal words 9) (unchanged (count_refusal words 9) (count_record words 9 (omega arith) p))
  sought (Some q) lists bytes fields room s = heard_at_lem q lists bytes fields room s (cases_eq p q)

  pub judged : (j : Judged) (lists bytes room : List ℕ) → judged_of bytes ≡ j
      → Heard (addressee words j) (judged_at j words lists bytes room)
  judged (Err n) lists bytes room e =
      form (count_refusal words n)
      (unchanged (count_refusal words n) (count_record words n (omega (arith, refused_most bytes n (sym e))) p))
  judged (Ok fields) lists bytes room e = sought (router_place words fields.vrid) lists bytes fields room refl

  -- a record with no counts, put at the place that was found where nothing is refused
  abbrev Put : Bool → Bool → List ℕ → Type 0
  Put t at after =
      (record_at after p).counts
      ≡ cond (t && at) no_counts
      (Bumps false (becomes here.state (record_at after p).state) false false false false here.counts)

  put_at : (q : ℕ) (r : Router) → q < 255 → InRange r → r.counts ≡ no_counts → (p ≡ q) ⊎ (p ≡ q → ⊥)
      → Put true (eqb q p) (set_record words q r)
  put_at q r low range none (inl e) =
      subst (λ (k : ℕ). Put true (eqb k p) (set_record words k r)) e
      (subst (λ (t : Bool). Put true t (set_record words p r)) (sym (eq-eqb p p refl))
      (ap (λ (x : Router). x.counts) (record_same words p r below long range) ∙ none))
  put_at q r low range none (inr n) =
      subst (λ (t : Bool). Put true t (set_record words q r)) (sym (ne_eqb q p (λ z. n (sym z))))
      (form (set_record words q r) (unchanged (set_record words q r) (record_other words q r low long p n)))

  pub put : (t : Bool) (f : Found) (r : Router) → ((q : ℕ) → f ≡ Some q → q < 255) → (t ≡ true → (f ≡ None → ⊥) × InRange r)
      → r.counts ≡ no_counts → Put t (is_at f p) (cond t (set_record words (place_in f) r) words)
  put false f r low good none = form words (unchanged words refl)
  put true None r low good none = absurd ((good refl).0 refl)
  put true (Some q) r low good none = put_at q r (low q refl) (good refl).1 none (cases_eq p q)

-- the numbers after a call
pub tally_test : (t a b o u l i : Bool) (n : Counts) → cond t no_counts (Bumps a b o u l i (modulo n))
    ≡ modulo
    (cond t no_counts
    (record {
      accepted = more a n.accepted;
      became = more b n.became;
      owner = more o n.owner;
      authentication = more u n.authentication;
      list = more l n.list;
      interval = more i n.interval;
    }))
tally_test true a b o u l i n = refl
tally_test false a b o u l i n = bumps_tally a b o u l i n

module _ (p : ℕ) (below : p < 255) where
  abbrev pub Follows : Memory → Call → Counts → Type 0
  Follows m call c =
      (record_at (called m call).words p).counts
      ≡ cond (begins p m call) no_counts
      (Bumps (hears p m call 0) (becomes_master p m call) (hears p m call 10) (hears p m call 11) (hears p m call 12)
      (hears p m call 13) c)

  pub call_follows : (m : Memory) (call : Call) → Given call → length m.words ≡ 4096
      → Follows m call (record_at m.words p).counts
  unfolding happened_of clocked_of heard_of
  call_follows m (configure v priority interval preempt addresses) g long =
      let w = m.words in
      let none = eqb-true (configure_refusal w v priority interval addresses) 0 in
      put p below w long (eqb (configure_refusal w v priority interval addresses) 0) (place_of w 0)
      (new_router v priority interval preempt (length addresses / 4)) (λ q e. (found w 0 q e).below)
      (λ t.
      let most = configure_most w v priority interval addresses (none t) in (
        never_full w v priority interval addresses (none t),
        record { vrid = g.0; priority = g.1; interval = g.2; count = omega arith },
      ))
      refl
  call_follows m (remove v) g long =
      let w = m.words in
      put p below w long (eqb (remove_refusal w v) 0) (router_place w v) freed (sought_below w v)
      (λ t. (
        never_unknown w v (eqb-true (remove_refusal w v) 0 t),
        record { vrid = omega arith; priority = omega arith; interval = omega arith; count = omega arith },
      ))
      refl
  call_follows m (startup v room) g long =
      form p below m.words long _ (happened p below m.words long (router_place m.words v) m.lists v Startup room refl)
  call_follows m (shutdown v room) g long =
      form p below m.words long _ (happened p below m.words long (router_place m.words v) m.lists v Shutdown room refl)
  call_follows m (clock v d room) g long =
      form p below m.words long _ (clocked p below m.words long (router_place m.words v) m.lists v d room refl)
  call_follows m (packet bytes room) g long = judged p below m.words long (judged_of bytes) m.lists bytes room refl

  history_tally : (m : Memory) (history : List Call) (n : Counts) → GivenAll history → Held m.words
      → (record_at m.words p).counts ≡ modulo n → (record_at (after m history).words p).counts ≡ modulo (tally_of p m history n)
  history_tally m [] n g held e = e
  history_tally m (call ∷ rest) n g held e =
      history_tally (called m call) rest (tallied p m call n) g.1 (call_held m call g.0 held)
      (subst (λ (c : Counts). Follows m call c) e (call_follows m call g.0 held.long)
      ∙ tally_test (begins p m call) (hears p m call 0) (becomes_master p m call) (hears p m call 10) (hears p m call 11)
      (hears p m call 12) (hears p m call 13) n)

pub router_counts : RouterCounts
router_counts primary lists history g p below =
    history_tally p below (begun primary lists) history no_counts g (empty_held primary)
    (ap (λ (r : Router). r.counts) (empty_record primary p below))
