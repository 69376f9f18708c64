-- The counts that a question tells of a virtual router: what each call adds, and so what a history adds.
-- Assumes nothing.
use mathlib.Core.Path.{◌≡◌, refl, sym, ap, subst, ◌∙◌}
use mathlib.Core.Logic.{◌⊎◌, inl, inr}
use mathlib.Core.List.{List, [], ◌∷◌}
use mathlib.Core.Bool.{Bool, true, false, cond, ◌&&◌}
use Prim.Native.Nat.{ℕ, ◌<◌}
use native.Mathlib.Omega.{arith}
use lib.Dec.{eqb}
use lib.ListN.{get_or}
use borrow.Author.Tests.{eq-eqb, ne_eqb, eqb-true, eqb-false}
use Rattle.std.proofs.lemmas.Bool.{and_right, cases_eq}
use Rattle.judging.specs.declared.Fields.{Fields}
use Rattle.judging.specs.Judging.{Judged, judged_of}
use Rattle.std.specs.Prelude.{Ok, Err, Some, None}
use Rattle.states.specs.declared.record.Counts.{Counts}
use Rattle.states.specs.declared.record.Router.{Router}
use Rattle.places.specs.Place.{Found, base_of, record_at, set_record, place_of}
use Rattle.places.proofs.Beside.{beside_first}
use Rattle.places.proofs.Finding.{found}
use Rattle.places.proofs.Words.{first_same, first_other, count_first}
use Rattle.events.specs.Result.{router_place}
use Rattle.events.specs.Events.{no_router, asked_at, asked_of}
use Rattle.events.proofs.Sought.{sought_below, sought_word}
use Rattle.configuring.specs.Configuring.{no_counts, empty_of, freed, configure_refusal, remove_refusal}
use Rattle.configuring.proofs.Configures.{never_full, never_unknown}
use Rattle.packets.specs.Packets.{heard_of}
use Rattle.histories.specs.Histories.{Call, configure, remove, startup, shutdown, clock, packet, Given, Memory, called}
use Rattle.histories.specs.Histories.{after, begun, GivenAll}
use Rattle.histories.specs.Counts.{is_at, addressee, hears, becomes_master, begins, is_for, hears_by, becomes_master_by}
use Rattle.histories.specs.Counts.{begins_by, tallied_by, tally_by, modulo}
use Rattle.histories.specs.Standing.{removes}
use Rattle.histories.specs.Theorems.{ToldCounts}
use Rattle.histories.proofs.Begun.{empty_held, empty_record}
use Rattle.histories.proofs.Does.{Moves, same, counts, changes, IsEvent, event_moves}
use Rattle.histories.proofs.Held.{Held}
use Rattle.histories.proofs.Histories.{call_held}
use Rattle.histories.proofs.Standing.{call_still, fresh_at}
use Rattle.histories.proofs.Stays.{same_router, stored_test, new_number_lem}
use Rattle.histories.proofs.Tallied.{Bumps, tally_test, call_follows}

-- what a question tells, by where the router stands
asked_at_lem : (words : List ℕ) (v p : ℕ) → router_place words v ≡ Some p → (asked_of words v).router ≡ record_at words p
unfolding asked_of
asked_at_lem words v p e = ap (λ (f : Found). (asked_at f words).router) e

asked_nowhere : (words : List ℕ) (v : ℕ) → router_place words v ≡ None → (asked_of words v).router ≡ no_router
unfolding asked_of
asked_nowhere words v e = ap (λ (f : Found). (asked_at f words).router) e

-- a place has the number of one virtual router
module _ (words : List ℕ) (v p : ℕ) (at : router_place words v ≡ Some p) where
  number : get_or words (base_of p) 0 ≡ v
  number = (sought_word words v p at).1

  place_test : (f : Found) (u : ℕ) → router_place words u ≡ f → ¬ (u ≡ v) → is_at f p ≡ false
  place_test None u s n = refl
  place_test (Some q) u s n =
      ne_eqb q p (λ z. n (sym (sought_word words u q s).1 ∙ ap (λ (k : ℕ). get_or words (base_of k) 0) z ∙ number))

  for_test : (t : Bool) (u : ℕ) → eqb u v ≡ t → is_at (router_place words u) p ≡ t
  for_test true u e =
      ap (λ (k : ℕ). is_at (router_place words k) p) (eqb-true u v e)
      ∙ ap (λ (f : Found). is_at f p) at
      ∙ eq-eqb p p refl
  for_test false u e = place_test (router_place words u) u refl (eqb-false u v e)

  -- a packet is for the router at the place exactly where it carries its number
  for_it : (j : Judged) → is_at (addressee words j) p ≡ is_for v j
  for_it (Err n) = refl
  for_it (Ok fields) = for_test (eqb fields.vrid v) fields.vrid refl

  free_test : (f : Found) → place_of words 0 ≡ f → is_at f p ≡ false
  free_test None s = refl
  free_test (Some q) s =
      ne_eqb q p
      (λ z. (sought_word words v p at).2 (sym number ∙ ap (λ (k : ℕ). get_or words (base_of k) 0) (sym z) ∙ (found words 0 q s).word))

module _ (v : ℕ) where
  -- there is no virtual router 0
  no_zero : (words : List ℕ) → eqb v 0 ≡ true → router_place words v ≡ None
  unfolding router_place
  no_zero words e = rw e

  abbrev told : List ℕ → Counts
  told words = (asked_of words v).router.counts

  abbrev FollowsBy : Memory → Call → Type 0
  FollowsBy m call =
      told (called m call).words
      ≡ cond (begins_by v m call) no_counts
      (Bumps (hears_by v m call 0) (becomes_master_by v m call) (hears_by v m call 10) (hears_by v m call 11) (hears_by v m call 12)
      (hears_by v m call 13) (told m.words))

  -- a call that configures or removes it leaves no counts
  begins_told : (m : Memory) (call : Call) → begins_by v m call ≡ true → told (called m call).words ≡ no_counts → FollowsBy m call
  begins_told m call e none =
      none
      ∙ sym
      (ap
      (λ (t : Bool). cond t no_counts
      (Bumps (hears_by v m call 0) (becomes_master_by v m call) (hears_by v m call 10) (hears_by v m call 11) (hears_by v m call 12)
      (hears_by v m call 13) (told m.words)))
      e)

  -- in the table before and after
  module _ (m : Memory) (held : Held m.words) (p : ℕ) (at : router_place m.words v ≡ Some p) where
    heard_same : (call : Call) (n : ℕ) → hears p m call n ≡ hears_by v m call n
    heard_same (configure u priority interval preempt addresses) n = refl
    heard_same (remove u) n = refl
    heard_same (startup u room) n = refl
    heard_same (shutdown u room) n = refl
    heard_same (clock u d room) n = refl
    heard_same (packet bytes room) n =
        ap (λ (t : Bool). t && eqb (heard_of m.words m.lists bytes room).answer.number n)
        (for_it m.words v p at (judged_of bytes))

    new_test : (s t : Bool) (u priority interval : ℕ) (addresses : List ℕ) → eqb u v ≡ s
        → eqb (configure_refusal m.words u priority interval addresses) 0 ≡ t → (s && t) ≡ false
    new_test false t u priority interval addresses e f = refl
    new_test true false u priority interval addresses e f = refl
    new_test true true u priority interval addresses e f =
        absurd
        (new_number_lem m.words m.lists held v p at u priority interval addresses
        (eqb-true (configure_refusal m.words u priority interval addresses) 0 f) (eqb-true u v e))

    begun_here : (call : Call) → removes v m call ≡ false → begins p m call ≡ false
    begun_here (configure u priority interval preempt addresses) n =
        ap (λ (t : Bool). eqb (configure_refusal m.words u priority interval addresses) 0 && t)
        (free_test m.words v p at (place_of m.words 0) refl)
        ∙ and_right (eqb (configure_refusal m.words u priority interval addresses) 0) false refl
    begun_here (remove u) n = gone (eqb u v) (eqb (remove_refusal m.words u) 0) refl n
      where
        gone : (s t : Bool) → eqb u v ≡ s → (s && t) ≡ false → (t && is_at (router_place m.words u) p) ≡ false
        gone false t e f =
            ap (λ (x : Bool). t && x) (for_test m.words v p at false u e) ∙ and_right t false refl
        gone true false e f = refl
        gone true true e f = absurd cc
    begun_here (startup u room) n = refl
    begun_here (shutdown u room) n = refl
    begun_here (clock u d room) n = refl
    begun_here (packet bytes room) n = refl

    begun_by : (call : Call) → removes v m call ≡ false → begins_by v m call ≡ false
    begun_by (configure u priority interval preempt addresses) n =
        new_test (eqb u v) (eqb (configure_refusal m.words u priority interval addresses) 0) u priority interval addresses refl refl
    begun_by (remove u) n = n
    begun_by (startup u room) n = refl
    begun_by (shutdown u room) n = refl
    begun_by (clock u d room) n = refl
    begun_by (packet bytes room) n = refl

    stays_told : (call : Call) → Given call → removes v m call ≡ false → FollowsBy m call
    stays_told call g n =
        let before = asked_at_lem m.words v p at in
        let later = asked_at_lem (called m call).words v p (call_still m held v p at call n).place in
        let told_before : told m.words ≡ (record_at m.words p).counts = ap (λ (r : Router). r.counts) before in
        let told_later : told (called m call).words ≡ (record_at (called m call).words p).counts
        = ap (λ (r : Router). r.counts) later in
        let follows = call_follows p (sought_below m.words v p at) m call g held.long in
        rw (
          told_before,
          told_later,
          before,
          later,
          begun_by call n,
          ← heard_same call 0,
          ← heard_same call 10,
          ← heard_same call 11,
          ← heard_same call 12,
          ← heard_same call 13,
        )
        (subst
        (λ (t : Bool). (record_at (called m call).words p).counts
        ≡ cond t no_counts
        (Bumps (hears p m call 0) (becomes_master p m call) (hears p m call 10) (hears p m call 11) (hears p m call 12)
        (hears p m call 13) (record_at m.words p).counts))
        (begun_here call n) follows)

    -- removed: it is found nowhere
    removed_test : (f : Found) → router_place (set_record m.words p freed) v ≡ f → f ≡ None
    removed_test None s = refl
    removed_test (Some q) s = absurd (other (cases_eq q p))
      where
        below : p < 255
        below = sought_below m.words v p at

        there : (q < 255) × (get_or (set_record m.words p freed) (base_of q) 0 ≡ v) × (v ≡ 0 → ⊥)
        there = sought_word (set_record m.words p freed) v q s

        other : (q ≡ p) ⊎ (q ≡ p → ⊥) → ⊥
        other (inl z) =
            there.2
            (sym there.1
            ∙ ap (λ (k : ℕ). get_or (set_record m.words p freed) (base_of k) 0) z
            ∙ first_same m.words p freed below held.long)
        other (inr n) =
            let word = sym (first_other m.words p freed below held.long q n) ∙ there.1 in
            there.2 (sym word ∙ held.unique q p there.0 below n (word ∙ sym (number m.words v p at)))

    gone_told : (s t : Bool) (u : ℕ) → eqb u v ≡ s → eqb (remove_refusal m.words u) 0 ≡ t → (s && t) ≡ true
        → told (called m (remove u)).words ≡ no_counts
    gone_told false t u e f n = absurd cc
    gone_told true false u e f n = absurd cc
    gone_told true true u e f n =
        let there : router_place m.words u ≡ Some p = ap (router_place m.words) (eqb-true u v e) ∙ at in
        let words : (called m (remove u)).words ≡ set_record m.words p freed = rw (f, there) in
        ap told words
        ∙ ap (λ (r : Router). r.counts)
        (asked_nowhere (set_record m.words p freed) v (removed_test (router_place (set_record m.words p freed) v) refl))

    here_test : (t : Bool) (call : Call) → Given call → removes v m call ≡ t → FollowsBy m call
    here_test false call g e = stays_told call g e
    here_test true (configure u priority interval preempt addresses) g e = absurd cc
    here_test true (remove u) g e =
        begins_told m (remove u) e (gone_told (eqb u v) (eqb (remove_refusal m.words u) 0) u refl refl e)
    here_test true (startup u room) g e = absurd cc
    here_test true (shutdown u room) g e = absurd cc
    here_test true (clock u d room) g e = absurd cc
    here_test true (packet bytes room) g e = absurd cc

  -- not in the table
  module _ (m : Memory) (held : Held m.words) (nowhere : router_place m.words v ≡ None) where
    moved_nowhere : (w : List ℕ) → Moves m.words w → router_place w v ≡ None
    moved_nowhere w same = nowhere
    moved_nowhere w (counts n least most) =
        same_router w m.words v (λ q. ap (λ (x : ℕ). eqb x v) (count_first m.words n most q)) ∙ nowhere
    moved_nowhere w (changes u p after r s c) =
        same_router w m.words v (λ q. ap (λ (x : ℕ). eqb x v) (beside_first p m.words w c.beside q)) ∙ nowhere

    -- storing a record for another virtual router, or for none
    stored_nowhere : (q : ℕ) (r : Router) → q < 255 → ¬ (r.vrid ≡ v) → ¬ (get_or m.words (base_of q) 0 ≡ v)
        → router_place (set_record m.words q r) v ≡ None
    stored_nowhere q r below new old =
        same_router (set_record m.words q r) m.words v
        (λ k. stored_test m.words q r v below held.long new old k (cases_eq k q))
        ∙ nowhere

    -- a packet for it is refused by 9
    nine : (bytes room : List ℕ) (f : Fields) → judged_of bytes ≡ Ok f → f.vrid ≡ v
        → (heard_of m.words m.lists bytes room).answer.number ≡ 9
    unfolding heard_of
    nine bytes room f e z = rw (e, z, nowhere)

    unheard_test : (t : Bool) (bytes room : List ℕ) (f : Fields) (n : ℕ) → judged_of bytes ≡ Ok f → eqb f.vrid v ≡ t
        → ¬ (9 ≡ n) → (t && eqb (heard_of m.words m.lists bytes room).answer.number n) ≡ false
    unheard_test false bytes room f n e z other = refl
    unheard_test true bytes room f n e z other =
        ap (λ (k : ℕ). eqb k n) (nine bytes room f e (eqb-true f.vrid v z)) ∙ ne_eqb 9 n other

    unheard_judged : (j : Judged) (bytes room : List ℕ) (n : ℕ) → judged_of bytes ≡ j → ¬ (9 ≡ n)
        → (is_for v j && eqb (heard_of m.words m.lists bytes room).answer.number n) ≡ false
    unheard_judged (Err k) bytes room n e other = refl
    unheard_judged (Ok f) bytes room n e other = unheard_test (eqb f.vrid v) bytes room f n e refl other

    unheard : (call : Call) (n : ℕ) → ¬ (9 ≡ n) → hears_by v m call n ≡ false
    unheard (configure u priority interval preempt addresses) n other = refl
    unheard (remove u) n other = refl
    unheard (startup u room) n other = refl
    unheard (shutdown u room) n other = refl
    unheard (clock u d room) n other = refl
    unheard (packet bytes room) n other = unheard_judged (judged_of bytes) bytes room n refl other

    -- it is still not in the table
    nowhere_told : (call : Call) → begins_by v m call ≡ false → router_place (called m call).words v ≡ None → FollowsBy m call
    nowhere_told call begins gone =
        let before = asked_nowhere m.words v nowhere in
        let later = asked_nowhere (called m call).words v gone in
        let told_before : told m.words ≡ no_counts = ap (λ (r : Router). r.counts) before in
        let told_later : told (called m call).words ≡ no_counts = ap (λ (r : Router). r.counts) later in
        rw (
          told_before,
          told_later,
          before,
          later,
          begins,
          unheard call 0 (λ z. omega arith),
          unheard call 10 (λ z. omega arith),
          unheard call 11 (λ z. omega arith),
          unheard call 12 (λ z. omega arith),
          unheard call 13 (λ z. omega arith),
        )

    event_told : (call : Call) → IsEvent call → begins_by v m call ≡ false → FollowsBy m call
    event_told call e begins = nowhere_told call begins (moved_nowhere (called m call).words (event_moves m call e held.long))

    -- configuring: it, another one, or none
    fresh_told : (u priority interval : ℕ) (preempt : Bool) (addresses : List ℕ)
        → Given (configure u priority interval preempt addresses)
        → u ≡ v → configure_refusal m.words u priority interval addresses ≡ 0 → (f : Found) → place_of m.words 0 ≡ f
        → told (called m (configure u priority interval preempt addresses)).words ≡ no_counts
    fresh_told u priority interval preempt addresses g z none None s =
        absurd (never_full m.words u priority interval addresses none s)
    fresh_told u priority interval preempt addresses g z none (Some p) s =
        let fresh = fresh_at m held u priority interval preempt addresses g none p s in
        let w = (called m (configure u priority interval preempt addresses)).words in
        ap (λ (k : ℕ). (asked_of w k).router.counts) (sym z)
        ∙ ap (λ (r : Router). r.counts) (asked_at_lem w u p fresh.0 ∙ fresh.1)

    other_nowhere : (u priority interval : ℕ) (preempt : Bool) (addresses : List ℕ) → ¬ (u ≡ v) → ¬ (v ≡ 0)
        → configure_refusal m.words u priority interval addresses ≡ 0 → (f : Found) → place_of m.words 0 ≡ f
        → router_place (called m (configure u priority interval preempt addresses)).words v ≡ None
    other_nowhere u priority interval preempt addresses n some none None s =
        absurd (never_full m.words u priority interval addresses none s)
    other_nowhere u priority interval preempt addresses n some none (Some p) s =
        let free = found m.words 0 p s in
        rw (none, s) (stored_nowhere p _ (omega (arith, free.below)) n (λ z. some (sym z ∙ free.word)))

    configured_told : (s t z : Bool) (u priority interval : ℕ) (preempt : Bool) (addresses : List ℕ)
        → Given (configure u priority interval preempt addresses) → eqb u v ≡ s
        → eqb (configure_refusal m.words u priority interval addresses) 0 ≡ t → eqb v 0 ≡ z
        → FollowsBy m (configure u priority interval preempt addresses)
    configured_told true true z u priority interval preempt addresses g a b c =
        begins_told m (configure u priority interval preempt addresses) (rw (a, b))
        (fresh_told u priority interval preempt addresses g (eqb-true u v a)
        (eqb-true (configure_refusal m.words u priority interval addresses) 0 b) (place_of m.words 0) refl)
    configured_told s false z u priority interval preempt addresses g a b c =
        nowhere_told (configure u priority interval preempt addresses) (rw b (and_right (eqb u v) false refl)) (rw b nowhere)
    configured_told false true true u priority interval preempt addresses g a b c =
        nowhere_told (configure u priority interval preempt addresses) (rw a) (no_zero _ c)
    configured_told false true false u priority interval preempt addresses g a b c =
        nowhere_told (configure u priority interval preempt addresses) (rw a)
        (other_nowhere u priority interval preempt addresses (eqb-false u v a) (eqb-false v 0 c)
        (eqb-true (configure_refusal m.words u priority interval addresses) 0 b) (place_of m.words 0) refl)

    -- removing another one
    apart : {q : ℕ} → Some q ≡ None → ⊥
    apart e = cc

    gone : (q u : ℕ) → router_place m.words u ≡ Some q → eqb (remove_refusal m.words u) 0 ≡ true → ¬ (u ≡ v)
        → (z : Bool) → eqb v 0 ≡ z
        → router_place (called m (remove u)).words v ≡ None
    gone q u s e other true c = no_zero _ c
    gone q u s e other false c =
        let there = sought_word m.words u q s in
        rw (e, s)
        (stored_nowhere q freed there.0 (λ z. eqb-false v 0 c (sym z)) (λ z. other (sym there.1 ∙ z)))

    removed_told : (t : Bool) (f : Found) (u : ℕ) → eqb (remove_refusal m.words u) 0 ≡ t → router_place m.words u ≡ f
        → FollowsBy m (remove u)
    removed_told false f u e s =
        nowhere_told (remove u) (rw e (and_right (eqb u v) false refl)) (rw e nowhere)
    removed_told true None u e s = absurd (never_unknown m.words u (eqb-true (remove_refusal m.words u) 0 e) s)
    removed_told true (Some q) u e s =
        let there = sought_word m.words u q s in
        let other : ¬ (u ≡ v) = λ z. apart (sym s ∙ ap (router_place m.words) z ∙ nowhere) in
        nowhere_told (remove u) (rw (ne_eqb u v other)) (gone q u s e other (eqb v 0) refl)

    there_told : (call : Call) → Given call → FollowsBy m call
    there_told (configure u priority interval preempt addresses) g =
        configured_told (eqb u v) (eqb (configure_refusal m.words u priority interval addresses) 0) (eqb v 0) u priority interval
        preempt addresses g refl refl refl
    there_told (remove u) g = removed_told (eqb (remove_refusal m.words u) 0) (router_place m.words u) u refl refl
    there_told (startup u room) g = event_told (startup u room) tt refl
    there_told (shutdown u room) g = event_told (shutdown u room) tt refl
    there_told (clock u d room) g = event_told (clock u d room) tt refl
    there_told (packet bytes room) g = event_told (packet bytes room) tt refl

  call_test : (f : Found) (m : Memory) → Held m.words → router_place m.words v ≡ f → (call : Call) → Given call
      → FollowsBy m call
  call_test (Some p) m held s call g = here_test m held p s (removes v m call) call g refl
  call_test None m held s call g = there_told m held s call g

  history_told : (m : Memory) (history : List Call) (n : Counts) → GivenAll history → Held m.words
      → told m.words ≡ modulo n → told (after m history).words ≡ modulo (tally_by v m history n)
  history_told m [] n g held e = e
  history_told m (call ∷ rest) n g held e =
      history_told (called m call) rest (tallied_by v m call n) g.1 (call_held m call g.0 held)
      (call_test (router_place m.words v) m held refl call g.0
      ∙ ap
      (λ (c : Counts). cond (begins_by v m call) no_counts
      (Bumps (hears_by v m call 0) (becomes_master_by v m call) (hears_by v m call 10) (hears_by v m call 11) (hears_by v m call 12)
      (hears_by v m call 13) c)) e
      ∙ tally_test (begins_by v m call) (hears_by v m call 0) (becomes_master_by v m call) (hears_by v m call 10) (hears_by v m call 11)
      (hears_by v m call 12) (hears_by v m call 13) n)

-- of an empty table a question tells no counts
empty_told : (f : Found) (primary v : ℕ) → router_place (empty_of primary) v ≡ f
    → (asked_of (empty_of primary) v).router.counts ≡ no_counts
empty_told None primary v s = ap (λ (r : Router). r.counts) (asked_nowhere (empty_of primary) v s)
empty_told (Some p) primary v s =
    ap (λ (r : Router). r.counts)
    (asked_at_lem (empty_of primary) v p s ∙ empty_record primary p (sought_below (empty_of primary) v p s))

pub told_counts : ToldCounts
told_counts primary lists history g v =
    history_told v (begun primary lists) history no_counts g (empty_held primary)
    (empty_told (router_place (empty_of primary) v) primary v refl)
