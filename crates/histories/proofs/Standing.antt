-- What was configured stays until it is removed.
-- Assumes nothing.
use mathlib.Core.Path.{◌≡◌, refl, sym, ap, ◌∙◌}
use mathlib.Core.Logic.{◌⊎◌, inl, inr}
use mathlib.Core.List.{List, [], ◌∷◌}
use mathlib.Core.Bool.{Bool, true, false, cond, not, ◌&&◌, ◌||◌}
use Prim.Native.Nat.{ℕ, ◌*◌, ◌/◌, ◌%◌, ◌≤◌, ◌<◌}
use native.Mathlib.Omega.{arith}
use lib.Dec.{eqb, ltb}
use lib.ListN.{length, get_or}
use borrow.Author.Tests.{ne_eqb, eqb-true, eqb-false, not-false}
use Rattle.std.proofs.lemmas.Bool.{cases_eq}
use Rattle.writing.specs.Writing.{address_bytes_wrong}
use Rattle.wire.proofs.Checks.{passed}
use Rattle.wire.proofs.Tested.{two_passed}
use Rattle.states.specs.declared.record.Router.{Router}
use Rattle.places.specs.Place.{Found, base_of, record_at, set_record, place_of}
use Rattle.std.specs.Prelude.{Some, None}
use Rattle.places.proofs.Finding.{found, missing}
use Rattle.places.proofs.Parts.{part_same}
use Rattle.places.proofs.Records.{read_in_range, record_same}
use Rattle.places.proofs.Words.{first_same}
use Rattle.events.specs.Lists.{list_at, set_list}
use Rattle.events.specs.Result.{router_place}
use Rattle.events.proofs.Sought.{sought_word}
use Rattle.configuring.specs.Configuring.{new_router, configure_checks, configure_refusal, remove_refusal}
use Rattle.configuring.proofs.Configures.{configure_most, never_full}
use Rattle.histories.specs.Histories.{Call, configure, remove, startup, shutdown, clock, packet, Given, Memory, called}
use Rattle.histories.specs.Histories.{after, begun, GivenAll}
use Rattle.histories.specs.Standing.{Standing, removes, NotRemoved}
use Rattle.histories.specs.Theorems.{ConfiguredStays}
use Rattle.histories.proofs.Begun.{empty_held}
use Rattle.histories.proofs.Does.{gone_by, call_does}
use Rattle.histories.proofs.Held.{Held}
use Rattle.histories.proofs.Histories.{call_held, history_held}
use Rattle.histories.proofs.Stays.{Still, does_long, as_it_was, still}

-- a virtual router by its number, which no other place has
only_test : (f : Found) (words : List ℕ) → Held words → (v p : ℕ) → p < 255 → get_or words (base_of p) 0 ≡ v → ¬ (v ≡ 0)
    → router_place words v ≡ f → f ≡ Some p
unfolding router_place
only_test None words held v p below w some e =
    absurd (missing words v (sym (ap (λ (t : Bool). cond t None (place_of words v)) (ne_eqb v 0 some)) ∙ e) p below w)
only_test (Some q) words held v p below w some e = other (cases_eq q p)
  where
    there : (q < 255) × (get_or words (base_of q) 0 ≡ v) × (v ≡ 0 → ⊥)
    there = sought_word words v q e

    other : (q ≡ p) ⊎ (q ≡ p → ⊥) → Some q ≡ Some p
    other (inl z) = ap Some z
    other (inr n) = absurd (some (sym there.1 ∙ held.unique q p there.0 below n (there.1 ∙ sym w)))

pub only_place : (words : List ℕ) → Held words → (v p : ℕ) → p < 255 → get_or words (base_of p) 0 ≡ v → ¬ (v ≡ 0)
    → router_place words v ≡ Some p
only_place words held v p below w some = only_test (router_place words v) words held v p below w some refl

-- a call that does not remove a virtual router leaves it where it stands
module _ (m : Memory) (held : Held m.words) (v p : ℕ) (at : router_place m.words v ≡ Some p) where
  abbrev StillBy : Call → Type 0
  StillBy call = Still m.words m.lists (called m call).words (called m call).lists v p

  some : ¬ (0 ≡ v)
  some z = (sought_word m.words v p at).2 (sym z)

  by : (call : Call) → ¬ (gone_by call ≡ v) → StillBy call
  by call other = still m.words m.lists held v p at (gone_by call) _ _ other (call_does m call held.long)

  -- a remove that is for it is refused
  remove_test : (s t : Bool) (u : ℕ) → eqb u v ≡ s → eqb (remove_refusal m.words u) 0 ≡ t → (s && t) ≡ false
      → StillBy (remove u)
  remove_test false t u e f n = by (remove u) (eqb-false u v e)
  remove_test true true u e f n = absurd cc
  remove_test true false u e f n =
      let unchanged : (called m (remove u)).words ≡ m.words = rw f in
      record {
        place = ap (λ (w : List ℕ). router_place w v) unchanged ∙ at;
        kept = rw unchanged (as_it_was (record_at m.words p));
        list = λ long n few. refl;
      }

  pub call_still : (call : Call) → removes v m call ≡ false → StillBy call
  call_still (configure u priority interval preempt addresses) n = by (configure u priority interval preempt addresses) some
  call_still (remove u) n = remove_test (eqb u v) (eqb (remove_refusal m.words u) 0) u refl refl n
  call_still (startup u room) n = by (startup u room) some
  call_still (shutdown u room) n = by (shutdown u room) some
  call_still (clock u d room) n = by (clock u d room) some
  call_still (packet bytes room) n = by (packet bytes room) some

-- it stands as it was configured
stands_on : (m : Memory) → Held m.words → length m.lists ≡ 16320 → (v priority interval : ℕ) (preempt : Bool)
    (addresses : List ℕ) (call : Call) → removes v m call ≡ false → Standing m v priority interval preempt addresses
    → Standing (called m call) v priority interval preempt addresses
stands_on m held long v priority interval preempt addresses call n s =
    let p = s.place in
    let t = call_still m held v p s.found call n in
    record {
      place = p;
      found = t.place;
      priority_is = t.kept.priority ∙ s.priority_is;
      interval_is = t.kept.interval ∙ s.interval_is;
      preempt_is = t.kept.preempt ∙ s.preempt_is;
      count_is = t.kept.count ∙ s.count_is;
      addresses_are =
          ap (λ (k : ℕ). list_at (called m call).lists p k) t.kept.count
          ∙ t.list long (record_at m.words p).count (omega (arith, (read_in_range m.words p).count))
          ∙ s.addresses_are;
    }

history_stands : (m : Memory) (rest : List Call) → GivenAll rest → Held m.words → length m.lists ≡ 16320
    → (v priority interval : ℕ) (preempt : Bool) (addresses : List ℕ) → NotRemoved v m rest
    → Standing m v priority interval preempt addresses → Standing (after m rest) v priority interval preempt addresses
history_stands m [] g held long v priority interval preempt addresses n s = s
history_stands m (call ∷ rest) g held long v priority interval preempt addresses n s =
    history_stands (called m call) rest g.1 (call_held m call g.0 held)
    (does_long m.words m.lists (gone_by call) _ _ long (call_does m call held.long)) v priority interval preempt addresses
    n.1 (stands_on m held long v priority interval preempt addresses call n.0 s)

history_long : (m : Memory) (history : List Call) → GivenAll history → Held m.words → length m.lists ≡ 16320
    → length (after m history).lists ≡ 16320
history_long m [] g held long = long
history_long m (call ∷ rest) g held long =
    history_long (called m call) rest g.1 (call_held m call g.0 held)
    (does_long m.words m.lists (gone_by call) _ _ long (call_does m call held.long))

-- "17 address bytes not a multiple of 4"
in_fours : (addresses : List ℕ) → address_bytes_wrong addresses ≡ false → 4 * (length addresses / 4) ≡ length addresses
unfolding address_bytes_wrong
in_fours addresses e =
    let n = length addresses in
    let most = two_passed (not (eqb (n % 4) 0) || eqb n 0) (ltb 64 n) e in
    let four = two_passed (not (eqb (n % 4) 0)) (eqb n 0) most.0 in
    omega (arith, eqb-true (n % 4) 0 (not-false (eqb (n % 4) 0) four.0))

-- the list that was configured is read back
list_back : (lists addresses : List ℕ) (p : ℕ) → p < 255 → length lists ≡ 16320 → length addresses ≤ 64
    → 4 * (length addresses / 4) ≡ length addresses → list_at (set_list lists p addresses) p (length addresses / 4) ≡ addresses
unfolding list_at set_list
list_back lists addresses p below long most fours =
    rw fours (part_same lists addresses (64 * p) (length addresses) (omega arith) refl)

-- where it is configured
module _ (m : Memory) (held : Held m.words) (v priority interval : ℕ) (preempt : Bool)
    (addresses : List ℕ) (given : Given (configure v priority interval preempt addresses))
    (none : configure_refusal m.words v priority interval addresses ≡ 0) where
  abbrev fresh : Router
  fresh = new_router v priority interval preempt (length addresses / 4)

  abbrev then : Memory
  then = called m (configure v priority interval preempt addresses)

  -- at the lowest free place
  pub fresh_at : (p : ℕ) → place_of m.words 0 ≡ Some p → (router_place then.words v ≡ Some p) × (record_at then.words p ≡ fresh)
  unfolding configure_refusal
  fresh_at p s =
      let checks = passed (configure_checks m.words v priority interval addresses) (omega arith) none in
      let most = configure_most m.words v priority interval addresses none in
      let below : p < 255 = omega (arith, (found m.words 0 p s).below) in
      let words : then.words ≡ set_record m.words p fresh = rw (none, s) in
      let first : get_or then.words (base_of p) 0 ≡ v
      = ap (λ (w : List ℕ). get_or w (base_of p) 0) words ∙ first_same m.words p fresh below held.long in (
        only_place then.words (call_held m (configure v priority interval preempt addresses) given held) v p below first
            (eqb-false v 0 checks.0),
        ap (λ (w : List ℕ). record_at w p) words
            ∙ record_same m.words p fresh below held.long
            (record { vrid = given.0; priority = given.1; interval = given.2; count = omega arith }),
      )

  begins_at : (f : Found) → length m.lists ≡ 16320 → place_of m.words 0 ≡ f
      → Standing then v priority interval preempt addresses
  unfolding configure_refusal
  begins_at None long s = absurd (never_full m.words v priority interval addresses none s)
  begins_at (Some p) long s =
      let checks = passed (configure_checks m.words v priority interval addresses) (omega arith) none in
      let most = configure_most m.words v priority interval addresses none in
      let below : p < 255 = omega (arith, (found m.words 0 p s).below) in
      let lists : then.lists ≡ set_list m.lists p addresses = rw (none, s) in
      let is_fresh = (fresh_at p s).1 in
      record {
        place = p;
        found = (fresh_at p s).0;
        priority_is = ap (λ (r : Router). r.priority) is_fresh;
        interval_is = ap (λ (r : Router). r.interval) is_fresh;
        preempt_is = ap (λ (r : Router). r.preempt) is_fresh;
        count_is = ap (λ (r : Router). r.count) is_fresh;
        addresses_are =
            ap (λ (k : ℕ). list_at then.lists p k) (ap (λ (r : Router). r.count) is_fresh)
            ∙ ap (λ (l : List ℕ). list_at l p (length addresses / 4)) lists
            ∙ list_back m.lists addresses p below long most (in_fours addresses checks.1.1.1.0);
      }

  configured_stands : length m.lists ≡ 16320 → Standing then v priority interval preempt addresses
  configured_stands long = begins_at (place_of m.words 0) long refl

pub configured_stays : ConfiguredStays
configured_stays primary lists history rest v priority interval preempt addresses long g given h none kept =
    let m = after (begun primary lists) history in
    let held = history_held (begun primary lists) history g (empty_held primary) in
    let lists_long = history_long (begun primary lists) history g (empty_held primary) long in
    let call = configure v priority interval preempt addresses in
    history_stands (called m call) rest h (call_held m call given held)
    (does_long m.words m.lists 0 _ _ lists_long (call_does m call held.long)) v priority interval preempt addresses kept
    (configured_stands m held v priority interval preempt addresses given none lists_long)
