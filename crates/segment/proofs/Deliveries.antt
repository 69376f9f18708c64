-- Deliveries on a segment: what one does to each station's state, and what a list of them comes to.
-- Assumes nothing.
use mathlib.Core.Path.{◌≡◌, refl, sym, ap, subst, ◌∙◌}
use mathlib.Core.Logic.{◌⊎◌, inl, inr}
use mathlib.Core.List.{List}
use mathlib.Core.Bool.{cond}
use Prim.Native.Nat.{ℕ, ◌<◌}
use lib.Dec.{eqb}
use lib.ListN.{length, length-set}
use lib.Seq.{get_or-set_same, get_or-set_other}
use borrow.Author.Tests.{ne_eqb}
use Rattle.states.specs.declared.step.Event.TheVariants.{Packet}
use Rattle.states.specs.Step.{step_in}
use Rattle.router.specs.Accept.{accepted_of}
use Rattle.histories.specs.Histories.{packet, Memory, called}
use Rattle.std.proofs.lemmas.Bool.{cases_eq}
use Rattle.segment.specs.Segment.{router_of, primary_address, IsMaster, Stands, station_at, Segment}
use Rattle.segment.specs.Segment.{Outranks, Delivery, handed_over}
use Rattle.segment.proofs.Standing.{On}
use Rattle.segment.proofs.Handing.{told, handed}
use Rattle.segment.proofs.States.{never_made, steps_down, stands_fast}
use Rattle.segment.proofs.Reached.{stands_on, advertised, vrid_small, interval_small, priority_small, priority_some}
use Rattle.segment.proofs.Reached.{primary_small, list_small, list_right}

module _ (vrid interval : ℕ) (addresses : List ℕ) (then : List Memory) (segment : Segment vrid interval addresses then) where
  abbrev pub priority_of : ℕ → ℕ
  priority_of i = (router_of vrid (station_at then i)).priority

  abbrev pub address_of : ℕ → ℕ
  address_of i = primary_address (station_at then i)

  -- after some deliveries every station stands on the segment as it did
  pub record Standing (now : List Memory) : Type 0 where
    pub same : length now ≡ length then
    pub on : (i : ℕ) → i < length then → On vrid interval addresses (address_of i) (priority_of i) (station_at now i)

  pub begins : Standing then
  begins = record { same = refl; on = λ i l. stands_on vrid interval addresses (station_at then i) (segment.each i l) }

  -- one delivery
  module _ (now : List Memory) (standing : Standing now) (d : Delivery) (sender : d.from < length then)
      (receiver : d.to < length then) where
    abbrev next : List Memory
    next = handed_over vrid then now d

    abbrev here : Memory
    here = station_at now d.to

    abbrev hears : List ℕ → Memory
    hears bytes = called here (packet bytes d.room)

    -- every other station is as it was
    pub other : (i : ℕ) → (i ≡ d.to → ⊥) → station_at next i ≡ station_at now i
    other i e = get_or-set_other now d.to i _ _ e

    stands : Stands vrid interval addresses (station_at then d.from)
    stands = segment.each d.from sender

    heard : station_at next d.to ≡ hears (told vrid interval addresses (priority_of d.from) (address_of d.from))
    heard =
        get_or-set_same now d.to _ _ (subst (λ (k : ℕ). d.to < k) (sym standing.same) receiver)
        ∙ ap hears (advertised vrid interval addresses (station_at then d.from) stands)

    abbrev After : Memory → Type 0
    After m =
        On vrid interval addresses (address_of d.to) (priority_of d.to) m
        × ((router_of vrid m).state
        ≡ cond (eqb (priority_of d.to) 255) (router_of vrid here).state
        (step_in (router_of vrid here).state (Packet (priority_of d.from) (address_of d.from)) (address_of d.to)
        (accepted_of (router_of vrid here))).router.state)

    next_is : After (station_at next d.to)
    next_is =
        let m = station_at then d.from in
        subst After (sym heard)
        (handed vrid interval addresses (priority_of d.from) (address_of d.from) (list_small vrid interval addresses m stands)
        (list_right vrid interval addresses m stands) (vrid_small vrid interval addresses m stands)
        (interval_small vrid interval addresses m stands) (priority_small vrid interval addresses m stands)
        (primary_small vrid interval addresses m stands) (priority_some vrid interval addresses m stands)
        (address_of d.to) (priority_of d.to) here (standing.on d.to receiver) d.room)

    on_test : (i : ℕ) → i < length then → (i ≡ d.to) ⊎ (i ≡ d.to → ⊥)
        → On vrid interval addresses (address_of i) (priority_of i) (station_at next i)
    on_test i l (inl e) =
        subst (λ (k : ℕ). On vrid interval addresses (address_of k) (priority_of k) (station_at next k)) (sym e) next_is.0
    on_test i l (inr e) =
        subst (On vrid interval addresses (address_of i) (priority_of i)) (sym (other i e)) (standing.on i l)

    pub goes_on : Standing next
    goes_on =
        record {
          same = length-set now d.to _ ∙ standing.same;
          on = λ i l. on_test i l (cases_eq i d.to);
        }

    -- a delivery never makes a Master
    made_test : (i : ℕ) → (i ≡ d.to) ⊎ (i ≡ d.to → ⊥) → IsMaster vrid (station_at next i) → IsMaster vrid (station_at now i)
    made_test i (inl e) h =
        subst (λ (k : ℕ). IsMaster vrid (station_at now k)) (sym e)
        (never_made (address_of d.to) (router_of vrid here) (priority_of d.from) (address_of d.from)
        (eqb (priority_of d.to) 255) (router_of vrid here).state refl
        (sym next_is.1 ∙ subst (λ (k : ℕ). IsMaster vrid (station_at next k)) e h))
    made_test i (inr e) h = subst (IsMaster vrid) (other i e) h

    pub makes_none : (i : ℕ) → IsMaster vrid (station_at next i) → IsMaster vrid (station_at now i)
    makes_none i h = made_test i (cases_eq i d.to) h

    -- a Master that no sender outranks stays Master
    abbrev BeatsHere : Type 0
    BeatsHere = Outranks vrid (station_at then d.from) (station_at then d.to)

    owner_or_not : (router_of vrid here).priority ≡ priority_of d.to
    owner_or_not = (standing.on d.to receiver).priority_is

    fast_here : (BeatsHere → ⊥) → IsMaster vrid here → IsMaster vrid (station_at next d.to)
    fast_here n h =
        next_is.1
        ∙ stands_fast (address_of d.to) (router_of vrid here) (priority_of d.from) (address_of d.from)
        (eqb (priority_of d.to) 255) (router_of vrid here).state refl h
        (priority_some vrid interval addresses (station_at then d.from) stands)
        (λ b. n (rw owner_or_not at b))

    fast_test : (i : ℕ) → (i ≡ d.to) ⊎ (i ≡ d.to → ⊥) → (Outranks vrid (station_at then d.from) (station_at then i) → ⊥)
        → IsMaster vrid (station_at now i) → IsMaster vrid (station_at next i)
    fast_test i (inl e) n h =
        subst (λ (k : ℕ). IsMaster vrid (station_at next k)) (sym e)
        (fast_here (subst (λ (k : ℕ). Outranks vrid (station_at then d.from) (station_at then k) → ⊥) e n)
        (subst (λ (k : ℕ). IsMaster vrid (station_at now k)) e h))
    fast_test i (inr e) n h = subst (IsMaster vrid) (sym (other i e)) h

    -- one that the sender outranks steps down, unless it is the owner
    pub goes_down : (priority_of d.to ≡ 255 → ⊥) → BeatsHere → IsMaster vrid (station_at next d.to) → ⊥
    goes_down n b h =
        let was = makes_none d.to h in
        let s = rw (ne_eqb (priority_of d.to) 255 n) at next_is.1 in
        steps_down (address_of d.to) (router_of vrid here) (priority_of d.from) (address_of d.from)
        (router_of vrid here).state refl was (priority_some vrid interval addresses (station_at then d.from) stands)
        (rw (← owner_or_not) at b) (sym s ∙ h)

    pub stands_up : (i : ℕ) → (Outranks vrid (station_at then d.from) (station_at then i) → ⊥)
        → IsMaster vrid (station_at now i) → IsMaster vrid (station_at next i)
    stands_up i n h = fast_test i (cases_eq i d.to) n h
