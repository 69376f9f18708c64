-- A station of a segment: what its history leaves of it, and what a change of its router keeps.
-- Assumes nothing.
use mathlib.Core.Path.{◌≡◌, refl, sym, ap, ◌∙◌}
use mathlib.Core.List.{List}
use mathlib.Core.Bool.{true}
use Prim.Native.Nat.{ℕ, ◌≤◌, ◌<◌}
use lib.Dec.{eqb}
use lib.ListN.{get_or}
use Rattle.states.specs.declared.record.Router.{Router}
use Rattle.router.specs.Timed.{Timed}
use Rattle.places.specs.Place.{Found, base_of, record_at}
use Rattle.std.specs.Prelude.{Some, None}
use Rattle.places.proofs.Beside.{beside_first, beside_primary}
use Rattle.events.specs.Lists.{list_at}
use Rattle.events.specs.Result.{router_place}
use Rattle.configuring.specs.Configuring.{is_found, place_in}
use Rattle.histories.specs.Histories.{Sound, Memory}
use Rattle.events.proofs.Sought.{sought_word}
use Rattle.histories.proofs.Changed.{Changed}
use Rattle.histories.proofs.Held.{Held, changed_held}
use Rattle.histories.proofs.Stays.{same_router}
use Rattle.histories.specs.Rows.{place_for}
use Rattle.segment.specs.Segment.{router_of, addresses_of, primary_address}

-- how a station stands on a segment, whatever state it is in
pub record On (vrid interval : ℕ) (addresses : List ℕ) (primary priority : ℕ) (m : Memory) : Type 0 where
  pub held : Held m.words
  pub found : router_place m.words vrid ≡ Some (place_for m.words vrid)
  pub interval_is : (router_of vrid m).interval ≡ interval
  pub addresses_are : addresses_of vrid m ≡ addresses
  pub primary_is : primary_address m ≡ primary
  pub priority_is : (router_of vrid m).priority ≡ priority

-- its router is in use
module _ (vrid interval : ℕ) (addresses : List ℕ) (primary priority : ℕ) (m : Memory)
    (on : On vrid interval addresses primary priority m) where
  pub word : (place_for m.words vrid < 255) × (get_or m.words (base_of (place_for m.words vrid)) 0 ≡ vrid) × (vrid ≡ 0 → ⊥)
  word = sought_word m.words vrid (place_for m.words vrid) on.found

  pub on_sound : Sound m.words (place_for m.words vrid)
  on_sound = on.held.sound (place_for m.words vrid) word.0

  pub on_vrid : (router_of vrid m).vrid ≡ vrid
  on_vrid = sym on_sound.named ∙ word.1

  pub on_used : ¬ (get_or m.words (base_of (place_for m.words vrid)) 0 ≡ 0)
  on_used z = word.2 (sym word.1 ∙ z)

  pub on_configured : (1 ≤ (router_of vrid m).interval) × (1 ≤ (router_of vrid m).priority) × (1 ≤ (router_of vrid m).count)
      × ((router_of vrid m).count ≤ 16)
  on_configured = on_sound.configured on_used

pub found_is : (f : Found) → is_found f ≡ true → f ≡ Some (place_in f)
found_is (Some p) e = refl
found_is None e = absurd cc

-- where the segment's router changes and nothing else does, the station stands where it stood
module _ (vrid interval : ℕ) (addresses : List ℕ) (primary priority : ℕ) (m : Memory)
    (on : On vrid interval addresses primary priority m) (words : List ℕ) (r : Router)
    (changed : Changed (place_for m.words vrid) m.words words r) where
  abbrev place : ℕ
  place = place_for m.words vrid

  abbrev next : Memory
  next = record { words = words; lists = m.lists }

  found_same : router_place words vrid ≡ router_place m.words vrid
  found_same =
      same_router words m.words vrid
      (λ q. ap (λ (x : ℕ). eqb x vrid) (beside_first place m.words words changed.beside q))

  place_is : place_for words vrid ≡ place
  place_is = ap place_in found_same

  pub changed_router : router_of vrid next ≡ r
  changed_router = ap (record_at words) place_is ∙ changed.here

  same_list : addresses_of vrid next ≡ addresses_of vrid m
  same_list =
      ap (λ (k : ℕ). list_at m.lists k (router_of vrid next).count) place_is
      ∙ ap (λ (n : ℕ). list_at m.lists place n) (ap (λ (x : Router). x.count) changed_router ∙ changed.kept.count)

  pub changed_on : Timed r → On vrid interval addresses primary priority next
  changed_on timed =
      record {
        held =
            changed_held m.words words on.held place (word vrid interval addresses primary priority m on).0
            (on_used vrid interval addresses primary priority m on) r changed timed;
        found = found_same ∙ on.found ∙ ap Some (sym place_is);
        interval_is = ap (λ (x : Router). x.interval) changed_router ∙ changed.kept.interval ∙ on.interval_is;
        addresses_are = same_list ∙ on.addresses_are;
        primary_is = beside_primary place m.words words changed.beside ∙ on.primary_is;
        priority_is = ap (λ (x : Router). x.priority) changed_router ∙ changed.kept.priority ∙ on.priority_is;
      }
