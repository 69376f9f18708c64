-- Making an empty table, configuring and removing a virtual router (01, 'The table', 'Refusal numbers').
use Rattle.std.specs.Prelude.{ℕ, ◌/◌, ◌≡◌, List, [], ◌∷◌, ◌++◌, Bool, true, false, cond, not, eqb, length, replicate, Some, None}
use Rattle.wire.specs.Check.{Check, first_refusal}
use Rattle.writing.specs.Writing.{address_bytes_wrong}
use Rattle.states.specs.declared.record.State.TheVariants.{Initialize}
use Rattle.states.specs.declared.record.Counts.{Counts}
use Rattle.states.specs.declared.record.Router.{Router}
use Rattle.states.specs.Step.{state_number}
use Rattle.places.specs.Place.{Found, record_at, set_record, place_of}
use Rattle.events.specs.Lists.{set_list}
use Rattle.events.specs.Result.{router_place}
use Rattle.events.specs.Events.{no_router}

-- an empty table: a primary address, and every other word 0
unfoldable pub empty_of : ℕ → List ℕ
empty_of primary = primary ∷ replicate 4095 0

-- whether a place was found, and which; 0 where none was
abbrev pub is_found : Found → Bool
is_found (Some place) = true
is_found None = false

abbrev pub place_in : Found → ℕ
place_in (Some place) = place
place_in None = 0

-- "with counts at 0"
abbrev pub no_counts : Counts
no_counts = record { accepted = 0; became = 0; owner = 0; authentication = 0; list = 0; interval = 0 }

-- "starts in Initialize with counts at 0"
abbrev pub new_router : ℕ → ℕ → ℕ → Bool → ℕ → Router
new_router vrid priority interval preempt n =
    record {
      vrid = vrid;
      priority = priority;
      interval = interval;
      preempt = preempt;
      state = Initialize;
      timer = 0;
      count = n;
      counts = no_counts;
    }

-- a free place
abbrev pub freed : Router
freed = no_router

-- "14 VRID 0; 15 priority 0; 16 interval 0; 17 address bytes not a multiple of 4, none, or above 64", which no table decides
abbrev pub settings_checks : ℕ → ℕ → ℕ → List ℕ → List Check
settings_checks vrid priority interval addresses =
    (14, eqb vrid 0) ∷ ((15, eqb priority 0) ∷ ((16, eqb interval 0) ∷ ((17, address_bytes_wrong addresses) ∷ [])))

unfoldable pub settings_refusal : ℕ → ℕ → ℕ → List ℕ → ℕ
settings_refusal vrid priority interval addresses = first_refusal (settings_checks vrid priority interval addresses)

-- then "18 VRID already in the table; 19 no free place": "Configuring checks 14 to 19 in that order"
abbrev pub configure_checks : List ℕ → ℕ → ℕ → ℕ → List ℕ → List Check
configure_checks words vrid priority interval addresses =
    settings_checks vrid priority interval addresses
    ++ ((18, is_found (place_of words vrid)) ∷ ((19, not (is_found (place_of words 0))) ∷ []))

unfoldable pub configure_refusal : List ℕ → ℕ → ℕ → ℕ → List ℕ → ℕ
configure_refusal words vrid priority interval addresses =
    first_refusal (configure_checks words vrid priority interval addresses)

-- "Configuring takes the lowest free place": the words afterwards
abbrev pub configured_words : List ℕ → ℕ → ℕ → ℕ → Bool → List ℕ → List ℕ
configured_words words vrid priority interval preempt addresses =
    cond (eqb (configure_refusal words vrid priority interval addresses) 0)
    (set_record words (place_in (place_of words 0)) (new_router vrid priority interval preempt (length addresses / 4)))
    words

-- and the address lists
abbrev pub configured_lists : List ℕ → List ℕ → ℕ → ℕ → ℕ → List ℕ → List ℕ
configured_lists words lists vrid priority interval addresses =
    cond (eqb (configure_refusal words vrid priority interval addresses) 0)
    (set_list lists (place_in (place_of words 0)) addresses)
    lists

-- the promise of configuring: the answer, the words and the address lists
pub record Configured (words lists : List ℕ) (vrid priority interval : ℕ) (preempt : Bool) (addresses : List ℕ)
    (answer : ℕ) (after lists_after : List ℕ) : Type 0 where
  pub answer_is : answer ≡ configure_refusal words vrid priority interval addresses
  pub words_are : after ≡ configured_words words vrid priority interval preempt addresses
  pub lists_are : lists_after ≡ configured_lists words lists vrid priority interval addresses

-- "remove 20 then 21": VRID not in the table; remove outside Initialize
abbrev pub remove_checks : List ℕ → ℕ → List Check
remove_checks words vrid =
    (20, not (is_found (router_place words vrid)))
    ∷ ((21, not (eqb (state_number (record_at words (place_in (router_place words vrid))).state) 0)) ∷ [])

unfoldable pub remove_refusal : List ℕ → ℕ → ℕ
remove_refusal words vrid = first_refusal (remove_checks words vrid)

-- "Removing frees the place for use again": the words afterwards
abbrev pub removed_words : List ℕ → ℕ → List ℕ
removed_words words vrid =
    cond (eqb (remove_refusal words vrid) 0) (set_record words (place_in (router_place words vrid)) freed) words

-- the promise of removing
pub record Removed (words : List ℕ) (vrid answer : ℕ) (after : List ℕ) : Type 0 where
  pub answer_is : answer ≡ remove_refusal words vrid
  pub words_are : after ≡ removed_words words vrid
