-- A station just configured, and the empty table with that router configured.
-- Assumes nothing.
use mathlib.Core.Path.{◌≡◌, refl, sym, ap, ◌∙◌}
use mathlib.Core.List.{List, ◌∷◌, ◌++◌, append_assoc}
use mathlib.Core.Bool.{Bool, true, false, cond, not}
use Prim.Native.Nat.{ℕ, ◌+◌, ◌/◌, ◌≤◌, ◌<◌}
use native.Mathlib.Nat.{zero-add}
use native.Mathlib.Omega.{arith}
use lib.Dec.{eqb}
use lib.ListN.{length, get_or, drop, replicate, length-append, length-drop, replicate-append-replicate}
use lib.Seq.{take_all, drop-append-le}
use borrow.Author.Tests.{ne_eqb, eqb-true, eqb-false}
use Rattle.states.specs.declared.record.Router.{Router}
use Rattle.places.specs.Place.{Found, base_of, set_record, place_of}
use Rattle.std.specs.Prelude.{Some, None}
use Rattle.places.specs.Layout.{encode_of}
use Rattle.places.proofs.Finding.{find_hit, found}
use Rattle.events.specs.Lists.{set_list}
use Rattle.events.specs.Result.{done, refusal}
use Rattle.configuring.specs.Configuring.{empty_of, new_router, freed, configure_refusal}
use Rattle.histories.proofs.Begun.{empty_record, empty_held}
use Rattle.station.specs.Station.{has_router, station_of}
use Rattle.station.specs.Making.{Made, station_refusal, addresses_in, made_of}
use Rattle.in_tables.specs.Tables.{words_of, lists_of, WellFormed}
use Rattle.in_tables.specs.Theorems.{MadeInTable, MadeWellFormed, RefusedStation}
use Rattle.station.proofs.Made.{made_most, made_named}
use Rattle.in_tables.proofs.Tables.{store_first}

abbrev zeros : ℕ → List ℕ
zeros n = replicate n 0

-- zeros behind zeros
zeros_are : (m n k : ℕ) → m + n ≡ k → zeros m ++ zeros n ≡ zeros k
zeros_are m n k e = replicate-append-replicate m n 0 ∙ ap zeros e

zero_lists : zeros 64 ++ zeros 16256 ≡ zeros 16320
zero_lists = zeros_are 64 16256 16320 (omega arith)

-- where nothing is refused, the address bytes stand in the first list
first_list : (addresses : List ℕ) → length addresses ≤ 64
    → addresses_in addresses ++ zeros 16256 ≡ set_list (zeros 16320) 0 addresses
unfolding set_list
first_list addresses most =
    let n = length addresses in
    let short : n ≤ length (zeros 64) = omega arith in
    let back = drop-append-le n (zeros 64) (zeros 16256) short in
    append_assoc addresses (drop n (zeros 64)) (zeros 16256)
    ∙ rw (← back, zero_lists, zero-add n, take_all n addresses (omega arith))

module _ (primary : ℕ) where
  -- a station with no router is an empty table
  blank_words : words_of (station_of primary freed (zeros 64)) ≡ empty_of primary
  unfolding words_of empty_of encode_of
  blank_words =
      ap (λ (l : List ℕ). primary ∷ l)
      (ap (λ (l : List ℕ). zeros 15 ++ l) (zeros_are 16 4064 4080 (omega arith))
      ∙ zeros_are 15 4080 4095 (omega arith))

  blank_lists : lists_of (station_of primary freed (zeros 64)) ≡ zeros 16320
  unfolding lists_of
  blank_lists = zero_lists

  -- every place is free
  free_word : (p : ℕ) → p < 255 → get_or (empty_of primary) (base_of p) 0 ≡ 0
  free_word p h = ((empty_held primary).sound p h).named ∙ ap (λ (r : Router). r.vrid) (empty_record primary p h)

  first_free : place_of (empty_of primary) 0 ≡ Some 0
  unfolding place_of
  first_free = find_hit (empty_of primary) 0 0 (omega arith) (free_word 0 (omega arith))

  none_there : (f : Found) (v : ℕ) → ¬ (v ≡ 0) → place_of (empty_of primary) v ≡ f → f ≡ None
  none_there None v n e = refl
  none_there (Some p) v n e =
      let l = found (empty_of primary) v p e in
      let below : p < 255 = omega (arith, l.below) in
      absurd (n (sym l.word ∙ free_word p below))

  module _ (v priority interval : ℕ) (addresses : List ℕ) where
    refusal_test : (t : Bool) → eqb v 0 ≡ t
        → configure_refusal (empty_of primary) v priority interval addresses
        ≡ station_refusal v priority interval addresses
    unfolding configure_refusal station_refusal
    refusal_test true e = rw e
    refusal_test false e =
        rw (none_there (place_of (empty_of primary) v) v (eqb-false v 0 e) refl, first_free)

    -- 18 and 19 are never due
    same_refusal : configure_refusal (empty_of primary) v priority interval addresses
        ≡ station_refusal v priority interval addresses
    same_refusal = refusal_test (eqb v 0) refl

-- the number, the words and the lists, by whether it is refused
module _ (primary : ℕ) (r : Router) (addresses : List ℕ) (number : ℕ) where
  abbrev made : Made
  made = record { answer = done 0 0; station = station_of primary r (addresses_in addresses) }

  abbrev unmade : Made
  unmade = record { answer = refusal number; station = station_of primary freed (zeros 64) }

  number_test : (t : Bool) → eqb number 0 ≡ t → (cond t made unmade).answer.number ≡ number
  number_test true e = sym (eqb-true number 0 e)
  number_test false e = refl

  -- the words of a table say nothing of addresses
  same_words : words_of made.station ≡ words_of (station_of primary r (zeros 64))
  unfolding words_of
  same_words = refl

  words_test : (t : Bool)
      → words_of (cond t made unmade).station ≡ cond t (set_record (empty_of primary) 0 r) (empty_of primary)
  words_test true =
      same_words ∙ sym (store_first (station_of primary freed (zeros 64)) refl r)
      ∙ ap (λ (words : List ℕ). set_record words 0 r) (blank_words primary)
  words_test false = blank_words primary

  lists_test : (t : Bool) → (t ≡ true → length addresses ≤ 64)
      → lists_of (cond t made unmade).station ≡ cond t (set_list (zeros 16320) 0 addresses) (zeros 16320)
  unfolding lists_of
  lists_test true most = first_list addresses (most refl)
  lists_test false most = blank_lists primary

  -- whether it has a router, and that it is well formed
  router_test : (t : Bool) → (t ≡ true → ¬ (r.vrid ≡ 0)) → has_router (cond t made unmade).station ≡ t
  router_test true named = ap not (ne_eqb r.vrid 0 (named refl))
  router_test false named = refl

  well_formed_test : (t : Bool) → (t ≡ true → length addresses ≤ 64) → r.vrid < 256 → r.priority < 256
      → r.interval < 256 → r.count ≡ length addresses / 4 → WellFormed (cond t made unmade).station
  well_formed_test true most a b c d =
      let n = length addresses in
      let few : n ≤ 64 = most refl in
      record {
        vrid = a;
        priority = b;
        interval = c;
        count = omega arith;
        refusals = refl;
        addresses = omega (arith, length-append addresses (drop n (zeros 64)), length-drop n (zeros 64));
      }
  well_formed_test false most a b c d = omega arith

pub made_in_table : MadeInTable
unfolding made_of
made_in_table v priority interval preempt primary addresses =
    let number = station_refusal v priority interval addresses in
    let r = new_router v priority interval preempt (length addresses / 4) in
    rw (same_refusal primary v priority interval addresses, first_free primary) (
      number_test primary r addresses number (eqb number 0) refl,
      words_test primary r addresses number (eqb number 0),
      lists_test primary r addresses number (eqb number 0)
          (λ t. made_most v priority interval addresses (eqb-true number 0 t)),
    )

pub made_well_formed : MadeWellFormed
unfolding made_of
made_well_formed v priority interval preempt primary addresses a b c =
    let number = station_refusal v priority interval addresses in
    let r = new_router v priority interval preempt (length addresses / 4) in
    well_formed_test primary r addresses number (eqb number 0)
    (λ t. made_most v priority interval addresses (eqb-true number 0 t)) a b c refl

pub refused_station : RefusedStation
unfolding made_of
refused_station v priority interval preempt primary addresses =
    let number = station_refusal v priority interval addresses in
    let r = new_router v priority interval preempt (length addresses / 4) in (
      router_test primary r addresses number (eqb number 0)
          (λ t. made_named v priority interval addresses (eqb-true number 0 t)),
      λ refused. rw (ne_eqb number 0 refused) (blank_words primary, blank_lists primary),
    )
