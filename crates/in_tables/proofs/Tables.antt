-- The table of one station: its words, its one router, and what storing and counting do to it.
-- Assumes nothing.
use mathlib.Core.Path.{◌≡◌, refl, sym, ap, subst, ◌∙◌}
use mathlib.Core.List.{List, [], ◌∷◌, ◌++◌, append_assoc}
use Prim.Native.Nat.{ℕ, zero, suc, ◌+◌, ◌-◌, ◌*◌, ◌%◌, ◌≤◌, ◌<◌}
use native.Mathlib.Nat.{mod-eq_of_lt, zero-add, suc-add}
use native.Mathlib.Omega.{arith}
use lib.ListN.{length, get_or, set, take, drop, replicate}
use lib.ListN.{length-append, length-replicate, get_or-replicate, get_or-append}
use lib.Seq.{paste, take_at, drop_at, take_all, drop-drop, take-append-le, get_or-drop, get_or-append-add, set-append_left}
use borrow.Author.Tests.{ne_eqb}
use Rattle.states.specs.declared.record.State.{State}
use Rattle.states.specs.declared.record.State.TheVariants.{Initialize, Backup, Master}
use Rattle.states.specs.declared.record.Router.{Router}
use Rattle.states.specs.Step.{state_number, counted}
use Rattle.states.proofs.Kept.{Unchanged}
use Rattle.router.specs.Accept.{refused_of}
use Rattle.places.specs.Place.{Found, base_of, primary_of, record_at, set_record, state_word, set_event, place_of}
use Rattle.std.specs.Prelude.{Some, None}
use Rattle.places.specs.Layout.{encode_of, InRange}
use Rattle.places.specs.Place.{count_word, count_refusal, count_at_place}
use Rattle.places.proofs.Finding.{find_hit}
use Rattle.places.proofs.Records.{encode_length, record_same}
use Rattle.places.proofs.Words.{first_same}
use Rattle.events.specs.Lists.{list_at}
use Rattle.events.specs.Result.{router_place}
use Rattle.events.proofs.Sought.{sought_word}
use Rattle.station.specs.declared.station.Station.{Station}
use Rattle.station.specs.Station.{list_of, with_router}
use Rattle.hearing.specs.Hearing.{counted_by}
use Rattle.in_tables.specs.Tables.{interface_of, words_of, lists_of, WellFormed}

-- what is pasted over the middle one of three lists takes its place
paste_middle : (a b z c : List ℕ) (m n : ℕ) → length a ≡ m → length b ≡ n → length c ≡ n
    → paste (a ++ (b ++ z)) m c n ≡ a ++ (c ++ z)
paste_middle a b z c m n la lb lc =
    let whole = a ++ (b ++ z) in
    let front = take_at a (b ++ z) m la in
    let middle = take_all n c (omega arith) in
    let back = sym (drop-drop n m whole) ∙ ap (drop n) (drop_at a (b ++ z) m la) ∙ drop_at b z n lb in
    rw (front, middle, back) (append_assoc a c z)

-- behind them stand zeros
zero_behind : (a b : List ℕ) (m n k i : ℕ) → length a ≡ m → length b ≡ n → i < k
    → get_or (a ++ (b ++ replicate k 0)) (m + n + i) 0 ≡ 0
zero_behind a b m n k i la lb h =
    let zeros : List ℕ = replicate k 0 in
    let whole = a ++ (b ++ zeros) in
    let back = sym (drop-drop n m whole) ∙ ap (drop n) (drop_at a (b ++ zeros) m la) ∙ drop_at b zeros n lb in
    sym (get_or-drop (m + n) whole i 0) ∙ ap (λ (l : List ℕ). get_or l i 0) back ∙ get_or-replicate k i 0 0 h

-- what is set behind the first of two lists is set in the second
set_behind : (a b : List ℕ) (k v : ℕ) → set (a ++ b) (length a + k) v ≡ a ++ set b k v
set_behind [] b k v = ap (λ (n : ℕ). set b n v) (zero-add k)
set_behind (x ∷ a) b k v =
    ap (λ (n : ℕ). set (x ∷ (a ++ b)) n v) (suc-add (length a) k) ∙ ap (λ (l : List ℕ). x ∷ l) (set_behind a b k v)

-- one more in the front one of two lists, behind a first number
count_front : (x : ℕ) (a b z : List ℕ) (k : ℕ) → k < length a
    → set (x ∷ (a ++ b ++ z)) (suc k) (counted (get_or (x ∷ (a ++ b ++ z)) (suc k) 0))
    ≡ x ∷ (set a k (counted (get_or a k 0)) ++ b ++ z)
count_front x a b z k h =
    let inside : k < length (a ++ b) = omega (arith, length-append a b) in
    let v = counted (get_or a k 0) in
    let read = get_or-append (a ++ b) z 0 k inside ∙ get_or-append a b 0 k h in
    let stored = set-append_left (a ++ b) z k v inside ∙ ap (λ (l : List ℕ). l ++ z) (set-append_left a b k v h) in
    ap (λ (l : List ℕ). x ∷ l) (ap (λ (n : ℕ). set (a ++ b ++ z) k (counted n)) read ∙ stored)

-- a state's word, where that of another stood
state_word_lem : (before after : State) → state_word (state_number before) after ≡ state_number after
state_word_lem Initialize Initialize = refl
state_word_lem Initialize Backup = refl
state_word_lem Initialize Master = refl
state_word_lem Backup Initialize = refl
state_word_lem Backup Backup = refl
state_word_lem Backup Master = refl
state_word_lem Master Initialize = refl
state_word_lem Master Backup = refl
state_word_lem Master Master = refl

module _ (r : Router) (z : List ℕ) where
  -- a router that only an event changed has other words for its state, its timer and two counts
  event_words : (after : Router) → Unchanged r after
      → set
      (set (set (set (encode_of r ++ z) 4 (state_number after.state)) 5 after.timer) 7 after.counts.accepted)
      8
      after.counts.became
      ≡ encode_of after ++ z
  unfolding encode_of
  event_words after u =
      let k = u.kept in
      rw (
        k.vrid,
        k.priority,
        k.interval,
        k.preempt,
        k.count,
        u.owner,
        u.authentication,
        u.list_count,
        u.interval_count,
      )

  -- and one that refused a packet, for that count
  count_words : (k : ℕ) → k < 4 → count_word (encode_of r ++ z) (10 + k - 1) ≡ encode_of (refused_of r (10 + k)) ++ z
  unfolding encode_of
  count_words zero h = refl
  count_words (suc zero) h = refl
  count_words (suc (suc zero)) h = refl
  count_words (suc (suc (suc zero))) h = refl
  count_words (suc (suc (suc (suc k)))) h = absurd (omega arith)

-- the first place's words stand behind the interface's 16
module _ (a : List ℕ) (long : length a ≡ 16) where
  get_first : (l : List ℕ) (k : ℕ) → get_or (a ++ l) (16 + k) 0 ≡ get_or l k 0
  get_first l k = subst (λ (n : ℕ). get_or (a ++ l) (n + k) 0 ≡ get_or l k 0) long (get_or-append-add a l k 0)

  set_first : (l : List ℕ) (k v : ℕ) → set (a ++ l) (16 + k) v ≡ a ++ set l k v
  set_first l k v = subst (λ (n : ℕ). set (a ++ l) (n + k) v ≡ a ++ set l k v) long (set_behind a l k v)

  event_there : (r after : Router) (z : List ℕ) → Unchanged r after
      → set_event (a ++ (encode_of r ++ z)) 0 after ≡ a ++ (encode_of after ++ z)
  unfolding set_event encode_of
  event_there r after z u =
      rw (
        get_first (encode_of r ++ z) 4,
        state_word_lem r.state after.state,
        set_first (encode_of r ++ z) 4 (state_number after.state),
        set_first _ 5 after.timer,
        set_first _ 7 after.counts.accepted,
        set_first _ 8 after.counts.became,
        event_words r z after u,
      )

  count_there : (r : Router) (z : List ℕ) (number : ℕ) → 10 ≤ number → number ≤ 13
      → count_at_place (a ++ (encode_of r ++ z)) 0 number ≡ a ++ (encode_of (refused_of r number) ++ z)
  unfolding count_at_place
  count_there r z number least most =
      let e : 10 + (number - 10) ≡ number = omega arith in
      let counts = subst (λ (n : ℕ). count_word (encode_of r ++ z) (n - 1) ≡ encode_of (refused_of r n) ++ z) e
      (count_words r z (number - 10) (omega arith)) in
      rw (get_first (encode_of r ++ z) (number - 1), set_first (encode_of r ++ z) (number - 1) _, counts)

module _ (s : Station) (nine : length s.refusals ≡ 9) where
  interface_length : length (interface_of s) ≡ 16
  interface_length = omega (arith, length-append s.refusals (replicate 6 0))

  -- storing a record at the first place is storing it in the station
  pub store_first : (r : Router) → set_record (words_of s) 0 r ≡ words_of (with_router s r)
  unfolding words_of set_record
  store_first r =
      paste_middle (interface_of s) (encode_of s.router) (replicate 4064 0) (encode_of r) 16 16 interface_length
      (encode_length s.router) (encode_length r)

  -- and so is storing what an event changed of the router
  pub event_first : (r : Router) → Unchanged s.router r → set_event (words_of s) 0 r ≡ words_of (with_router s r)
  unfolding words_of
  event_first r u = event_there (interface_of s) interface_length s.router r (replicate 4064 0) u

  -- counting a refusal of 10 to 13 is counting it in the station's router
  pub refused_first : (number : ℕ) → 10 ≤ number → number ≤ 13
      → count_at_place (words_of s) 0 number ≡ words_of (with_router s (refused_of s.router number))
  unfolding words_of
  refused_first number least most =
      count_there (interface_of s) interface_length s.router (replicate 4064 0) number least most

module _ (s : Station) (w : WellFormed s) where
  words_length : length (words_of s) ≡ 4096
  unfolding words_of
  words_length =
      omega (
        arith,
        interface_length s w.refusals,
        encode_length s.router,
        length-append (interface_of s) (encode_of s.router ++ replicate 4064 0),
        length-append (encode_of s.router) (replicate 4064 0),
        length-replicate {A = ℕ} 4064 0,
      )

  in_range : InRange s.router
  in_range = record { vrid = w.vrid; priority = w.priority; interval = w.interval; count = w.count }

  -- the record at the first place is the station's router
  pub first_record : record_at (words_of s) 0 ≡ s.router
  first_record =
      ap (λ (x : List ℕ). record_at x 0) (sym (store_first s w.refusals s.router))
      ∙ record_same (words_of s) 0 s.router (omega arith) words_length in_range

  first_word : get_or (words_of s) (base_of 0) 0 ≡ s.router.vrid
  first_word =
      ap (λ (x : List ℕ). get_or x (base_of 0) 0) (sym (store_first s w.refusals s.router))
      ∙ first_same (words_of s) 0 s.router (omega arith) words_length

  pub primary_is : primary_of (words_of s) ≡ s.primary
  unfolding words_of primary_of
  primary_is = refl

  -- it is found there
  pub found_first : ¬ (s.router.vrid ≡ 0) → router_place (words_of s) s.router.vrid ≡ Some 0
  unfolding router_place place_of
  found_first named =
      rw (ne_eqb s.router.vrid 0 named)
      (find_hit (words_of s) s.router.vrid 0 (omega arith) first_word)

  free_word : (p : ℕ) → p < 254 → get_or (words_of s) (base_of (suc p)) 0 ≡ 0
  unfolding words_of
  free_word p h =
      let e : base_of (suc p) ≡ 16 + 16 + 16 * p = omega arith in
      ap (λ (k : ℕ). get_or (words_of s) k 0) e
      ∙ zero_behind (interface_of s) (encode_of s.router) 16 16 4064 (16 * p) (interface_length s w.refusals)
      (encode_length s.router) (omega arith)

  -- and no other is found, nor any where there is none
  no_other : (v p : ℕ) → (v ≡ s.router.vrid → v ≡ 0) → p < 255 → get_or (words_of s) (base_of p) 0 ≡ v → v ≡ 0
  no_other v zero n h e = n (sym e ∙ first_word)
  no_other v (suc p) n h e = sym e ∙ free_word p (omega arith)

  pub nothing_else : (f : Found) (v : ℕ) → (v ≡ s.router.vrid → v ≡ 0) → router_place (words_of s) v ≡ f → f ≡ None
  nothing_else None v n e = refl
  nothing_else (Some p) v n e =
      let there = sought_word (words_of s) v p e in
      absurd (there.2 (no_other v p n there.0 there.1))

  -- its address list
  pub few : s.router.count % 17 ≡ s.router.count
  few = mod-eq_of_lt w.count

  pub first_list : list_at (lists_of s) 0 s.router.count ≡ list_of s
  unfolding list_at lists_of list_of
  first_list =
      let n = s.router.count in
      let most : 4 * n ≤ length s.addresses = omega (arith, w.count, w.addresses) in
      take-append-le (4 * n) s.addresses (replicate 16256 0) most
      ∙ ap (λ (k : ℕ). take (4 * k) s.addresses) (sym few)

  -- counting a refusal of 1 to 9 is counting it in the station
  pub count_first : (number : ℕ) → 1 ≤ number → number ≤ 9
      → count_refusal (words_of s) number ≡ words_of (counted_by s number)
  unfolding words_of count_refusal counted_by
  count_first number least most =
      let e : number ≡ suc (number - 1) = omega arith in
      ap (count_refusal (words_of s)) e
      ∙ count_front s.primary s.refusals (replicate 6 0) (encode_of s.router ++ replicate 4064 0) (number - 1)
      (omega (arith, w.refusals))
