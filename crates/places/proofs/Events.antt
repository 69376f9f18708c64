-- What storing an event's outcome at a place, or counting a refusal there, leaves: that in its own words, all else as it was.
-- Assumes nothing.
use Rattle.std.proofs.Common.{◌≡◌, ℕ, ◌+◌, ◌-◌, ◌%◌, ◌<◌, ◌≤◌, Bool, true, false, cond, eqb, List, length, get_or, take, drop, set, sym, refl, ap, ◌∙◌, arith, length-set, get_or-set_other, get_or-set_same, eqb-true}
use lib.Seq.{set-get_or}
use borrow.Author.Tests.{eqb-false}
use Rattle.states.specs.declared.record.State.{State}
use Rattle.states.specs.declared.record.State.TheVariants.{Initialize, Backup, Master}
use Rattle.states.specs.declared.record.Router.{Router}
use Rattle.states.specs.Step.{state_number, counted, with_state}
use Rattle.states.proofs.Kept.{Unchanged}
use Rattle.places.specs.Layout.{state_of, decode_of}
use Rattle.places.specs.Theorems.{with_event}
use Rattle.places.specs.Place.{base_of, record_at, state_word, set_event, router_word, count_at_place}
use Rattle.places.proofs.Beside.{Beside, beside_then, set_beside, part_word}
use Rattle.places.proofs.Records.{state_back}

-- the state that a word stands for afterwards
state_test : (t : Bool) (word : ℕ) (s : State) → eqb (state_number (state_of word)) (state_number s) ≡ t
    → state_of (cond t word (state_number s)) ≡ s
state_test true word s e =
    sym (state_back (state_of word))
    ∙ ap state_of (eqb-true (state_number (state_of word)) (state_number s) e)
    ∙ state_back s
state_test false word s e = state_back s

pub state_stored : (word : ℕ) (s : State) → state_of (state_word word s) ≡ s
state_stored word s = state_test (eqb (state_number (state_of word)) (state_number s)) word s refl

same_test : (t : Bool) (word : ℕ) → eqb (state_number (state_of word)) (state_number (state_of word)) ≡ t
    → cond t word (state_number (state_of word)) ≡ word
same_test true word e = refl
same_test false word e = absurd (eqb-false (state_number (state_of word)) (state_number (state_of word)) e refl)

module _ (words : List ℕ) (p : ℕ) (r : Router) where
  abbrev one : List ℕ
  one = set words (base_of p + 4) (state_word (get_or words (base_of p + 4) 0) r.state)

  abbrev two : List ℕ
  two = set one (base_of p + 5) r.timer

  abbrev three : List ℕ
  three = set two (base_of p + 7) r.counts.accepted

  pub event_beside : Beside p words (set_event words p r)
  unfolding set_event
  event_beside =
      beside_then p words one (set_event words p r) (set_beside p words 4 _ (omega arith) (omega arith))
      (beside_then p one two (set_event words p r) (set_beside p one 5 _ (omega arith) (omega arith))
      (beside_then p two three (set_event words p r) (set_beside p two 7 _ (omega arith) (omega arith))
      (set_beside p three 8 _ (omega arith) (omega arith))))

  module _ (below : p < 255) (long : length words ≡ 4096) where
    one_long : length one ≡ 4096
    one_long = length-set words _ _ ∙ long

    two_long : length two ≡ 4096
    two_long = length-set one _ _ ∙ one_long

    three_long : length three ≡ 4096
    three_long = length-set two _ _ ∙ two_long

    -- every other word of the place is as it was
    kept_word : (k : ℕ) → (k ≡ 4 → ⊥) → (k ≡ 5 → ⊥) → (k ≡ 7 → ⊥) → (k ≡ 8 → ⊥)
        → get_or (set_event words p r) (base_of p + k) 0 ≡ get_or words (base_of p + k) 0
    unfolding set_event
    kept_word k a b c d =
        get_or-set_other three (base_of p + 8) (base_of p + k) _ 0 (λ z. d (omega arith))
        ∙ get_or-set_other two (base_of p + 7) (base_of p + k) _ 0 (λ z. c (omega arith))
        ∙ get_or-set_other one (base_of p + 5) (base_of p + k) _ 0 (λ z. b (omega arith))
        ∙ get_or-set_other words (base_of p + 4) (base_of p + k) _ 0 (λ z. a (omega arith))

    state_word_lem : get_or (set_event words p r) (base_of p + 4) 0 ≡ state_word (get_or words (base_of p + 4) 0) r.state
    unfolding set_event
    state_word_lem =
        get_or-set_other three (base_of p + 8) (base_of p + 4) _ 0 (λ z. omega arith)
        ∙ get_or-set_other two (base_of p + 7) (base_of p + 4) _ 0 (λ z. omega arith)
        ∙ get_or-set_other one (base_of p + 5) (base_of p + 4) _ 0 (λ z. omega arith)
        ∙ get_or-set_same words (base_of p + 4) _ 0 (omega arith)

    timer_word : get_or (set_event words p r) (base_of p + 5) 0 ≡ r.timer
    unfolding set_event
    timer_word =
        get_or-set_other three (base_of p + 8) (base_of p + 5) _ 0 (λ z. omega arith)
        ∙ get_or-set_other two (base_of p + 7) (base_of p + 5) _ 0 (λ z. omega arith)
        ∙ get_or-set_same one (base_of p + 5) _ 0 (omega (arith, one_long))

    accepted_word : get_or (set_event words p r) (base_of p + 7) 0 ≡ r.counts.accepted
    unfolding set_event
    accepted_word =
        get_or-set_other three (base_of p + 8) (base_of p + 7) _ 0 (λ z. omega arith)
        ∙ get_or-set_same two (base_of p + 7) _ 0 (omega (arith, two_long))

    became_word : get_or (set_event words p r) (base_of p + 8) 0 ≡ r.counts.became
    unfolding set_event
    became_word = get_or-set_same three (base_of p + 8) _ 0 (omega (arith, three_long))

    -- the words of the event, and of the old record
    pub event_back : record_at (set_event words p r) p ≡ with_event (record_at words p) r
    unfolding record_at decode_of
    event_back =
        λ z.
        record {
          vrid = same 0 (omega arith) z % 256;
          priority = same 1 (omega arith) z % 256;
          interval = same 2 (omega arith) z % 256;
          preempt = eqb (same 3 (omega arith) z) 1;
          state = (ap state_of (read 4 (omega arith) ∙ state_word_lem) ∙ state_stored (get_or words (base_of p + 4) 0) r.state) z;
          timer = (read 5 (omega arith) ∙ timer_word) z;
          count = same 6 (omega arith) z % 17;
          counts =
              record {
                accepted = (read 7 (omega arith) ∙ accepted_word) z;
                became = (read 8 (omega arith) ∙ became_word) z;
                owner = same 9 (omega arith) z;
                authentication = same 10 (omega arith) z;
                list = same 11 (omega arith) z;
                interval = same 12 (omega arith) z;
              };
        }
      where
        read : (k : ℕ) → k < 16
            → get_or (take 16 (drop (base_of p) (set_event words p r))) k 0 ≡ get_or (set_event words p r) (base_of p + k) 0
        read k h = part_word (set_event words p r) p k h

        same : (k : ℕ) → (k < 16) × (k ≡ 4 → ⊥) × (k ≡ 5 → ⊥) × (k ≡ 7 → ⊥) × (k ≡ 8 → ⊥)
            → get_or (take 16 (drop (base_of p) (set_event words p r))) k 0 ≡ get_or (take 16 (drop (base_of p) words)) k 0
        same k h = read k h.0 ∙ kept_word k h.1 h.2 h.3 h.4 ∙ sym (part_word words p k h.0)

    -- a router that is configured as the one at the place, and whose packets were refused as often, is read back
    pub event_record : Unchanged (record_at words p) r → record_at (set_event words p r) p ≡ r
    event_record same_as =
        event_back
        ∙ (λ z.
        record {
          vrid = sym same_as.kept.vrid z;
          priority = sym same_as.kept.priority z;
          interval = sym same_as.kept.interval z;
          preempt = sym same_as.kept.preempt z;
          state = r.state;
          timer = r.timer;
          count = sym same_as.kept.count z;
          counts =
              record {
                accepted = r.counts.accepted;
                became = r.counts.became;
                owner = sym same_as.owner z;
                authentication = sym same_as.authentication z;
                list = sym same_as.list_count z;
                interval = sym same_as.interval_count z;
              };
        })

-- the words of the state and of the timer
pub timer_is : (words : List ℕ) (p : ℕ) → (record_at words p).timer ≡ get_or words (base_of p + 5) 0
unfolding record_at decode_of
timer_is words p = part_word words p 5 (omega arith)

state_is : (words : List ℕ) (p : ℕ) → (record_at words p).state ≡ state_of (get_or words (base_of p + 4) 0)
unfolding record_at decode_of
state_is words p = ap state_of (part_word words p 4 (omega arith))

-- Initialize is 0, and no other word is
zero_test : (a b : Bool) (word : ℕ) → eqb word 0 ≡ a → eqb word 1 ≡ b
    → eqb word 0 ≡ eqb (state_number (cond a Initialize (cond b Backup Master))) 0
zero_test true b word x y = x
zero_test false true word x y = x
zero_test false false word x y = x

pub initialize_word : (words : List ℕ) (p : ℕ) → eqb (get_or words (base_of p + 4) 0) 0 ≡ eqb (state_number (record_at words p).state) 0
initialize_word words p =
    let word = get_or words (base_of p + 4) 0 in
    zero_test (eqb word 0) (eqb word 1) word refl refl ∙ ap (λ (s : State). eqb (state_number s) 0) (sym (state_is words p))

-- the word of the timer alone, where nothing else changes
pub timer_event : (words : List ℕ) (p t : ℕ)
    → set words (base_of p + 5) t ≡ set_event words p (with_state (record_at words p) (record_at words p).state t)
unfolding set_event record_at decode_of
timer_event words p t =
    let word = get_or words (base_of p + 4) 0 in
    let stored = set words (base_of p + 5) t in
    let kept = same_test (eqb (state_number (state_of word)) (state_number (state_of word))) word refl in
    let accepted = get_or-set_other words (base_of p + 5) (base_of p + 7) t 0 (λ z. omega arith) in
    let became = get_or-set_other words (base_of p + 5) (base_of p + 8) t 0 (λ z. omega arith) in
    sym
    (rw (
      part_word words p 4 (omega arith),
      part_word words p 7 (omega arith),
      part_word words p 8 (omega arith),
      kept,
      set-get_or words (base_of p + 4) 0,
      ← accepted,
      set-get_or stored (base_of p + 7) 0,
      ← became,
      set-get_or stored (base_of p + 8) 0,
    ))

-- storing the router that stands there changes nothing
pub event_same : (words : List ℕ) (p : ℕ) → set_event words p (record_at words p) ≡ words
event_same words p =
    sym (timer_event words p (record_at words p).timer)
    ∙ ap (set words (base_of p + 5)) (timer_is words p)
    ∙ set-get_or words (base_of p + 5) 0

-- a refusal of 10 to 13 is counted by one word of the place
module _ (words : List ℕ) (p number : ℕ) (least : 10 ≤ number) (most : number ≤ 13) where
  pub count_beside : Beside p words (count_at_place words p number)
  unfolding count_at_place
  count_beside = set_beside p words (number - 1) _ (omega arith) (omega arith)

  pub count_word : p < 255 → length words ≡ 4096
      → get_or (count_at_place words p number) (router_word p number) 0 ≡ counted (get_or words (router_word p number) 0)
  unfolding count_at_place
  count_word below long = get_or-set_same words (router_word p number) _ 0 (omega arith)

  pub count_other_word : (k : ℕ) → (k ≡ number - 1 → ⊥)
      → get_or (count_at_place words p number) (base_of p + k) 0 ≡ get_or words (base_of p + k) 0
  unfolding count_at_place
  count_other_word k n = get_or-set_other words (router_word p number) (base_of p + k) _ 0 (λ z. n (omega arith))
