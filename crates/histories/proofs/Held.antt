-- What holds of a table after every history: stated of any words, and kept by storing a record and by counting a refusal.
-- Assumes nothing.
use mathlib.Core.Path.{◌≡◌, sym, ap, subst, ◌∙◌}
use mathlib.Core.Logic.{◌⊎◌, inl, inr}
use mathlib.Core.List.{List}
use Prim.Native.Nat.{ℕ, ◌+◌, ◌≤◌, ◌<◌}
use lib.ListN.{length, get_or, get_or-replicate}
use Rattle.std.proofs.lemmas.Bool.{cases_eq}
use Rattle.states.specs.declared.record.Router.{Router}
use Rattle.router.specs.Timed.{Timed}
use Rattle.places.specs.Place.{base_of, record_at, set_record, count_refusal}
use Rattle.places.specs.Layout.{InRange, encode_of}
use Rattle.places.proofs.Beside.{beside_first, beside_word, beside_record}
use Rattle.places.proofs.Records.{record_same, record_other, store_length}
use Rattle.places.proofs.Words.{first_same, first_other, word_same, word_other}
use Rattle.places.proofs.Words.{count_first, count_place, count_record, count_length}
use Rattle.configuring.specs.Configuring.{freed}
use Rattle.histories.specs.Histories.{Unique, Sound}
use Rattle.histories.proofs.Changed.{Changed}

pub record Held (words : List ℕ) : Type 0 where
  pub long : length words ≡ 4096
  pub unique : Unique words
  pub sound : (p : ℕ) → p < 255 → Sound words p

-- the words of a free place
freed_word : (k : ℕ) → k < 16 → get_or (encode_of freed) k 0 ≡ 0
unfolding encode_of
freed_word k h = get_or-replicate 16 k 0 0 h

module _ (words : List ℕ) (held : Held words) (p : ℕ) (below : p < 255) (r : Router) (range : InRange r) (timed : Timed r)
    (configured : (r.vrid ≡ 0 → ⊥) → (1 ≤ r.interval) × (1 ≤ r.priority) × (1 ≤ r.count) × (r.count ≤ 16))
    (free : r.vrid ≡ 0 → r ≡ freed)
    (new : (q : ℕ) → q < 255 → (q ≡ p → ⊥) → get_or words (base_of q) 0 ≡ r.vrid → r.vrid ≡ 0) where
  stored : List ℕ
  stored = set_record words p r

  here : get_or stored (base_of p) 0 ≡ r.vrid
  unfolding stored
  here = first_same words p r below held.long

  there : (q : ℕ) → (q ≡ p → ⊥) → get_or stored (base_of q) 0 ≡ get_or words (base_of q) 0
  unfolding stored
  there q n = first_other words p r below held.long q n

  unique_test : (a b : ℕ) → a < 255 → b < 255 → (a ≡ b → ⊥) → get_or stored (base_of a) 0 ≡ get_or stored (base_of b) 0
      → (a ≡ p) ⊎ (a ≡ p → ⊥) → (b ≡ p) ⊎ (b ≡ p → ⊥) → get_or stored (base_of a) 0 ≡ 0
  unique_test a b u v n e (inl x) (inl y) = absurd (n (x ∙ sym y))
  unique_test a b u v n e (inl x) (inr y) =
      let at = ap (λ (k : ℕ). get_or stored (base_of k) 0) x ∙ here in
      at ∙ new b v y (sym (there b y) ∙ sym e ∙ at)
  unique_test a b u v n e (inr x) (inl y) =
      let at = ap (λ (k : ℕ). get_or stored (base_of k) 0) y ∙ here in
      e ∙ at ∙ new a u x (sym (there a x) ∙ e ∙ at)
  unique_test a b u v n e (inr x) (inr y) = there a x ∙ held.unique a b u v n (sym (there a x) ∙ e ∙ there b y)

  record_here : record_at stored p ≡ r
  unfolding stored
  record_here = record_same words p r below held.long range

  record_there : (q : ℕ) → (q ≡ p → ⊥) → record_at stored q ≡ record_at words q
  unfolding stored
  record_there q n = record_other words p r below held.long q n

  word_here : (k : ℕ) → k < 16 → get_or stored (base_of p + k) 0 ≡ get_or (encode_of r) k 0
  unfolding stored
  word_here k h = word_same words p r below held.long k h

  word_there : (q k : ℕ) → (q ≡ p → ⊥) → k < 16 → get_or stored (base_of q + k) 0 ≡ get_or words (base_of q + k) 0
  unfolding stored
  word_there q k n h = word_other words p r below held.long q k n h

  sound_here : Sound stored p
  sound_here =
      record {
        named = here ∙ sym (ap (λ (x : Router). x.vrid) record_here);
        timed = rw record_here timed;
        configured = λ z. rw record_here (configured (λ y. z (here ∙ y)));
        free = λ z k h. word_here k h ∙ ap (λ (x : Router). get_or (encode_of x) k 0) (free (sym here ∙ z)) ∙ freed_word k h;
      }

  sound_there : (q : ℕ) → (q ≡ p → ⊥) → Sound words q → Sound stored q
  sound_there q n s =
      record {
        named = there q n ∙ s.named ∙ sym (ap (λ (x : Router). x.vrid) (record_there q n));
        timed = rw (record_there q n) s.timed;
        configured = λ z. rw (record_there q n) (s.configured (λ y. z (there q n ∙ y)));
        free = λ z k h. word_there q k n h ∙ s.free (sym (there q n) ∙ z) k h;
      }

  sound_test : (q : ℕ) → q < 255 → (q ≡ p) ⊎ (q ≡ p → ⊥) → Sound stored q
  sound_test q u (inl x) = subst (λ (k : ℕ). Sound stored k) (sym x) sound_here
  sound_test q u (inr x) = sound_there q x (held.sound q u)

  pub store_held : Held (set_record words p r)
  unfolding stored
  store_held =
      record {
        long = store_length words p r below held.long;
        unique = λ a b u v n e. unique_test a b u v n e (cases_eq a p) (cases_eq b p);
        sound = λ q u. sound_test q u (cases_eq q p);
      }

-- the router of a place in use changes
module _ (words after : List ℕ) (held : Held words) (p : ℕ) (below : p < 255) (used : ¬ (get_or words (base_of p) 0 ≡ 0)) (r : Router)
    (changed : Changed p words after r) (timed : Timed r) where
  first : (q : ℕ) → get_or after (base_of q) 0 ≡ get_or words (base_of q) 0
  first = beside_first p words after changed.beside

  changed_here : Sound after p
  changed_here =
      let s = held.sound p below in
      let k = changed.kept in
      record {
        named = first p ∙ s.named ∙ sym (ap (λ (x : Router). x.vrid) changed.here ∙ k.vrid);
        timed = rw changed.here timed;
        configured = λ z. rw (changed.here, k.interval, k.priority, k.count) (s.configured used);
        free = λ z. absurd (used (sym (first p) ∙ z));
      }

  changed_there : (q : ℕ) → (q ≡ p → ⊥) → Sound words q → Sound after q
  changed_there q n s =
      let there = beside_record p words after changed.beside q n in
      record {
        named = first q ∙ s.named ∙ sym (ap (λ (x : Router). x.vrid) there);
        timed = rw there s.timed;
        configured = λ z. rw there (s.configured (λ y. z (first q ∙ y)));
        free = λ z k h. beside_word p words after changed.beside q k n h ∙ s.free (sym (first q) ∙ z) k h;
      }

  changed_test : (q : ℕ) → q < 255 → (q ≡ p) ⊎ (q ≡ p → ⊥) → Sound after q
  changed_test q u (inl x) = subst (λ (k : ℕ). Sound after k) (sym x) changed_here
  changed_test q u (inr x) = changed_there q x (held.sound q u)

  pub changed_held : Held after
  changed_held =
      record {
        long = changed.beside.long ∙ held.long;
        unique = λ a b u v n e. first a ∙ held.unique a b u v n (sym (first a) ∙ e ∙ first b);
        sound = λ q u. changed_test q u (cases_eq q p);
      }

-- counting a refusal of 1 to 9
pub count_held : (words : List ℕ) → Held words → (number : ℕ) → number ≤ 9 → Held (count_refusal words number)
count_held words held number small =
    let first = count_first words number small in
    let same = count_record words number small in
    record {
      long = count_length words number small ∙ held.long;
      unique = λ a b u v n e. first a ∙ held.unique a b u v n (sym (first a) ∙ e ∙ first b);
      sound =
          λ q u.
          record {
            named = first q ∙ (held.sound q u).named ∙ sym (ap (λ (x : Router). x.vrid) (same q));
            timed = rw (same q) (held.sound q u).timed;
            configured = λ z. rw (same q) ((held.sound q u).configured (λ y. z (first q ∙ y)));
            free = λ z k h. count_place words number small q k ∙ (held.sound q u).free (sym (first q) ∙ z) k h;
          };
    }
