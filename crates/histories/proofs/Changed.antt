-- What a call does at one place: an event's outcome stored there, or a refusal of 10 to 13 counted.
-- Assumes nothing.
use mathlib.Core.Path.{◌≡◌, refl, sym, ap, ◌∙◌}
use mathlib.Core.List.{List}
use mathlib.Core.Bool.{Bool, true, false, cond}
use Prim.Native.Nat.{ℕ, suc, ◌+◌, ◌%◌, ◌≤◌, ◌<◌}
use native.Mathlib.Omega.{arith}
use lib.Dec.{eqb}
use lib.ListN.{length, get_or, take, drop}
use borrow.Author.Tests.{eqb-true, eqb-false}
use Rattle.states.specs.declared.record.Router.{Router}
use Rattle.states.specs.Step.{counted}
use Rattle.states.proofs.Kept.{Kept, Unchanged}
use Rattle.router.specs.Accept.{refused_of}
use Rattle.places.specs.Layout.{state_of, decode_of}
use Rattle.places.specs.Place.{base_of, record_at, set_event, router_word, count_at_place}
use Rattle.places.proofs.Beside.{Beside, part_word}
use Rattle.places.proofs.Events.{event_beside, event_record, count_beside, count_word, count_other_word}

-- the router of a place changes, and nothing else does
pub record Changed (p : ℕ) (words after : List ℕ) (r : Router) : Type 0 where
  pub beside : Beside p words after
  pub here : record_at after p ≡ r
  pub kept : Kept (record_at words p) r

pub event_changed : (words : List ℕ) (p : ℕ) (r : Router) → p < 255 → length words ≡ 4096 → Unchanged (record_at words p) r
    → Changed p words (set_event words p r) r
event_changed words p r below long same =
    record { beside = event_beside words p r; here = event_record words p r below long same; kept = same.kept }

module _ (words : List ℕ) (p n : ℕ) (below : p < 255) (long : length words ≡ 4096) (least : 10 ≤ n) (most : n ≤ 13) where
  -- word k of the place counts refusal k + 1
  word_test : (t : Bool) (k : ℕ) → eqb n (suc k) ≡ t → get_or (count_at_place words p n) (base_of p + k) 0
      ≡ cond t (counted (get_or words (base_of p + k) 0)) (get_or words (base_of p + k) 0)
  word_test true k e =
      let same : router_word p n ≡ base_of p + k = omega (arith, eqb-true n (suc k) e) in
      ap (λ (i : ℕ). get_or (count_at_place words p n) i 0) (sym same)
      ∙ count_word words p n least most below long
      ∙ ap (λ (i : ℕ). counted (get_or words i 0)) same
  word_test false k e =
      count_other_word words p n least most k (λ z. eqb-false n (suc k) e (omega arith))

  abbrev part : List ℕ → ℕ → ℕ
  part l k = get_or (take 16 (drop (base_of p) l)) k 0

  same : (k : ℕ) → k < 9 → part (count_at_place words p n) k ≡ part words k
  same k h =
      part_word (count_at_place words p n) p k (omega arith)
      ∙ count_other_word words p n least most k (λ z. omega arith)
      ∙ sym (part_word words p k (omega arith))

  counts : (k : ℕ) → k < 16 → part (count_at_place words p n) k ≡ cond (eqb n (suc k)) (counted (part words k)) (part words k)
  counts k h =
      part_word (count_at_place words p n) p k h
      ∙ word_test (eqb n (suc k)) k refl
      ∙ ap (λ (i : ℕ). cond (eqb n (suc k)) (counted i) i) (sym (part_word words p k h))

  count_here : record_at (count_at_place words p n) p ≡ refused_of (record_at words p) n
  unfolding record_at decode_of
  count_here =
      λ z.
      record {
        vrid = same 0 (omega arith) z % 256;
        priority = same 1 (omega arith) z % 256;
        interval = same 2 (omega arith) z % 256;
        preempt = eqb (same 3 (omega arith) z) 1;
        state = state_of (same 4 (omega arith) z);
        timer = same 5 (omega arith) z;
        count = same 6 (omega arith) z % 17;
        counts =
            record {
              accepted = same 7 (omega arith) z;
              became = same 8 (omega arith) z;
              owner = counts 9 (omega arith) z;
              authentication = counts 10 (omega arith) z;
              list = counts 11 (omega arith) z;
              interval = counts 12 (omega arith) z;
            };
      }

  pub count_changed : Changed p words (count_at_place words p n) (refused_of (record_at words p) n)
  count_changed =
      record {
        beside = count_beside words p n least most;
        here = count_here;
        kept = record { vrid = refl; priority = refl; interval = refl; preempt = refl; count = refl };
      }
