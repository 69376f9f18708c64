-- What a call may change of the table, in any memory (01, 'Refusal numbers', 'Counts').
use Rattle.std.specs.Prelude.{ℕ, ◌+◌, ◌≡◌, List, map, cond, leb, length, get_or}
use Rattle.judging.specs.Judging.{fields_of}
use Rattle.states.specs.Step.{counted}
use Rattle.places.specs.Place.{base_of, router_word}
use Rattle.events.specs.Result.{Result}
use Rattle.histories.specs.Rows.{place_for, OneOf}

-- as many words, and each is as it was, but for these
pub record OnlyThese (words after these : List ℕ) : Type 0 where
  pub long : length after ≡ length words
  pub others : (i : ℕ) → ¬ OneOf these i → get_or after i 0 ≡ get_or words i 0

-- words of a place, by their numbers within it
abbrev pub words_at : ℕ → List ℕ → List ℕ
words_at place numbers = map (λ (k : ℕ). base_of place + k) numbers

-- "add one to that .. count": as many words, one of them one more, and every other as it was
pub record OneCount (words after : List ℕ) (at : ℕ) : Type 0 where
  pub long : length after ≡ length words
  pub count : get_or after at 0 ≡ counted (get_or words at 0)
  pub others : (i : ℕ) → ¬ (i ≡ at) → get_or after i 0 ≡ get_or words i 0

-- the place of the router that a packet is for
abbrev pub packet_place : List ℕ → List ℕ → ℕ
packet_place words bytes = place_for words (fields_of bytes).vrid

-- "Refusals 1 to 9 add one to that interface count, 10 to 13 to that router's count": the word that counts a packet's
-- refusal by a number
abbrev pub counted_word : List ℕ → List ℕ → ℕ → ℕ
counted_word words bytes number =
    cond (leb number 9) number (router_word (packet_place words bytes) number)

-- "change nothing", "Output bytes stay untouched"
pub record Keeps (words room : List ℕ) (result : Result) : Type 0 where
  pub words_stay : result.words ≡ words
  pub room_stays : result.room ≡ room
