-- Places in a table of 4,096 words: 16 of the interface, then 16 for each of 255 places (01, 'The table').
use Rattle.std.specs.Prelude.{ℕ, zero, suc, ◌+◌, ◌-◌, ◌*◌, cond, List, take, drop, set, ◌==◌, slice_index, slice_set, Option, Some, None}
use Rattle.std.proofs.Math.Seq.{paste}
use Rattle.states.specs.declared.record.State.{State}
use Rattle.states.specs.declared.record.Router.{Router}
use Rattle.states.specs.Step.{state_number, counted}
use Rattle.places.specs.Layout.{state_of, decode_of, encode_of}

-- where a place's words begin
abbrev pub base_of : ℕ → ℕ
base_of place = 16 + 16 * place

-- the record at a place
unfoldable pub record_at : List ℕ → ℕ → Router
record_at words place = decode_of (take 16 (drop (base_of place) words))

-- the words with a record at a place
unfoldable pub set_record : List ℕ → ℕ → Router → List ℕ
set_record words place r = paste words (base_of place) (encode_of r) 16

-- the word of a state, where this one stood: it stays where the state stays
abbrev pub state_word : ℕ → State → ℕ
state_word word state = cond (state_number (state_of word) == state_number state) word (state_number state)

-- the words with what an event changes of the router at a place: state, timer, packets accepted and times it became Master
unfoldable pub set_event : List ℕ → ℕ → Router → List ℕ
set_event words place r =
    set
    (set
    (slice_set
    (slice_set words (base_of place + 4) (state_word (slice_index words (base_of place + 4)) r.state))
    (base_of place + 5)
    r.timer)
    (base_of place + 7)
    r.counts.accepted)
    (base_of place + 8)
    r.counts.became

-- a place that was looked for, by its number, where there is one
abbrev pub Found : Type 0
Found = Option ℕ

-- the first of so many places, from one on, whose first word is this
unfoldable pub place_from : List ℕ → ℕ → ℕ → ℕ → Found
place_from words first place zero = None
place_from words first place (suc more) =
    cond (slice_index words (base_of place) == first) (Some place) (place_from words first (suc place) more)

-- the place of a virtual router by its number, which is its place's first word; a free place has 0 there, and
-- "Configuring takes the lowest free place"
unfoldable pub place_of : List ℕ → ℕ → Found
place_of words first = place_from words first 0 255

-- "One interface has one primary IPv4 address": its first word
unfoldable pub primary_of : List ℕ → ℕ
primary_of words = slice_index words 0

-- "Per interface: 1 to 9": word k counts refusal k
unfoldable pub refusal_count : List ℕ → ℕ → ℕ
refusal_count words number = slice_index words number

-- one word counted up, and no other changed
abbrev pub count_word : List ℕ → ℕ → List ℕ
count_word words at = slice_set words at (counted (slice_index words at))

-- "Refusals 1 to 9 add one to that interface count": refusal k is counted by word k
unfoldable pub count_refusal : List ℕ → ℕ → List ℕ
count_refusal words number = count_word words number

-- "10 to 13 [add one] to that router's count": words 9 to 12 of its place
abbrev pub router_word : ℕ → ℕ → ℕ
router_word place number = base_of place + (number - 1)

-- the words with that count one more
unfoldable pub count_at_place : List ℕ → ℕ → ℕ → List ℕ
count_at_place words place number = count_word words (router_word place number)
