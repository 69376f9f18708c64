-- What a call leaves: its answer, the words of the table and the room (01, 'What a promise leaves open: nothing').
use Rattle.std.specs.Prelude.{Result as Ending, Ok, Err, ℕ, ◌*◌, ◌≡◌, List, cond, eqb, ltb, length, None}
use Rattle.wire.specs.declared.refusal.Refusal.{Refusal}
use Rattle.wire.specs.Refusal.{refusal_number, room_needed}
use Rattle.states.specs.declared.step.Outcome.{Outcome}
use Rattle.writing.specs.Writing.{over}
use Rattle.output.specs.Output.{bytes_of, need_of}
use Rattle.places.specs.Place.{Found, primary_of, set_event, place_of}
use Rattle.events.specs.declared.answer.Done.{Done}
use Rattle.events.specs.Lists.{list_at}

-- what a call answers: 01's number, which is 0 where nothing is refused; the bytes written, the ticks left over, the room needed
pub record Answer : Type 0 where
  pub number : ℕ
  pub written : ℕ
  pub leftover : ℕ
  pub need : ℕ

-- nothing is refused: the bytes written, and the ticks left over
abbrev pub done : ℕ → ℕ → Answer
done written leftover = record { number = 0; written = written; leftover = leftover; need = 0 }

-- "A refusal answers its number"
abbrev pub refusal : ℕ → Answer
refusal number = record { number = number; written = 0; leftover = 0; need = 0 }

-- "22 also with the room needed"
abbrev pub short : ℕ → Answer
short need = record { number = 22; written = 0; leftover = 0; need = need }

-- how a call ends in the code: done, or refused
abbrev pub Answered : Type 0
Answered = Ending Done Refusal

-- what each case of it answers
abbrev pub answer_of : Answered → Answer
answer_of (Ok d) = done d.written d.leftover
answer_of (Err reason) = record { number = refusal_number reason; written = 0; leftover = 0; need = room_needed reason }

pub record Result : Type 0 where
  pub answer : Answer
  pub words : List ℕ
  pub room : List ℕ

-- the promise of a call: its answer, the whole table and the whole room
pub record Leaves (result : Result) (answer : Answered) (words room : List ℕ) : Type 0 where
  pub answer_is : answer_of answer ≡ result.answer
  pub words_are : words ≡ result.words
  pub room_is : room ≡ result.room

-- a refusal that changes nothing: the table as given, "Output bytes stay untouched"
abbrev pub refuses : ℕ → List ℕ → List ℕ → Result
refuses number words room = record { answer = refusal number; words = words; room = room }

-- where a virtual router stands; there is none with number 0
unfoldable pub router_place : List ℕ → ℕ → Found
router_place words vrid = cond (eqb vrid 0) None (place_of words vrid)

-- an event's outcome at a place: "22 output room smaller than the bytes this event writes", and then nothing changes; else the
-- router's state, timer and counts are as the outcome has them, and its frames stand at the start of the room
unfoldable pub acted_of : List ℕ → List ℕ → ℕ → Outcome → ℕ → List ℕ → Result
acted_of words lists place outcome leftover room =
    cond (ltb (length room) (need_of outcome.writes (4 * outcome.router.count)))
    (record { answer = short (need_of outcome.writes (4 * outcome.router.count)); words = words; room = room })
    (record {
      answer = done (need_of outcome.writes (4 * outcome.router.count)) leftover;
      words = set_event words place outcome.router;
      room =
          over
          (bytes_of outcome.writes outcome.router (primary_of words) (list_at lists place outcome.router.count))
          room;
    })
