-- What C is told of a call of the table: 01's number of its answer, the words and the room as the call leaves them.
use Rattle.std.specs.Prelude.{◌≡◌, List, ℕ}
use Rattle.events.specs.Result.{Result}

-- the promise of a call for C: the number, the whole table and the whole room
pub record Numbered (result : Result) (answer : ℕ) (words room : List ℕ) : Type 0 where
  pub answer_is : answer ≡ result.answer.number
  pub words_are : words ≡ result.words
  pub room_is : room ≡ result.room
