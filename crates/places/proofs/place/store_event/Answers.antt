-- `places::place::store_event` meets its contract: four words of the place are stored.
-- Assumes nothing.
use Rattle.places.specs.Place.{set_event}
use Rattle.places.proofs.place.store_event.Goals as goal

pub returns : goal.returns
unfolding set_event
returns c = rw (c.state_word-word.ensures, c.start-start.ensures.start)
