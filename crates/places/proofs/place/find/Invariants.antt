-- `places::place::find` meets its contract. The loop's invariant: what is found from here on is what is found at all.
-- Assumes nothing.
use Rattle.std.proofs.Common.{◌≡◌, ◌-◌}
use Rattle.places.specs.Place.{place_from, place_of}
use Rattle.places.proofs.place.find.Given as goal

abbrev pub invariant-loop-index : goal.invariant-loop-index
invariant-loop-index l = place_from l.words l.vrid l.index (255 - l.index) ≡ place_of l.words l.vrid
