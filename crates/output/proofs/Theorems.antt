-- The theorem that specs/Theorems.antt states.
-- Assumes nothing.
use Rattle.output.specs.Theorems.{AsLongAsNeeded}
use Rattle.output.proofs.Lengths.{bytes_length}

pub as_long_as_needed : AsLongAsNeeded
as_long_as_needed = bytes_length
