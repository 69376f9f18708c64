-- `places::place::find` meets its contract. The loop's invariant: what is found from here on is what is found at all.
-- Assumes nothing.
use Rattle.std.proofs.Common.{sym, refl, ◌∙◌, arith}
use Rattle.places.specs.Place.{place_of}
use Rattle.places.proofs.Finding.{find_hit, find_miss, find_end}
use Rattle.places.proofs.place.find.Goals as goal

pub loop-index-init : goal.loop-index-init
unfolding place_of
loop-index-init c = refl

pub returns-then-words-index : goal.returns-then-words-index
returns-then-words-index c =
    let a = c.args in
    sym (find_hit a.words.now a.vrid c.loop-index.index (omega arith) (omega arith)) ∙ c.loop-index.invariant

pub loop-index-preserved : goal.loop-index-preserved
loop-index-preserved c =
    let a = c.args in
    sym (find_miss a.words.now a.vrid c.loop-index.index (omega arith) (λ z. omega arith)) ∙ c.loop-index.invariant

pub returns : goal.returns
returns c =
    let a = c.args in
    sym (find_end a.words.now a.vrid c.loop-index.index (omega arith)) ∙ c.loop-index.invariant
