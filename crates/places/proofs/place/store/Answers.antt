-- `places::place::store` meets its contract: the words of the record are pasted at its place.
-- Assumes nothing.
use Rattle.std.proofs.Common.{◌+◌, ◌-◌, refl, ◌∙◌, arith}
use Rattle.std.proofs.lemmas.Slice.{put_mid-paste}
use Rattle.places.specs.Layout.{encode_of}
use Rattle.places.specs.Place.{set_record}
use Rattle.places.proofs.place.store.Goals as goal

pub returns : goal.returns
unfolding set_record encode_of
returns c =
    let start = c.start-start.result in
    put_mid-paste start (start + 16 - start) c.args.words.now _ (encode_of c.args.r) 16
    (c.copy_from_slice.ensures.after ∙ c.encode.ensures) (omega arith) refl
    ∙ rw c.start-start.ensures.start
