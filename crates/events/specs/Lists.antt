-- Address lists in lent bytes: 64 for each place (01, 'The table': "1 to 16 virtual addresses").
use Rattle.std.specs.Prelude.{ℕ, ◌*◌, List, [], ◌∷◌, Bool, true, false, ◌&&◌, eqb, length, take, drop}
use Rattle.std.proofs.Math.Seq.{paste}
use Rattle.judging.specs.declared.Fields.{Fields}

-- the address bytes of a place that has n addresses
unfoldable pub list_at : List ℕ → ℕ → ℕ → List ℕ
list_at lists place n = take (4 * n) (drop (64 * place) lists)

-- the lists with these address bytes at a place
unfoldable pub set_list : List ℕ → ℕ → List ℕ → List ℕ
set_list lists place addresses = paste lists (64 * place) addresses (length addresses)

-- the address bytes of an accepted packet
unfoldable pub their_list : List ℕ → Fields → List ℕ
their_list packet fields = take (4 * fields.count) (drop fields.list packet)

-- "same count, same addresses, same order"
unfoldable pub lists_match : List ℕ → List ℕ → Bool
lists_match [] [] = true
lists_match [] (b ∷ theirs) = false
lists_match (a ∷ ours) [] = false
lists_match (a ∷ ours) (b ∷ theirs) = eqb a b && lists_match ours theirs
