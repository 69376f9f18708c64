-- A script written out that meets every premise of demand 3: examples/election.hex, of two stations of equal priority.
use Rattle.std.specs.Prelude.{ℕ, List, [], ◌∷◌, ◌++◌}
use Rattle.scripted.specs.Scripted.{end_of, ShowsM, Delivery, delivery_bytes, Exchange}

-- segment: VRID 1, interval 1, 192.168.1.254; stations: priority 100, preempt, 192.168.1.9 and .10; both start up; 924
-- ticks, "A 1, P 100: 924", and both are Master
abbrev pub election : List ℕ
election =
    (1 ∷ (1 ∷ (1 ∷ (192 ∷ (168 ∷ (1 ∷ (254 ∷ [])))))))
    ++ (2 ∷ (100 ∷ (1 ∷ (192 ∷ (168 ∷ (1 ∷ (9 ∷ [])))))))
    ++ (2 ∷ (100 ∷ (1 ∷ (192 ∷ (168 ∷ (1 ∷ (10 ∷ [])))))))
    ++ (3 ∷ (0 ∷ (3 ∷ (1 ∷ (5 ∷ (3 ∷ (156 ∷ [])))))))

-- each hears the other
abbrev pub exchanged : List Delivery
exchanged = record { from = 0; to = 1 } ∷ (record { from = 1; to = 0 } ∷ [])

-- the premises hold, and .10 remains
abbrev pub ElectionEnds : Type 0
ElectionEnds =
    Exchange election exchanged × ShowsM (end_of election) 0 × ShowsM (end_of election) 1
    × ¬ ShowsM (end_of (election ++ delivery_bytes exchanged)) 0 × ShowsM (end_of (election ++ delivery_bytes exchanged)) 1
