-- The theorems of this crate, as statements: each is proved under the same name in proofs/, those of what any script
-- prints in Printed.antt, the others in Theorems.antt.
use Rattle.std.specs.Prelude.{ℕ, ◌+◌, ◌≤◌, ◌≡◌, ◌⊎◌, List, [], ◌∷◌, ◌++◌, length}
use Rattle.sums.specs.Sum.{Bytes}
use Rattle.script.specs.Segment.{Segment}
use Rattle.script.specs.Kinds.{kind_of, body_length}
use Rattle.script.specs.Lines.{line_of, refused_line, printed_of}
use Rattle.script.specs.Script.{rehearsal_of}
use Rattle.scripted.specs.Scripted.{records_in, Taken, end_of, station_at, ShowsM, Outranks}
use Rattle.scripted.specs.Scripted.{Delivery, delivery_bytes, FromMasters, Exchange}

-- "A script refusal prints number, space, `refused`, space, its number, and ends"
pub record EndsRefused (text : List ℕ) : Type 0 where
  pub before : List ℕ
  pub number : ℕ
  pub refusal : ℕ
  pub some : ¬ (refusal ≡ 0)
  pub is : text ≡ before ++ refused_line number refusal

-- every script is taken, or what it prints ends with its refusal
abbrev pub TakenOrRefused : Type 0
TakenOrRefused = (script : List ℕ) → Taken script ⊎ EndsRefused (rehearsal_of script)

-- "After kinds 3 to 6 it prints the record's number from 1, a space, and a letter .. per station": one more record
-- prints, behind what the script before it printed, the letters of the segment at the end
abbrev pub PrintsOn : Type 0
PrintsOn =
    (script : List ℕ) (byte : ℕ) (body : List ℕ) → Taken script → Taken (script ++ (byte ∷ body))
    → length body ≡ body_length (kind_of byte)
    → rehearsal_of (script ++ (byte ∷ body))
    ≡ rehearsal_of script ++ printed_of (kind_of byte) (records_in script 0 + 1) (end_of (script ++ (byte ∷ body)))

-- deliveries from the Masters of that moment to others are not refused, whatever the deliveries before them did
abbrev pub DeliveriesTaken : Type 0
DeliveriesTaken =
    (script : List ℕ) (deliveries : List Delivery) → Bytes script → Taken script → FromMasters (end_of script) deliveries
    → length (script ++ delivery_bytes deliveries) ≤ 65536 → Taken (script ++ delivery_bytes deliveries)

-- and the last line that is printed then has the letters of the segment at the end
abbrev pub LastLine : Type 0
LastLine =
    (script : List ℕ) (deliveries : List Delivery) (last : Delivery) → Bytes script → Taken script
    → FromMasters (end_of script) (deliveries ++ (last ∷ []))
    → length (script ++ delivery_bytes (deliveries ++ (last ∷ []))) ≤ 65536
    → rehearsal_of (script ++ delivery_bytes (deliveries ++ (last ∷ [])))
    ≡ rehearsal_of (script ++ delivery_bytes deliveries)
    ++ line_of (records_in (script ++ delivery_bytes deliveries) 0 + 1)
    (end_of (script ++ delivery_bytes (deliveries ++ (last ∷ []))))

-- "exactly one Master remains: of those that were Masters, the one with the greatest priority and, among equals, the
-- numerically greatest primary address. No other station has become Master."
pub record OneMaster (then now : Segment) : Type 0 where
  pub station : ℕ
  pub was : ShowsM then station
  pub greatest : (i : ℕ) → ¬ (i ≡ station) → ShowsM then i → Outranks (station_at then station) (station_at then i)
  pub remains : ShowsM now station
  pub alone : (i : ℕ) → ShowsM now i → i ≡ station

-- demand 3 for the stations of a script
abbrev pub OneMasterInScript : Type 0
OneMasterInScript =
    (script : List ℕ) (deliveries : List Delivery) → Exchange script deliveries
    → Taken (script ++ delivery_bytes deliveries)
    × OneMaster (end_of script) (end_of (script ++ delivery_bytes deliveries))
