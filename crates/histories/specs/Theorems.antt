-- The theorems of this crate, as statements: each is proved under the same name in proofs/Theorems.antt, those of
-- the answers in proofs/Rows.antt, of what a refusal changes in proofs/Kept.antt and a call that is done in Done.antt, of what
-- holds after every history in proofs/Histories.antt, Stays.antt and Standing.antt, and of counts in proofs/Counted.antt,
-- Tallied.antt and Told.antt.
use Rattle.std.specs.Prelude.{Result as Ending, ℕ, ◌+◌, ◌-◌, ◌%◌, ◌^◌, ◌≤◌, ◌<◌, ◌≡◌, ◌↔◌, List, [], ◌∷◌, Bool, length, get_or, set, Some, None, Ok}
use Rattle.wire.specs.declared.refusal.Refusal.{Refusal}
use Rattle.wire.specs.Refusal.{number_answered}
use Rattle.wire.specs.Check.{first_refusal, Passes}
use Rattle.judging.specs.declared.Fields.{Fields}
use Rattle.judging.specs.Judging.{judged_of}
use Rattle.states.specs.declared.record.State.TheVariants.{Initialize}
use Rattle.states.specs.declared.step.Event.{Event}
use Rattle.states.specs.Step.{counted, stays, step_of}
use Rattle.places.specs.Place.{base_of, primary_of, record_at, place_of}
use Rattle.events.specs.Lists.{list_at}
use Rattle.events.specs.Result.{Answered, Result, Leaves, router_place}
use Rattle.configuring.specs.Configuring.{no_counts, Configured, configured_words, configured_lists, Removed, removed_words}
use Rattle.configuring.specs.Configuring.{configure_checks, configure_refusal, remove_checks, remove_refusal}
use Rattle.events.specs.Events.{happened_of, clocked_of, Status, Told, asked_of, Tells, interface_count}
use Rattle.packets.specs.Packets.{heard_of}
use Rattle.histories.specs.Histories.{Call, configure, called, after, begun, Given, GivenAll, Unique, Sound, refusals_in}
use Rattle.histories.specs.Standing.{Standing, NotRemoved}
use Rattle.histories.specs.Counts.{tally_of, tally_by, modulo}
use Rattle.histories.specs.Rows.{record_for, needs, event_outcome, event_checks, clock_ticked, clock_checks, question_checks}
use Rattle.histories.specs.Rows.{place_for, packet_outcome, packet_checks, answer_by, status_by, OneOf}
use Rattle.histories.specs.Kept.{OnlyThese, words_at, OneCount, packet_place, counted_word, Keeps}

-- two outcomes that the promise of a call allows are equal: startup, shutdown, clock and packet
abbrev pub OneResult : Type 0
OneResult =
    (result : Result) (a b : Answered) (words other room other_room : List ℕ) → Leaves result a words room
    → Leaves result b other other_room → (a ≡ b) × (words ≡ other) × (room ≡ other_room)

-- the same of a question
abbrev pub OneStatus : Type 0
OneStatus = (status : Status) (a b : Told) → Tells status a → Tells status b → a ≡ b

-- the same of configuring
abbrev pub OneConfiguring : Type 0
OneConfiguring =
    (words lists : List ℕ) (vrid priority interval : ℕ) (preempt : Bool) (addresses : List ℕ) (a b : ℕ)
    (after other lists_after lists_other : List ℕ)
    → Configured words lists vrid priority interval preempt addresses a after lists_after
    → Configured words lists vrid priority interval preempt addresses b other lists_other
    → (a ≡ b) × (after ≡ other) × (lists_after ≡ lists_other)

-- the same of removing
abbrev pub OneRemoving : Type 0
OneRemoving =
    (words : List ℕ) (vrid a b : ℕ) (after other : List ℕ) → Removed words vrid a after → Removed words vrid b other
    → (a ≡ b) × (after ≡ other)

-- and so are the answers of the two with these numbers, since neither asks for room
abbrev pub OneConfigureAnswer : Type 0
OneConfigureAnswer =
    (words lists : List ℕ) (vrid priority interval : ℕ) (preempt : Bool) (addresses : List ℕ) (a b : Ending Unit Refusal)
    (after other lists_after lists_other : List ℕ)
    → Configured words lists vrid priority interval preempt addresses (number_answered a) after lists_after
    → Configured words lists vrid priority interval preempt addresses (number_answered b) other lists_other → a ≡ b

abbrev pub OneRemoveAnswer : Type 0
OneRemoveAnswer =
    (words : List ℕ) (vrid : ℕ) (a b : Ending Unit Refusal) (after other : List ℕ) → Removed words vrid (number_answered a) after
    → Removed words vrid (number_answered b) other → a ≡ b

-- "A call for one VRID leaves every other router's record as it was": startup and shutdown, whatever the memory
abbrev pub EventElsewhere : Type 0
EventElsewhere =
    (words lists : List ℕ) (vrid place : ℕ) (event : Event) (room : List ℕ)
    → (router_place words vrid ≡ Some place → ⊥)
    → record_at (happened_of words lists vrid event room).words place ≡ record_at words place

-- and a clock step
abbrev pub ClockElsewhere : Type 0
ClockElsewhere =
    (words lists : List ℕ) (vrid place ticks : ℕ) (room : List ℕ)
    → (router_place words vrid ≡ Some place → ⊥)
    → record_at (clocked_of words lists vrid ticks room).words place ≡ record_at words place

-- and a packet: every place but that of the VRID it carries
abbrev pub PacketElsewhere : Type 0
PacketElsewhere =
    (words lists bytes room : List ℕ) (place : ℕ)
    → ((fields : Fields) → judged_of bytes ≡ Ok fields → router_place words fields.vrid ≡ Some place → ⊥)
    → record_at (heard_of words lists bytes room).words place ≡ record_at words place

-- and configuring: every place but the free one that it takes
abbrev pub ConfigureElsewhere : Type 0
ConfigureElsewhere =
    (words : List ℕ) (vrid priority interval : ℕ) (preempt : Bool) (addresses : List ℕ) (place : ℕ) → length words ≡ 4096
    → (place_of words 0 ≡ Some place → ⊥)
    → record_at (configured_words words vrid priority interval preempt addresses) place ≡ record_at words place

-- and every other address list
abbrev pub ListElsewhere : Type 0
ListElsewhere =
    (words lists : List ℕ) (vrid priority interval : ℕ) (addresses : List ℕ) (place n : ℕ) → length lists ≡ 16320 → n ≤ 16
    → (place_of words 0 ≡ Some place → ⊥)
    → list_at (configured_lists words lists vrid priority interval addresses) place n ≡ list_at lists place n

-- and removing
abbrev pub RemoveElsewhere : Type 0
RemoveElsewhere =
    (words : List ℕ) (vrid place : ℕ) → length words ≡ 4096 → (router_place words vrid ≡ Some place → ⊥)
    → record_at (removed_words words vrid) place ≡ record_at words place

-- free is a place whose first word is 0
abbrev pub Free : List ℕ → ℕ → Type 0
Free words place = get_or words (base_of place) 0 ≡ 0

-- "Configuring takes the lowest free place"
abbrev pub LowestFreePlace : Type 0
LowestFreePlace =
    (words : List ℕ) (place : ℕ) → place_of words 0 ≡ Some place
    → (place < 255) × Free words place × ((other : ℕ) → other < place → Free words other → ⊥)

-- "19 no free place": where none is found, there is none
abbrev pub NoFreePlace : Type 0
NoFreePlace = (words : List ℕ) → place_of words 0 ≡ None → (place : ℕ) → place < 255 → ¬ Free words place

-- after every history of calls from an empty table: VRIDs are unique, and every place is sound
abbrev pub AfterEveryHistory : Type 0
AfterEveryHistory =
    (primary : ℕ) (lists : List ℕ) (history : List Call) → GivenAll history
    → Unique (after (begun primary lists) history).words
    × ((p : ℕ) → p < 255 → Sound (after (begun primary lists) history).words p)

-- "One interface has one primary IPv4 address": after every history it is the one that the table was made with
abbrev pub PrimaryStays : Type 0
PrimaryStays =
    (primary : ℕ) (lists : List ℕ) (history : List Call) → GivenAll history
    → primary_of (after (begun primary lists) history).words ≡ primary

-- what was configured stays until it is removed: after any history, a configuration that is not refused, and any calls of
-- which none removes it
abbrev pub ConfiguredStays : Type 0
ConfiguredStays =
    (primary : ℕ) (lists : List ℕ) (history rest : List Call) (vrid priority interval : ℕ) (preempt : Bool) (addresses : List ℕ)
    → length lists ≡ 16320 → GivenAll history → Given (configure vrid priority interval preempt addresses) → GivenAll rest
    → configure_refusal (after (begun primary lists) history).words vrid priority interval addresses ≡ 0
    → NotRemoved vrid (called (after (begun primary lists) history) (configure vrid priority interval preempt addresses)) rest
    → Standing (after (called (after (begun primary lists) history) (configure vrid priority interval preempt addresses)) rest)
    vrid priority interval preempt addresses

-- "Per interface: 1 to 9": each is, modulo 2^32, how many packets were so refused since the table was made
abbrev pub InterfaceCounts : Type 0
InterfaceCounts =
    (primary : ℕ) (lists : List ℕ) (history : List Call) → GivenAll history → (number : ℕ) → 1 ≤ number → number ≤ 9
    → interface_count (after (begun primary lists) history).words number
    ≡ refusals_in number (begun primary lists) history % 2 ^ 32

-- the counts at every place are, modulo 2^32, the numbers of such events since its router was configured
abbrev pub RouterCounts : Type 0
RouterCounts =
    (primary : ℕ) (lists : List ℕ) (history : List Call) → GivenAll history → (place : ℕ) → place < 255
    → (record_at (after (begun primary lists) history).words place).counts
    ≡ modulo (tally_of place (begun primary lists) history no_counts)

-- and so are the counts that a question tells, of every virtual router
abbrev pub ToldCounts : Type 0
ToldCounts =
    (primary : ℕ) (lists : List ℕ) (history : List Call) → GivenAll history → (vrid : ℕ)
    → (asked_of (after (begun primary lists) history).words vrid).router.counts
    ≡ modulo (tally_by vrid (begun primary lists) history no_counts)

-- "A refusal answers its number": the number of a call's answer is that of the first of its checks that fails, 0 where none
-- does. "Configuring checks 14 to 19 in that order"
abbrev pub ConfigureAnswers : Type 0
ConfigureAnswers =
    (words : List ℕ) (vrid priority interval : ℕ) (addresses : List ℕ)
    → configure_refusal words vrid priority interval addresses
    ≡ first_refusal (configure_checks words vrid priority interval addresses)

-- "remove 20 then 21"
abbrev pub RemoveAnswers : Type 0
RemoveAnswers = (words : List ℕ) (vrid : ℕ) → remove_refusal words vrid ≡ first_refusal (remove_checks words vrid)

-- "others 20 then 22": startup and shutdown
abbrev pub EventAnswers : Type 0
EventAnswers =
    (words lists : List ℕ) (vrid : ℕ) (event : Event) (room : List ℕ)
    → (happened_of words lists vrid event room).answer.number ≡ first_refusal (event_checks words vrid event room)

-- a clock step
abbrev pub ClockAnswers : Type 0
ClockAnswers =
    (words lists : List ℕ) (vrid ticks : ℕ) (room : List ℕ)
    → (clocked_of words lists vrid ticks room).answer.number ≡ first_refusal (clock_checks words vrid ticks room)

-- "Packets, checked in this order"; "For a packet 22 comes after 13"
abbrev pub PacketAnswers : Type 0
PacketAnswers =
    (words lists bytes room : List ℕ)
    → (heard_of words lists bytes room).answer.number ≡ first_refusal (packet_checks words lists bytes room)

-- a question
abbrev pub QuestionAnswers : Type 0
QuestionAnswers = (words : List ℕ) (vrid : ℕ) → (asked_of words vrid).number ≡ first_refusal (question_checks words vrid)

-- a call is done exactly when every check passes: configuring
abbrev pub ConfigureExactly : Type 0
ConfigureExactly =
    (words : List ℕ) (vrid priority interval : ℕ) (addresses : List ℕ)
    → (configure_refusal words vrid priority interval addresses ≡ 0)
    ↔ Passes (configure_checks words vrid priority interval addresses)

-- and removing
abbrev pub RemoveExactly : Type 0
RemoveExactly = (words : List ℕ) (vrid : ℕ) → (remove_refusal words vrid ≡ 0) ↔ Passes (remove_checks words vrid)

-- and startup and shutdown
abbrev pub EventExactly : Type 0
EventExactly =
    (words lists : List ℕ) (vrid : ℕ) (event : Event) (room : List ℕ)
    → ((happened_of words lists vrid event room).answer.number ≡ 0) ↔ Passes (event_checks words vrid event room)

-- and a clock step
abbrev pub ClockExactly : Type 0
ClockExactly =
    (words lists : List ℕ) (vrid ticks : ℕ) (room : List ℕ)
    → ((clocked_of words lists vrid ticks room).answer.number ≡ 0) ↔ Passes (clock_checks words vrid ticks room)

-- and a packet
abbrev pub PacketExactly : Type 0
PacketExactly =
    (words lists bytes room : List ℕ)
    → ((heard_of words lists bytes room).answer.number ≡ 0) ↔ Passes (packet_checks words lists bytes room)

-- and a question
abbrev pub QuestionExactly : Type 0
QuestionExactly = (words : List ℕ) (vrid : ℕ) → ((asked_of words vrid).number ≡ 0) ↔ Passes (question_checks words vrid)

-- "22 also with the room needed": the whole answer of startup and shutdown, which leave nothing over
abbrev pub EventValues : Type 0
EventValues =
    (words lists : List ℕ) (vrid : ℕ) (event : Event) (room : List ℕ)
    → (happened_of words lists vrid event room).answer
    ≡ answer_by (first_refusal (event_checks words vrid event room)) (needs (event_outcome words vrid event)) 0

-- and of a clock step
abbrev pub ClockValues : Type 0
ClockValues =
    (words lists : List ℕ) (vrid ticks : ℕ) (room : List ℕ)
    → (clocked_of words lists vrid ticks room).answer
    ≡ answer_by (first_refusal (clock_checks words vrid ticks room)) (needs (clock_ticked words vrid ticks).outcome)
    (clock_ticked words vrid ticks).leftover

-- and of a packet
abbrev pub PacketValues : Type 0
PacketValues =
    (words lists bytes room : List ℕ)
    → (heard_of words lists bytes room).answer
    ≡ answer_by (first_refusal (packet_checks words lists bytes room)) (needs (packet_outcome words bytes)) 0

-- and of a question: the router's record
abbrev pub QuestionValues : Type 0
QuestionValues =
    (words : List ℕ) (vrid : ℕ) → asked_of words vrid ≡ status_by (first_refusal (question_checks words vrid)) (record_for words vrid)

-- the numbers that a call can answer: configuring
abbrev pub ConfigureNumbers : Type 0
ConfigureNumbers =
    (words : List ℕ) (vrid priority interval : ℕ) (addresses : List ℕ)
    → OneOf (0 ∷ (14 ∷ (15 ∷ (16 ∷ (17 ∷ (18 ∷ (19 ∷ [])))))))
    (configure_refusal words vrid priority interval addresses)

-- removing
abbrev pub RemoveNumbers : Type 0
RemoveNumbers = (words : List ℕ) (vrid : ℕ) → OneOf (0 ∷ (20 ∷ (21 ∷ []))) (remove_refusal words vrid)

-- startup and shutdown
abbrev pub EventNumbers : Type 0
EventNumbers =
    (words lists : List ℕ) (vrid : ℕ) (event : Event) (room : List ℕ)
    → OneOf (0 ∷ (20 ∷ (22 ∷ []))) (happened_of words lists vrid event room).answer.number

-- a clock step
abbrev pub ClockNumbers : Type 0
ClockNumbers =
    (words lists : List ℕ) (vrid ticks : ℕ) (room : List ℕ)
    → OneOf (0 ∷ (20 ∷ (22 ∷ []))) (clocked_of words lists vrid ticks room).answer.number

-- a packet
abbrev pub PacketNumbers : Type 0
PacketNumbers =
    (words lists bytes room : List ℕ)
    → OneOf
    (0 ∷ (1 ∷ (2 ∷ (3 ∷ (4 ∷ (5 ∷ (6 ∷ (7 ∷ (8 ∷ (9 ∷ (10 ∷ (11 ∷ (12 ∷ (13 ∷ (22 ∷ [])))))))))))))))
    (heard_of words lists bytes room).answer.number

-- a question
abbrev pub QuestionNumbers : Type 0
QuestionNumbers = (words : List ℕ) (vrid : ℕ) → OneOf (0 ∷ (20 ∷ [])) (asked_of words vrid).number

-- what a refusal changes, in any memory: "Refusals 1 to 9 add one to that interface count, 10 to 13 to that router's
-- count", and a packet that is so refused changes nothing else. "Output bytes stay untouched"
abbrev pub RefusedPacket : Type 0
RefusedPacket =
    (words lists bytes room : List ℕ) (number : ℕ) → length words ≡ 4096
    → (heard_of words lists bytes room).answer.number ≡ number → 1 ≤ number → number ≤ 13
    → OneCount words (heard_of words lists bytes room).words (counted_word words bytes number)
    × ((heard_of words lists bytes room).room ≡ room)

-- "14 to 22 change nothing": a packet that the room is too small for
abbrev pub ShortPacket : Type 0
ShortPacket =
    (words lists bytes room : List ℕ) → (heard_of words lists bytes room).answer.number ≡ 22
    → Keeps words room (heard_of words lists bytes room)

-- and startup and shutdown
abbrev pub RefusedEvent : Type 0
RefusedEvent =
    (words lists : List ℕ) (vrid : ℕ) (event : Event) (room : List ℕ)
    → ¬ ((happened_of words lists vrid event room).answer.number ≡ 0)
    → Keeps words room (happened_of words lists vrid event room)

-- and a clock step
abbrev pub RefusedClock : Type 0
RefusedClock =
    (words lists : List ℕ) (vrid ticks : ℕ) (room : List ℕ) → ¬ ((clocked_of words lists vrid ticks room).answer.number ≡ 0)
    → Keeps words room (clocked_of words lists vrid ticks room)

-- and configuring, which leaves the address lists too
abbrev pub RefusedConfigure : Type 0
RefusedConfigure =
    (words lists : List ℕ) (vrid priority interval : ℕ) (preempt : Bool) (addresses : List ℕ)
    → ¬ (configure_refusal words vrid priority interval addresses ≡ 0)
    → (configured_words words vrid priority interval preempt addresses ≡ words)
    × (configured_lists words lists vrid priority interval addresses ≡ lists)

-- and removing
abbrev pub RefusedRemove : Type 0
RefusedRemove = (words : List ℕ) (vrid : ℕ) → ¬ (remove_refusal words vrid ≡ 0) → removed_words words vrid ≡ words

-- what else a call changes, in any memory. Startup and shutdown: at most words 4, 5 and 8 of the router's place, its
-- state, timer and "times it became Master"
abbrev pub EventChanges : Type 0
EventChanges =
    (words lists : List ℕ) (vrid : ℕ) (event : Event) (room : List ℕ)
    → OnlyThese words (happened_of words lists vrid event room).words (words_at (place_for words vrid) (4 ∷ (5 ∷ (8 ∷ []))))

-- and a clock step
abbrev pub ClockChanges : Type 0
ClockChanges =
    (words lists : List ℕ) (vrid ticks : ℕ) (room : List ℕ)
    → OnlyThese words (clocked_of words lists vrid ticks room).words (words_at (place_for words vrid) (4 ∷ (5 ∷ (8 ∷ []))))

-- "Startup outside Initialize, shutdown in Initialize .. change no state or timer": no word at all
abbrev pub NothingHappens : Type 0
NothingHappens =
    (words lists : List ℕ) (vrid place : ℕ) (event : Event) (room : List ℕ) → router_place words vrid ≡ Some place
    → step_of (primary_of words) (record_at words place) event ≡ stays (record_at words place)
    → (happened_of words lists vrid event room).words ≡ words

-- "In Initialize nothing happens": a clock step changes no word
abbrev pub ClockInInitialize : Type 0
ClockInInitialize =
    (words lists : List ℕ) (vrid place ticks : ℕ) (room : List ℕ) → router_place words vrid ≡ Some place
    → (record_at words place).state ≡ Initialize → (clocked_of words lists vrid ticks room).words ≡ words

-- "if d is below the remaining time, that falls by d": the timer's word alone
abbrev pub TimerFalls : Type 0
TimerFalls =
    (words lists : List ℕ) (vrid ticks place : ℕ) (room : List ℕ) → router_place words vrid ≡ Some place
    → ¬ ((record_at words place).state ≡ Initialize) → ticks < (record_at words place).timer
    → (clocked_of words lists vrid ticks room).words ≡ set words (base_of place + 5) ((record_at words place).timer - ticks)

-- and a packet that is accepted: words 4, 5 and 7, its "accepted packets (any state)", which is one more
abbrev pub PacketChanges : Type 0
PacketChanges =
    (words lists bytes room : List ℕ) (place : ℕ) → length words ≡ 4096 → packet_place words bytes ≡ place
    → (heard_of words lists bytes room).answer.number ≡ 0
    → OnlyThese words (heard_of words lists bytes room).words (words_at place (4 ∷ (5 ∷ (7 ∷ []))))
    × (get_or (heard_of words lists bytes room).words (base_of place + 7) 0 ≡ counted (get_or words (base_of place + 7) 0))

-- that count alone, where the router's state and timer are as they were
abbrev pub PacketCounts : Type 0
PacketCounts =
    (words lists bytes room : List ℕ) (place : ℕ) → length words ≡ 4096 → packet_place words bytes ≡ place
    → (heard_of words lists bytes room).answer.number ≡ 0
    → (record_at (heard_of words lists bytes room).words place).state ≡ (record_at words place).state
    → (record_at (heard_of words lists bytes room).words place).timer ≡ (record_at words place).timer
    → OneCount words (heard_of words lists bytes room).words (base_of place + 7)
