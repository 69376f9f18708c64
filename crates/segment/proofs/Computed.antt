-- What specs/Examples.antt has computed: two stations each without a premise, and one station of the row.
-- Assumes nothing.
use mathlib.Core.Path.{◌≡◌, refl, sym, ap, subst, ◌∙◌}
use mathlib.Core.List.{List, [], ◌∷◌}
use mathlib.Core.Bool.{true, cond, not}
use Prim.Native.Nat.{ℕ, ◌/◌, ◌^◌, ◌<◌}
use native.Mathlib.Omega.{arith}
use lib.Dec.{eqb}
use lib.ListN.{length, replicate}
use Rattle.sums.specs.Sum.{plus, sum_of}
use Rattle.sums.proofs.Bytes.{bytes_each}
use Rattle.headers.specs.Packet.{cause_of, header_sum_wrong, not_ours}
use Rattle.judging.specs.Message.{version_wrong, too_short, message_sum_wrong}
use Rattle.judging.specs.Judging.{refusal_of, fields_of, judged_of}
use Rattle.writing.specs.Frame.{message_checksum, message_of, header_checksum, header_of, packet_of, frame_of}
use Rattle.writing.specs.Writing.{address_bytes_wrong}
use Rattle.states.specs.Timers.{master_down_of, advertisement_interval_of}
use Rattle.states.specs.Step.{step_of}
use Rattle.router.specs.Clock.{ticked_of}
use Rattle.router.specs.Accept.{router_refusal}
use Rattle.states.specs.declared.record.State.{State}
use Rattle.states.specs.declared.record.State.TheVariants.{Initialize, Backup, Master}
use Rattle.places.specs.Place.{Found, record_at, set_record, set_event, count_at_place, place_from, place_of, primary_of}
use Rattle.std.specs.Prelude.{Some, None}
use Rattle.wire.specs.Check.{first_refusal}
use Rattle.places.specs.Layout.{decode_of, encode_of}
use Rattle.events.specs.Lists.{list_at, set_list, their_list, lists_match}
use Rattle.events.specs.Result.{router_place, acted_of}
use Rattle.configuring.specs.Configuring.{is_found, place_in, empty_of, new_router, configure_refusal}
use Rattle.events.specs.Events.{happened_of, clocked_of}
use Rattle.packets.specs.Packets.{heard_of}
use Rattle.histories.specs.Histories.{Call, configure, startup, Given, Memory, after, GivenAll}
use Rattle.histories.proofs.Lists.{zeros_listed}
use Rattle.segment.specs.Segment.{router_of, addresses_of, primary_address, Reached, Stands, after_all}
use Rattle.segment.specs.Examples.{virtual_address, room, configured, taken_over, calls_of, station_of}
use Rattle.segment.specs.Examples.{Kind, idle, waiting, leading}
use Rattle.segment.specs.Examples.{deliver, states_of, exchanged, two_masters, Needed}

-- an empty table has no router 1, and its lowest free place is the first
nowhere : (primary : ℕ) → place_of (empty_of primary) 1 ≡ None
unfolding empty_of place_of place_from
nowhere primary = refl

first_free : (primary : ℕ) → place_of (empty_of primary) 0 ≡ Some 0
unfolding empty_of place_of place_from
first_free primary = refl

-- what configuring router 1 checks, by where it is found and where a place is free
abbrev checked : Found → Found → ℕ → ℕ → List ℕ → ℕ
checked there free priority interval addresses =
    first_refusal
    ((14, eqb 1 0)
    ∷ ((15, eqb priority 0)
    ∷ ((16, eqb interval 0)
    ∷ ((17, address_bytes_wrong addresses) ∷ ((18, is_found there) ∷ ((19, not (is_found free)) ∷ []))))))

-- `configured` as a table whose first place has the router: values of it are computed without a search of 255 places
abbrev first_of : ℕ → ℕ → ℕ → List ℕ → Memory
first_of primary priority interval addresses =
    record {
      words = set_record (empty_of primary) 0 (new_router 1 priority interval true (length addresses / 4));
      lists = set_list (replicate 16320 0) 0 addresses;
    }

abbrev made_by : ℕ → Found → ℕ → ℕ → ℕ → List ℕ → Memory
made_by refusal free primary priority interval addresses =
    record {
      words = cond (eqb refusal 0)
          (set_record (empty_of primary) (place_in free) (new_router 1 priority interval true (length addresses / 4)))
          (empty_of primary);
      lists = cond (eqb refusal 0) (set_list (replicate 16320 0) (place_in free) addresses) (replicate 16320 0);
    }

refused_none : (primary priority interval : ℕ) (addresses : List ℕ)
    → checked None (Some 0) priority interval addresses ≡ 0
    → configure_refusal (empty_of primary) 1 priority interval addresses ≡ 0
unfolding configure_refusal
refused_none primary priority interval addresses e =
    ap (λ (f : Found). checked f (place_of (empty_of primary) 0) priority interval addresses) (nowhere primary)
    ∙ ap (λ (f : Found). checked None f priority interval addresses) (first_free primary)
    ∙ e

configured_first : (primary priority interval : ℕ) (addresses : List ℕ) (calls : List Call)
    → checked None (Some 0) priority interval addresses ≡ 0
    → configured primary priority interval addresses calls ≡ after (first_of primary priority interval addresses) calls
configured_first primary priority interval addresses calls e =
    let r = refused_none primary priority interval addresses e in
    ap (λ (m : Memory). after m calls)
    (ap (λ (n : ℕ). made_by n (place_of (empty_of primary) 0) primary priority interval addresses) r
    ∙ ap (λ (f : Found). made_by 0 f primary priority interval addresses) (first_free primary))

-- the states of two stations when only the second has heard the first
abbrev one_hears : Memory → Memory → List State
one_hears a b = states_of (after_all 1 (a ∷ (b ∷ [])) (a ∷ (b ∷ [])) (deliver 0 1 ∷ []))

-- a station with the virtual address 192.168.1.254 whose first place has the router
abbrev master_at : ℕ → ℕ → Memory
master_at primary interval = after (first_of primary 100 interval virtual_address) taken_over

abbrev owner_at : ℕ → Memory
owner_at primary = after (first_of primary 255 1 virtual_address) (startup 1 room ∷ [])

abbrev other_address : List ℕ
other_address = 192 ∷ (168 ∷ (1 ∷ (253 ∷ [])))

-- what `Needed` says, of these
record Computed : Type 0 where
  owners : exchanged (owner_at 0xC0A80109) (owner_at 0xC0A8010A) ≡ two_masters
  primary : exchanged (master_at 0xC0A80109 1) (master_at 0xC0A80109 1) ≡ two_masters
  interval : exchanged (master_at 0xC0A80109 1) (master_at 0xC0A8010A 2) ≡ two_masters
  list : exchanged (master_at 0xC0A80109 1) (after (first_of 0xC0A8010A 100 1 other_address) taken_over) ≡ two_masters
  missing : one_hears (master_at 0xC0A80109 1) (master_at 0xC0A8010A 1) ≡ two_masters

computed : Computed
unfolding empty_of set_record set_event count_at_place place_of place_from router_place record_at decode_of encode_of set_list list_at their_list
    lists_match happened_of clocked_of heard_of acted_of step_of ticked_of router_refusal master_down_of
    advertisement_interval_of primary_of judged_of fields_of refusal_of cause_of header_sum_wrong not_ours version_wrong
    too_short message_sum_wrong plus sum_of message_checksum message_of header_checksum header_of packet_of frame_of
computed = record { owners = refl; primary = refl; interval = refl; list = refl; missing = refl }

-- what is computed of two stations holds of those that they are equal to
both : (f : Memory → Memory → List State) {a c b d : Memory} → a ≡ c → b ≡ d → f c d ≡ two_masters → f a b ≡ two_masters
both f {a} {c} {b} {d} e g h = ap (λ (m : Memory). f m b) e ∙ ap (λ (m : Memory). f c m) g ∙ h

leading_first : (primary interval : ℕ) (addresses : List ℕ) → checked None (Some 0) 100 interval addresses ≡ 0
    → configured primary 100 interval addresses taken_over ≡ after (first_of primary 100 interval addresses) taken_over
leading_first primary interval addresses e = configured_first primary 100 interval addresses taken_over e

pub needed : Needed
unfolding address_bytes_wrong
needed =
    let owner : (primary : ℕ) → configured primary 255 1 virtual_address (startup 1 room ∷ []) ≡ owner_at primary
    = λ primary. configured_first primary 255 1 virtual_address (startup 1 room ∷ []) refl in
    let leads : (primary : ℕ) → station_of leading primary ≡ master_at primary 1
    = λ primary. leading_first primary 1 virtual_address refl in
    record {
      owners = both exchanged (owner _) (owner _) computed.owners;
      primary = both exchanged (leads _) (leads _) computed.primary;
      interval = both exchanged (leads _) (leading_first _ 2 virtual_address refl) computed.interval;
      list = both exchanged (leads _) (leading_first _ 1 other_address refl) computed.list;
      missing = both one_hears (leads _) (leads _) computed.missing;
    }

-- the state that a station of the row has come to
abbrev pub state_of : Kind → State
state_of idle = Initialize
state_of waiting = Backup
state_of leading = Master

given_configure : Given (configure 1 100 1 true virtual_address)
given_configure = (omega arith, omega arith, omega arith, bytes_each virtual_address (omega arith))

given : (k : Kind) → GivenAll (configure 1 100 1 true virtual_address ∷ calls_of k)
given idle = (given_configure, tt)
given waiting = (given_configure, (tt, tt))
given leading = (given_configure, (tt, (tt, tt)))

module _ (primary : ℕ) where
  reached : primary < 2 ^ 32 → (k : Kind) → Reached (station_of k primary)
  reached fits k =
      record {
        primary = primary;
        fits = fits;
        lists = replicate 16320 0;
        bytes = zeros_listed.bytes;
        long = zeros_listed.long;
        history = configure 1 100 1 true virtual_address ∷ calls_of k;
        given = given k;
        reached = refl;
      }

  -- what a station of the row is, whatever its primary address
  abbrev pub Plain : Kind → Memory → Type 0
  Plain k m =
      (is_found (router_place m.words 1) ≡ true) × ((router_of 1 m).interval ≡ 1) × (addresses_of 1 m ≡ virtual_address)
      × (primary_address m ≡ primary) × ((router_of 1 m).priority ≡ 100) × ((router_of 1 m).state ≡ state_of k)

  plain_first : (k : Kind) → Plain k (after (first_of primary 100 1 virtual_address) (calls_of k))
  unfolding empty_of set_record set_event place_of place_from router_place record_at decode_of encode_of set_list list_at primary_of
      happened_of clocked_of acted_of step_of ticked_of master_down_of advertisement_interval_of
  plain_first idle = (refl, refl, refl, refl, refl, refl)
  plain_first waiting = (refl, refl, refl, refl, refl, refl)
  plain_first leading = (refl, refl, refl, refl, refl, refl)

  checked_first : checked None (Some 0) 100 1 virtual_address ≡ 0
  unfolding address_bytes_wrong
  checked_first = refl

  pub plain : (k : Kind) → Plain k (station_of k primary)
  plain k =
      subst (λ (m : Memory). Plain k m) (sym (configured_first primary 100 1 virtual_address (calls_of k) checked_first))
      (plain_first k)

  pub stands : primary < 2 ^ 32 → (k : Kind) → Stands 1 1 virtual_address (station_of k primary)
  stands fits k =
      let p = plain k in
      record {
        history = reached fits k;
        named = p.0;
        interval_is = p.1;
        addresses_are = p.2;
      }
