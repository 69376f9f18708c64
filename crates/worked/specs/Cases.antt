-- The cases that 01 marks P under 'Both sides of each line': one list, in 01's order.
use Rattle.std.specs.Prelude.{ℕ, ◌≡◌, Bool, true, false, List, [], ◌∷◌, ◌++◌, take, drop, replicate}
use Rattle.writing.specs.Frame.{header_of, message_of}
use Rattle.states.specs.declared.record.State.{State}
use Rattle.states.specs.declared.record.State.TheVariants.{Backup, Master}
use Rattle.states.specs.declared.record.Router.{Router}
use Rattle.states.specs.declared.step.Event.TheVariants.{Packet}
use Rattle.states.specs.declared.step.Outcome.{Outcome}
use Rattle.states.specs.declared.step.Writes.TheVariants.{Nothing, Takeover}
use Rattle.router.specs.declared.clock.Ticked.{Ticked}
use Rattle.states.specs.Timers.{master_down_of}
use Rattle.states.specs.Step.{step_of}
use Rattle.router.specs.Clock.{ticked_of}

-- every claim of a list holds
abbrev pub Hold : List (Type 0) → Type 0
Hold [] = Unit
Hold (claim ∷ rest) = claim × Hold rest

-- a router with P 100 and A 1, in a state with a timer, that became Master so many times
abbrev pub router_at : State → ℕ → Bool → ℕ → Router
router_at state timer preempt became =
    record {
      vrid = 1;
      priority = 100;
      interval = 1;
      preempt = preempt;
      state = state;
      timer = timer;
      count = 1;
      counts = record { accepted = 0; became = became; owner = 0; authentication = 0; list = 0; interval = 0 };
    }

-- Backup with a timer, and nothing is written
abbrev pub backup_at : ℕ → Bool → Outcome
backup_at timer preempt = record { router = router_at Backup timer preempt 0; writes = Nothing }

-- Master with a timer, and nothing is written
abbrev pub master_at : ℕ → Outcome
master_at timer = record { router = router_at Master timer true 0; writes = Nothing }

-- "advertise, ARP for each address, timer 256A, Master", which counts
abbrev pub took_over : Outcome
took_over = record { router = router_at Master 256 true 1; writes = Takeover }

-- a Backup with its whole master down interval before it, and so many ticks later
abbrev pub after : ℕ → Ticked
after ticks = ticked_of 0xC0A8010A (router_at Backup 924 true 0) ticks

-- 192.168.1.10 as Master, with a timer that no rule sets, hears priority 100 from an address
abbrev pub heard_from : ℕ → Outcome
heard_from source = step_of 0xC0A8010A (router_at Master 200 true 0) (Packet 100 source)

-- a Backup with a timer that no rule sets hears priority 1
abbrev pub hears_one : Bool → Outcome
hears_one preempt = step_of 0xC0A8010A (router_at Backup 500 preempt 0) (Packet 1 0xC0A80109)

-- 192.168.1.254
abbrev pub address : List ℕ
address = 192 ∷ (168 ∷ (1 ∷ (254 ∷ [])))

-- what 01 says of times
abbrev pub time_cases : List (Type 0)
time_cases =
    -- "A 1, P 254: master down 770 ticks"; "A 5, P 100: 3,996"; "A 1, P 100: 924"
    (master_down_of 254 1 ≡ 770)
    ∷ ((master_down_of 100 5 ≡ 3996)
    ∷ ((master_down_of 100 1 ≡ 924)
    -- "a step of 923 leaves 1"
    ∷ ((after 923 ≡ record { outcome = backup_at 1 true; leftover = 0 })
    -- "924 fires with leftover 0, 930 fires with leftover 6"
    ∷ ((after 924 ≡ record { outcome = took_over; leftover = 0 })
    ∷ ((after 930 ≡ record { outcome = took_over; leftover = 6 }) ∷ [])))))

-- what 01 says of bytes
abbrev pub byte_cases : List (Type 0)
byte_cases =
    -- "VRID 1, priority 100, A 1, address 192.168.1.254: `21 01 64 01 00 01 B8 55 C0 A8 01 FE` and 8 zeros"
    (message_of 1 100 1 address
    ≡ (0x21 ∷ (0x01 ∷ (0x64 ∷ (0x01 ∷ (0x00 ∷ (0x01 ∷ (0xB8 ∷ (0x55 ∷ []))))))))
    ++ (0xC0 ∷ (0xA8 ∷ (0x01 ∷ (0xFE ∷ replicate 8 0)))))
    -- "the same with priority 0: checksum `1C 56`"
    ∷ ((take 2 (drop 6 (message_of 1 0 1 address)) ≡ 0x1C ∷ (0x56 ∷ []))
    -- "from 192.168.1.2 its IP header is `45 00 00 28 00 00 40 00 FF 70 D9 A8 C0 A8 01 02 E0 00 00 12`"
    ∷ ((header_of 0xC0A80102 address
    ≡ (0x45 ∷ (0x00 ∷ (0x00 ∷ (0x28 ∷ (0x00 ∷ (0x00 ∷ (0x40 ∷ (0x00 ∷ (0xFF ∷ (0x70 ∷ []))))))))))
    ++ (0xD9 ∷ (0xA8 ∷ (0xC0 ∷ (0xA8 ∷ (0x01 ∷ (0x02 ∷ (0xE0 ∷ (0x00 ∷ (0x00 ∷ (0x12 ∷ [])))))))))))
    ∷ []))

-- what 01 says of states
abbrev pub state_cases : List (Type 0)
state_cases =
    -- "Master at P 100 and 192.168.1.10: priority 100 from 192.168.1.9 or .10 changes no state or timer; from .11 Backup"
    (heard_from 0xC0A80109 ≡ master_at 200)
    ∷ ((heard_from 0xC0A8010A ≡ master_at 200)
    ∷ ((heard_from 0xC0A8010B ≡ backup_at 924 true)
    -- "Backup, preempt no, P 100, packet priority 1: timer is master down; preempt yes: unchanged"
    ∷ ((hears_one false ≡ backup_at 924 false) ∷ ((hears_one true ≡ backup_at 500 true) ∷ []))))

-- all of them
abbrev pub cases : List (Type 0)
cases = time_cases ++ (byte_cases ++ state_cases)
