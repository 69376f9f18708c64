-- The rows of the state-by-event table by their numbers: what state and event a number stands for, and what then happens.
-- Assumes nothing.
use Rattle.std.proofs.Common.{◌≡◌, ℕ, ◌+◌, ◌*◌, ◌<◌, ◌≤◌, cond, eqb, sym, refl, ap, ◌∙◌, arith, eq-eqb, ne_eqb}
use Rattle.states.specs.declared.record.State.{State}
use Rattle.states.specs.declared.record.State.TheVariants.{Initialize, Backup, Master}
use Rattle.states.specs.declared.record.Router.{Router}
use Rattle.states.specs.declared.step.Event.{Event}
use Rattle.states.specs.declared.step.Event.TheVariants.{Startup, Shutdown, Timer, Packet}
use Rattle.states.specs.declared.step.Writes.TheVariants.{Nothing, Farewell}
use Rattle.states.specs.Step.{state_number, event_number, event_priority, event_source, stays, waits, hurries, stops, advertises}
use Rattle.states.specs.Step.{takes_over, heard_by_backup, heard_by_master, step_in, step_of}

pub state_most : (s : State) → state_number s ≤ 2
state_most Initialize = omega arith
state_most Backup = omega arith
state_most Master = omega arith

pub event_most : (e : Event) → event_number e ≤ 3
event_most Startup = omega arith
event_most Shutdown = omega arith
event_most Timer = omega arith
event_most (Packet p q) = omega arith

-- which state a number is
is_initialize : (s : State) → state_number s ≡ 0 → s ≡ Initialize
is_initialize Initialize e = refl
is_initialize Backup e = absurd (omega arith)
is_initialize Master e = absurd (omega arith)

is_backup : (s : State) → state_number s ≡ 1 → s ≡ Backup
is_backup Initialize e = absurd (omega arith)
is_backup Backup e = refl
is_backup Master e = absurd (omega arith)

is_master_lem : (s : State) → state_number s ≡ 2 → s ≡ Master
is_master_lem Initialize e = absurd (omega arith)
is_master_lem Backup e = absurd (omega arith)
is_master_lem Master e = refl

-- which event a number is
is_startup : (e : Event) → event_number e ≡ 0 → e ≡ Startup
is_startup Startup h = refl
is_startup Shutdown h = absurd (omega arith)
is_startup Timer h = absurd (omega arith)
is_startup (Packet p q) h = absurd (omega arith)

is_shutdown : (e : Event) → event_number e ≡ 1 → e ≡ Shutdown
is_shutdown Startup h = absurd (omega arith)
is_shutdown Shutdown h = refl
is_shutdown Timer h = absurd (omega arith)
is_shutdown (Packet p q) h = absurd (omega arith)

is_timer : (e : Event) → event_number e ≡ 2 → e ≡ Timer
is_timer Startup h = absurd (omega arith)
is_timer Shutdown h = absurd (omega arith)
is_timer Timer h = refl
is_timer (Packet p q) h = absurd (omega arith)

is_packet : (e : Event) (ours : ℕ) → event_number e ≡ 3 → e ≡ Packet (event_priority e ours) (event_source e)
is_packet Startup ours h = absurd (omega arith)
is_packet Shutdown ours h = absurd (omega arith)
is_packet Timer ours h = absurd (omega arith)
is_packet (Packet p q) ours h = refl

-- the number of a row: state, event, and the priority that it turns on
abbrev pub row_of : Router → Event → ℕ
row_of r e = 4096 * state_number r.state + 256 * event_number e + event_priority e r.priority

module _ (primary : ℕ) (r : Router) (e : Event) (small : event_priority e r.priority < 256) where
  abbrev row : ℕ
  row = row_of r e

  in_row : (s : State) (f : Event) → r.state ≡ s → e ≡ f → step_of primary r e ≡ step_in s f primary r
  unfolding step_of
  in_row s f a b = rw (a, b)

  pub owner_starts : row ≡ 0x00FF → takes_over r ≡ step_of primary r e
  owner_starts h =
      let f = is_startup e (omega (arith, event_most e)) in
      let p : r.priority ≡ 255 = sym (ap (λ (x : Event). event_priority x r.priority) f) ∙ omega (arith, event_most e) in
      sym (in_row Initialize Startup (is_initialize r.state (omega arith)) f ∙ rw (eq-eqb r.priority 255 p))

  pub other_starts : row ≤ 0x00FE → waits r ≡ step_of primary r e
  other_starts h =
      let f = is_startup e (omega (arith, event_most e)) in
      let q = ap (λ (x : Event). event_priority x r.priority) f in
      sym (in_row Initialize Startup (is_initialize r.state (omega arith)) f
      ∙ rw (ne_eqb r.priority 255 (λ z. omega (arith, event_most e))))

  pub backup_stops : 0x1100 ≤ row → row ≤ 0x11FF → stops r Nothing ≡ step_of primary r e
  backup_stops a b =
      sym (in_row Backup Shutdown (is_backup r.state (omega (arith, event_most e))) (is_shutdown e (omega (arith, event_most e))))

  pub backup_fires : 0x1200 ≤ row → row ≤ 0x12FF → takes_over r ≡ step_of primary r e
  backup_fires a b =
      sym (in_row Backup Timer (is_backup r.state (omega (arith, event_most e))) (is_timer e (omega (arith, event_most e))))

  backup_hears : 0x1300 ≤ row → row ≤ 0x13FF → step_of primary r e
      ≡ cond (eqb (event_priority e r.priority) 0) (hurries r) (heard_by_backup r (event_priority e r.priority))
  backup_hears a b =
      in_row Backup (Packet (event_priority e r.priority) (event_source e)) (is_backup r.state (omega (arith, event_most e)))
      (is_packet e r.priority (omega (arith, event_most e)))

  pub backup_hears_farewell : row ≡ 0x1300 → hurries r ≡ step_of primary r e
  backup_hears_farewell h =
      sym (backup_hears (omega arith) (omega arith)
      ∙ rw (eq-eqb (event_priority e r.priority) 0 (omega (arith, event_most e, state_most r.state))))

  pub backup_hears_other : 0x1301 ≤ row → row ≤ 0x13FF → heard_by_backup r (event_priority e r.priority) ≡ step_of primary r e
  backup_hears_other a b =
      sym (backup_hears (omega arith) b
      ∙ rw (ne_eqb (event_priority e r.priority) 0 (λ z. omega (arith, event_most e, state_most r.state))))

  pub master_stops : 0x2100 ≤ row → row ≤ 0x21FF → stops r Farewell ≡ step_of primary r e
  master_stops a b =
      sym (in_row Master Shutdown (is_master_lem r.state (omega (arith, event_most e))) (is_shutdown e (omega (arith, event_most e, state_most r.state))))

  pub master_fires : 0x2200 ≤ row → row ≤ 0x22FF → advertises r ≡ step_of primary r e
  master_fires a b =
      sym (in_row Master Timer (is_master_lem r.state (omega (arith, event_most e))) (is_timer e (omega (arith, event_most e, state_most r.state))))

  master_hears : 0x2300 ≤ row → row ≤ 0x23FF → step_of primary r e
      ≡ cond (eqb (event_priority e r.priority) 0) (advertises r)
      (heard_by_master primary r (event_priority e r.priority) (event_source e))
  master_hears a b =
      in_row Master (Packet (event_priority e r.priority) (event_source e)) (is_master_lem r.state (omega (arith, event_most e)))
      (is_packet e r.priority (omega (arith, event_most e, state_most r.state)))

  pub master_hears_farewell : row ≡ 0x2300 → advertises r ≡ step_of primary r e
  master_hears_farewell h =
      sym (master_hears (omega arith) (omega arith)
      ∙ rw (eq-eqb (event_priority e r.priority) 0 (omega (arith, event_most e, state_most r.state))))

  pub master_hears_other : 0x2301 ≤ row → row ≤ 0x23FF
      → heard_by_master primary r (event_priority e r.priority) (event_source e) ≡ step_of primary r e
  master_hears_other a b =
      sym (master_hears (omega arith) b
      ∙ rw (ne_eqb (event_priority e r.priority) 0 (λ z. omega (arith, event_most e, state_most r.state))))

-- a number in no row: the event changes nothing
unlisted : (s : State) (e : Event) (primary : ℕ) (r : Router) (p : ℕ) → p < 256 → p ≡ event_priority e r.priority
    → 0x00FF < 4096 * state_number s + 256 * event_number e + p
    → (0x1100 ≤ 4096 * state_number s + 256 * event_number e + p → 4096 * state_number s + 256 * event_number e + p ≤ 0x13FF → ⊥)
    → (0x2100 ≤ 4096 * state_number s + 256 * event_number e + p → 4096 * state_number s + 256 * event_number e + p ≤ 0x23FF → ⊥)
    → stays r ≡ step_in s e primary r
unlisted Initialize Startup primary r p l q a b m = absurd (omega arith)
unlisted Initialize Shutdown primary r p l q a b m = refl
unlisted Initialize Timer primary r p l q a b m = refl
unlisted Initialize (Packet x y) primary r p l q a b m = refl
unlisted Backup Startup primary r p l q a b m = refl
unlisted Backup Shutdown primary r p l q a b m = absurd (b (omega arith) (omega arith))
unlisted Backup Timer primary r p l q a b m = absurd (b (omega arith) (omega arith))
unlisted Backup (Packet x y) primary r p l q a b m = absurd (b (omega arith) (omega arith))
unlisted Master Startup primary r p l q a b m = refl
unlisted Master Shutdown primary r p l q a b m = absurd (m (omega arith) (omega arith))
unlisted Master Timer primary r p l q a b m = absurd (m (omega arith) (omega arith))
unlisted Master (Packet x y) primary r p l q a b m = absurd (m (omega arith) (omega arith))

pub stays_unlisted : (primary : ℕ) (r : Router) (e : Event) → event_priority e r.priority < 256
    → 0x00FF < row_of r e
    → (0x1100 ≤ row_of r e → row_of r e ≤ 0x13FF → ⊥) → (0x2100 ≤ row_of r e → row_of r e ≤ 0x23FF → ⊥)
    → stays r ≡ step_of primary r e
unfolding step_of
stays_unlisted primary r e small a b m = unlisted r.state e primary r (event_priority e r.priority) small refl a b m
