-- A station that hears a packet keeps its latest advertisement, or is Master: a Master advertises on a farewell alone.
-- Assumes nothing.
use mathlib.Core.Path.{◌≡◌, refl}
use mathlib.Core.Logic.{◌⊎◌, inl, inr}
use mathlib.Core.Bool.{Bool, true, false, cond, not, ◌&&◌, ◌||◌}
use mathlib.Core.List.{List}
use Prim.Native.Nat.{ℕ, ◌+◌}
use lib.Dec.{eqb, ltb, leb}
use lib.ListN.{length, take}
use Rattle.judging.specs.Judging.{Judged, judged_of}
use Rattle.std.specs.Prelude.{Ok, Err}
use Rattle.states.specs.declared.record.Router.{Router}
use Rattle.states.specs.declared.record.State.{State}
use Rattle.states.specs.declared.record.State.TheVariants.{Initialize, Backup, Master}
use Rattle.states.specs.declared.step.Event.TheVariants.{Packet}
use Rattle.states.specs.declared.step.Writes.TheVariants.{Nothing}
use Rattle.states.specs.declared.step.Outcome.{Outcome}
use Rattle.states.specs.Step.{stays, waits, hurries, advertises, beats, heard_by_backup, heard_by_master, step_in, step_of}
use Rattle.router.specs.Accept.{accepted_of}
use Rattle.station.specs.declared.station.Station.{Station}
use Rattle.station.specs.Station.{Result, has_router, list_of, with_router, with_frame}
use Rattle.station.specs.Acting.{written_by, needed_by, kept_by, acted_by}
use Rattle.hearing.specs.Hearing.{counted_by, refusal_by, accepted_outcome, accepted_by, judged_by, heard_by}

abbrev QuietOrMaster : Outcome → Type 0
QuietOrMaster o = (o.writes ≡ Nothing) ⊎ (o.router.state ≡ Master)

either_outcome : (t : Bool) (a b : Outcome) → QuietOrMaster a → QuietOrMaster b → QuietOrMaster (cond t a b)
either_outcome true a b x y = x
either_outcome false a b x y = y

packet_in : (state : State) (primary : ℕ) (r : Router) (priority source : ℕ)
    → QuietOrMaster (step_in state (Packet priority source) primary r)
packet_in Initialize primary r priority source = inl refl
packet_in Backup primary r priority source =
    either_outcome (eqb priority 0) (hurries r) (heard_by_backup r priority) (inl refl)
    (either_outcome (not r.preempt || leb r.priority priority) (waits r) (stays r) (inl refl) (inl refl))
packet_in Master primary r priority source =
    either_outcome (eqb priority 0) (advertises r) (heard_by_master primary r priority source) (inr refl)
    (either_outcome (beats primary r priority source) (waits r) (stays r) (inl refl) (inl refl))

packet_step : (primary : ℕ) (r : Router) (priority source : ℕ)
    → QuietOrMaster (step_of primary r (Packet priority source))
unfolding step_of
packet_step primary r priority source = packet_in r.state primary r priority source

-- the latest advertisement is as it was, or the station is Master
abbrev pub KeptOrMaster : Station → Station → Type 0
KeptOrMaster s after = ((after.sent ≡ s.sent) × (after.frame ≡ s.frame)) ⊎ (after.router.state ≡ Master)

either_kept : (s : Station) (t : Bool) (a b : Result) → KeptOrMaster s a.station → KeptOrMaster s b.station
    → KeptOrMaster s (cond t a b).station
either_kept s true a b x y = x
either_kept s false a b x y = y

framed : (t : Bool) (s : Station) (r : Router) (bytes : List ℕ) → r.state ≡ Master
    → (cond t (with_router s r) (with_frame (with_router s r) bytes)).router.state ≡ Master
framed true s r bytes e = e
framed false s r bytes e = e

kept_or_master : (s : Station) (o : Outcome) → QuietOrMaster o → KeptOrMaster s (kept_by s o)
kept_or_master s o (inl e) = inl (rw e (refl, refl))
kept_or_master s o (inr e) =
    inr (framed (eqb (needed_by s o) 0) s o.router (take (50 + length (list_of s)) (written_by s o)) e)

acted : (s : Station) (o : Outcome) (room : List ℕ) → QuietOrMaster o → KeptOrMaster s (acted_by s o 0 room).station
unfolding acted_by
acted s o room q = either_kept s (ltb (length room) (needed_by s o)) _ _ (inl (refl, refl)) (kept_or_master s o q)

counted : (s : Station) (number : ℕ) → KeptOrMaster s (counted_by s number)
unfolding counted_by
counted s number = inl (refl, refl)

judged : (j : Judged) (s : Station) (packet room : List ℕ) → KeptOrMaster s (judged_by j s packet room).station
judged (Err number) s packet room = counted s number
judged (Ok f) s packet room =
    let quiet = packet_step s.primary (accepted_of s.router) f.priority f.source in
    either_kept s (has_router s && eqb f.vrid s.router.vrid) (accepted_by s packet f room) _
    (either_kept s (eqb (refusal_by s packet f) 0) _ _ (acted s (accepted_outcome s f) room quiet) (inl (refl, refl)))
    (counted s 9)

pub heard : (s : Station) (packet room : List ℕ) → KeptOrMaster s (heard_by s packet room).station
unfolding heard_by
heard s packet room = judged (judged_of packet) s packet room
