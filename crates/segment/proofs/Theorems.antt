-- The theorems that specs/Theorems.antt states.
-- Assumes nothing.
use mathlib.Core.Path.{◌≡◌, refl, sym, ap, subst, ◌∙◌}
use mathlib.Core.Logic.{◌⊎◌, inl, inr}
use mathlib.Core.List.{List, [], ◌∷◌}
use Prim.Native.Nat.{ℕ, ◌<◌}
use native.Mathlib.Omega.{arith}
use lib.ListN.{length}
use lib.Seq.{get_or-set_other}
use Rattle.states.specs.declared.record.State.{State}
use Rattle.states.specs.declared.record.State.TheVariants.{Initialize, Backup, Master}
use Rattle.configuring.specs.Configuring.{is_found}
use Rattle.histories.specs.Histories.{Memory}
use Rattle.std.proofs.lemmas.Bool.{cases_eq}
use Rattle.segment.specs.Segment.{router_of, IsMaster, station_at, Segment, Outranks}
use Rattle.segment.specs.Segment.{Delivery, handed_over, after_all, FromMasters, Has}
use Rattle.segment.specs.Theorems.{OneMaster, OneMasterRemains, MakesNoMaster, BeatenBy, NamesWhoBeatIt, LoneMaster}
use Rattle.segment.proofs.States.{not_master}
use Rattle.segment.proofs.Ranks.{above_asym, above_either, Greatest, the_greatest}
use Rattle.segment.proofs.Reached.{priority_small}
use Rattle.segment.proofs.Deliveries.{priority_of, address_of, Standing, begins, goes_on, makes_none}
use Rattle.segment.proofs.Deliveries.{other, goes_down, stands_up}

master_or_not : (s : State) → (s ≡ Master) ⊎ (s ≡ Master → ⊥)
master_or_not Initialize = inr (λ e. cc)
master_or_not Backup = inr not_master
master_or_not Master = inl refl

module _ (vrid interval : ℕ) (addresses : List ℕ) (then : List Memory) (segment : Segment vrid interval addresses then) where
  abbrev MasterOf : List Memory → ℕ → Type 0
  MasterOf stations i = IsMaster vrid (station_at stations i)

  abbrev OutranksOf : ℕ → ℕ → Type 0
  OutranksOf i j = Outranks vrid (station_at then i) (station_at then j)

  abbrev all : List Memory → List Delivery → List Memory
  all now deliveries = after_all vrid then now deliveries

  abbrev Stand : List Memory → Type 0
  Stand now = Standing vrid interval addresses then segment now

  all_standing : (now : List Memory) → Stand now → (ds : List Delivery) → FromMasters vrid then ds → Stand (all now ds)
  all_standing now s [] v = s
  all_standing now s (d ∷ rest) v =
      all_standing (handed_over vrid then now d)
      (goes_on vrid interval addresses then segment now s d v.0.0 v.0.1) rest v.1

  all_make_none : (now : List Memory) → Stand now → (ds : List Delivery) → FromMasters vrid then ds → (i : ℕ)
      → MasterOf (all now ds) i → MasterOf now i
  all_make_none now s [] v i h = h
  all_make_none now s (d ∷ rest) v i h =
      makes_none vrid interval addresses then segment now s d v.0.0 v.0.1 i
      (all_make_none (handed_over vrid then now d)
      (goes_on vrid interval addresses then segment now s d v.0.0 v.0.1) rest v.1 i h)

  -- a Master that no Master of that moment outranks stays Master
  all_stand_up : (now : List Memory) → Stand now → (ds : List Delivery) → FromMasters vrid then ds → (k : ℕ)
      → ((j : ℕ) → j < length then → MasterOf then j → OutranksOf j k → ⊥) → MasterOf now k → MasterOf (all now ds) k
  all_stand_up now s [] v k n h = h
  all_stand_up now s (d ∷ rest) v k n h =
      all_stand_up (handed_over vrid then now d)
      (goes_on vrid interval addresses then segment now s d v.0.0 v.0.1) rest v.1 k n
      (stands_up vrid interval addresses then segment now s d v.0.0 v.0.1 k
      (n d.from v.0.0 v.0.3) h)

  -- one that is no owner, and that hears a Master of higher rank, is no Master at the end
  all_go_down : (now : List Memory) → Stand now → (ds : List Delivery) → FromMasters vrid then ds → (k i : ℕ) → Has ds k i
      → (priority_of vrid interval addresses then segment i ≡ 255 → ⊥) → OutranksOf k i → MasterOf (all now ds) i → ⊥
  all_go_down now s [] v k i has n o h = has
  all_go_down now s (d ∷ rest) v k i (inr has) n o h =
      all_go_down (handed_over vrid then now d)
      (goes_on vrid interval addresses then segment now s d v.0.0 v.0.1) rest v.1 k i has n o h
  all_go_down now s (d ∷ rest) v k i (inl e) n o h =
      let next = handed_over vrid then now d in
      let on = goes_on vrid interval addresses then segment now s d v.0.0 v.0.1 in
      goes_down vrid interval addresses then segment now s d v.0.0 v.0.1 (λ z. n (rw (← e.1) z))
      (rw (e.0, e.1) o) (subst (MasterOf next) (sym e.1) (all_make_none next on rest v.1 i h))

  abbrev priority : ℕ → ℕ
  priority i = priority_of vrid interval addresses then segment i

  abbrev address : ℕ → ℕ
  address i = address_of vrid interval addresses then segment i

  -- the greatest of the Masters
  top : Greatest (MasterOf then) (λ i. master_or_not (router_of vrid (station_at then i)).state) priority address (length then)
      segment.apart (length then)
  top =
      the_greatest (MasterOf then) (λ i. master_or_not (router_of vrid (station_at then i)).state) priority address (length then)
      segment.apart segment.master segment.below segment.masters

  -- nobody outranks it
  unbeaten_test : (j : ℕ) → j < length then → MasterOf then j → OutranksOf j top.which → (j ≡ top.which) ⊎ (j ≡ top.which → ⊥) → ⊥
  unbeaten_test j l h o (inl e) =
      let t : OutranksOf top.which top.which = subst (λ (x : ℕ). OutranksOf x top.which) e o in
      above_asym (priority top.which) (address top.which) (priority top.which) (address top.which) t t
  unbeaten_test j l h o (inr e) =
      above_asym (priority j) (address j) (priority top.which) (address top.which) o (top.greatest j l e h)

  -- a Master below it is no owner: there is at most one
  owner_test : (i : ℕ) → i < length then → (i ≡ top.which → ⊥) → OutranksOf top.which i → priority i ≡ 255 → ⊥
  owner_test i l e o p = e (segment.owner i top.which l top.below p (greatest_owner o))
    where
      small : priority top.which < 256
      small = priority_small vrid interval addresses (station_at then top.which) (segment.each top.which top.below)

      greatest_owner : OutranksOf top.which i → priority top.which ≡ 255
      greatest_owner (inl x) = omega (arith, small)
      greatest_owner (inr x) = omega (arith, small, x.0)

  alone_test : (ds : List Delivery) → FromMasters vrid then ds
      → ((from to : ℕ) → from < length then → to < length then → (to ≡ from → ⊥) → MasterOf then from → Has ds from to)
      → (i : ℕ) → i < length then → MasterOf (all then ds) i → (i ≡ top.which) ⊎ (i ≡ top.which → ⊥) → i ≡ top.which
  alone_test ds v pairs i l h (inl e) = e
  alone_test ds v pairs i l h (inr e) =
      let b = begins vrid interval addresses then segment in
      let o = top.greatest i l e (all_make_none then b ds v i h) in
      absurd
      (all_go_down then b ds v top.which i (pairs top.which i top.below l e top.chosen) (owner_test i l e o) o h)

  pub one_master : (ds : List Delivery) → FromMasters vrid then ds
      → ((from to : ℕ) → from < length then → to < length then → (to ≡ from → ⊥) → MasterOf then from → Has ds from to)
      → OneMaster vrid then (all then ds)
  one_master ds v pairs =
      let b = begins vrid interval addresses then segment in
      record {
        stations = (all_standing then b ds v).same;
        found = λ i l. ap is_found ((all_standing then b ds v).on i l).found;
        station = top.which;
        below = top.below;
        was = top.chosen;
        greatest = top.greatest;
        remains =
            all_stand_up then b ds v top.which (λ j l h o. unbeaten_test j l h o (cases_eq j top.which)) top.chosen;
        alone = λ i l h. alone_test ds v pairs i l h (cases_eq i top.which);
      }

  -- a delivery by which a station is no Master any more came to it from one that outranks it
  abbrev Beaten : List Delivery → ℕ → Type 0
  Beaten ds i = BeatenBy vrid then ds i

  later : (d : Delivery) (rest : List Delivery) (i : ℕ) → Beaten rest i → Beaten (d ∷ rest) i
  later d rest i b =
      record {
        station = b.station;
        below = b.below;
        master = b.master;
        delivered = inr b.delivered;
        outranks = b.outranks;
      }

  module _ (now : List Memory) (stand : Stand now) (d : Delivery) (rest : List Delivery) (v : FromMasters vrid then (d ∷ rest))
      (i : ℕ) (h : MasterOf now i) (n : MasterOf (handed_over vrid then now d) i → ⊥) where
    hit_test : (d.to ≡ i) ⊎ (d.to ≡ i → ⊥) → d.to ≡ i
    hit_test (inl e) = e
    hit_test (inr e) =
        absurd
        (n
        (subst (IsMaster vrid)
        (sym (other vrid interval addresses then segment now stand d v.0.0 v.0.1 i (λ z. e (sym z)))) h))

    hit : d.to ≡ i
    hit = hit_test (cases_eq d.to i)

    apart : address d.from ≡ address i → ⊥
    apart e =
        let below : i < length then = subst (λ (k : ℕ). k < length then) hit v.0.1 in
        v.0.2 (hit ∙ sym (segment.apart d.from i v.0.0 below e))

    rank_test : OutranksOf d.from i ⊎ OutranksOf i d.from → Beaten (d ∷ rest) i
    rank_test (inl o) =
        record {
          station = d.from;
          below = v.0.0;
          master = v.0.3;
          delivered = inl (refl, hit);
          outranks = o;
        }
    rank_test (inr o) =
        absurd
        (n
        (stands_up vrid interval addresses then segment now stand d v.0.0 v.0.1 i
        (λ z. above_asym (priority d.from) (address d.from) (priority i) (address i) z o) h))

    beaten_now : Beaten (d ∷ rest) i
    beaten_now = rank_test (above_either (priority d.from) (address d.from) (priority i) (address i) apart)

  -- the first delivery unmade it, or a later one
  first_or_later : (now : List Memory) → Stand now → (d : Delivery) (rest : List Delivery) → FromMasters vrid then (d ∷ rest)
      → (i : ℕ) → MasterOf now i → (MasterOf (handed_over vrid then now d) i → Beaten rest i)
      → MasterOf (handed_over vrid then now d) i ⊎ (MasterOf (handed_over vrid then now d) i → ⊥) → Beaten (d ∷ rest) i
  first_or_later now s d rest v i h f (inl x) = later d rest i (f x)
  first_or_later now s d rest v i h f (inr x) = beaten_now now s d rest v i h x

  pub beaten : (now : List Memory) → Stand now → (ds : List Delivery) → FromMasters vrid then ds → (i : ℕ) → MasterOf now i
      → (MasterOf (all now ds) i → ⊥) → Beaten ds i
  beaten now s [] v i h n = absurd (n h)
  beaten now s (d ∷ rest) v i h n =
      first_or_later now s d rest v i h
      (λ x.
      beaten (handed_over vrid then now d)
      (goes_on vrid interval addresses then segment now s d v.0.0 v.0.1) rest v.1 i x n)
      (master_or_not (router_of vrid (station_at (handed_over vrid then now d) i)).state)

pub one_master_remains : OneMasterRemains
one_master_remains vrid interval addresses stations deliveries segment v pairs =
    one_master vrid interval addresses stations segment deliveries v pairs

pub makes_no_master : MakesNoMaster
makes_no_master vrid interval addresses stations deliveries segment v i h =
    all_make_none vrid interval addresses stations segment stations
    (begins vrid interval addresses stations segment) deliveries v i h

pub names_who_beat_it : NamesWhoBeatIt
names_who_beat_it vrid interval addresses stations deliveries segment v i h n =
    beaten vrid interval addresses stations segment stations (begins vrid interval addresses stations segment) deliveries v i h n

lone : (vrid : ℕ) (then now : List Memory) (ds : List Delivery) → FromMasters vrid then ds → (k : ℕ)
    → ((i : ℕ) → i < length then → IsMaster vrid (station_at then i) → i ≡ k)
    → station_at (after_all vrid then now ds) k ≡ station_at now k
lone vrid then now [] v k only = refl
lone vrid then now (d ∷ rest) v k only =
    lone vrid then (handed_over vrid then now d) rest v.1 k only
    ∙ get_or-set_other now d.to k _ _ (λ e. v.0.2 (sym e ∙ sym (only d.from v.0.0 v.0.3)))

pub lone_master : LoneMaster
lone_master vrid stations deliveries v k only = lone vrid stations stations deliveries v k only
