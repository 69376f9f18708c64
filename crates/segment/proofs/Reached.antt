-- What a station's history says of it: its primary address and its address list fit in an advertisement, which is the
-- segment's.
-- Assumes nothing.
use mathlib.Core.Path.{◌≡◌, refl, sym, ap, subst, ◌∙◌}
use mathlib.Core.List.{List}
use mathlib.Core.Bool.{false}
use Prim.Native.Nat.{ℕ, ◌*◌, ◌%◌, ◌^◌, ◌≤◌, ◌<◌}
use native.Mathlib.Omega.{arith}
use lib.ListN.{length}
use borrow.Author.Tests.{eq-eqb, ne_eqb, le-ltb}
use Rattle.sums.specs.Sum.{Bytes}
use Rattle.writing.specs.Frame.{frame_of}
use Rattle.writing.specs.Writing.{address_bytes_wrong}
use Rattle.places.proofs.Records.{read_in_range}
use Rattle.histories.specs.Histories.{Memory, begun}
use Rattle.events.proofs.Listed.{list_length}
use Rattle.histories.proofs.Held.{Held}
use Rattle.histories.proofs.Begun.{empty_held}
use Rattle.histories.proofs.Histories.{history_held}
use Rattle.histories.proofs.Lists.{Listed, list_bytes, history_listed}
use Rattle.histories.proofs.Stays.{primary_stays}
use Rattle.histories.specs.Rows.{place_for}
use Rattle.segment.specs.Segment.{router_of, primary_address, Reached, Stands, advertisement_of}
use Rattle.segment.proofs.Standing.{On, word, on_vrid, on_configured, found_is}
use Rattle.segment.proofs.Handing.{told}

reached_held : (m : Memory) → Reached m → Held m.words
reached_held m h =
    subst (λ (x : Memory). Held x.words) (sym h.reached)
    (history_held (begun h.primary h.lists) h.history h.given (empty_held h.primary))

-- its lists are bytes still, and as many
reached_listed : (m : Memory) → Reached m → Listed m.lists
reached_listed m h =
    subst (λ (x : Memory). Listed x.lists) (sym h.reached)
    (history_listed (begun h.primary h.lists) h.history h.given (empty_held h.primary)
    (record { bytes = h.bytes; long = h.long }))

-- and its primary address is the one that it was made with
reached_fits : (m : Memory) → Reached m → primary_address m < 2 ^ 32
reached_fits m h =
    let e = ap primary_address h.reached ∙ primary_stays h.primary h.lists h.history h.given in
    subst (λ (x : ℕ). x < 2 ^ 32) (sym e) h.fits

module _ (vrid interval : ℕ) (addresses : List ℕ) (m : Memory) (stands : Stands vrid interval addresses m) where
  pub stands_on : On vrid interval addresses (primary_address m) (router_of vrid m).priority m
  stands_on =
      record {
        held = reached_held m stands.history;
        found = found_is _ stands.named;
        interval_is = stands.interval_is;
        addresses_are = stands.addresses_are;
        primary_is = refl;
        priority_is = refl;
      }

  abbrev place : ℕ
  place = place_for m.words vrid

  vrid_is : (router_of vrid m).vrid ≡ vrid
  vrid_is = on_vrid vrid interval addresses _ _ m stands_on

  pub primary_small : primary_address m < 2 ^ 32
  primary_small = reached_fits m stands.history

  configured : (1 ≤ (router_of vrid m).interval) × (1 ≤ (router_of vrid m).priority) × (1 ≤ (router_of vrid m).count)
      × ((router_of vrid m).count ≤ 16)
  configured = on_configured vrid interval addresses _ _ m stands_on

  -- its address list: 4 bytes for each of 1 to 16 addresses
  pub list_small : Bytes addresses
  list_small =
      subst Bytes stands.addresses_are
      (list_bytes m.lists place (router_of vrid m).count (reached_listed m stands.history).bytes)

  pub list_long : length addresses ≡ 4 * (router_of vrid m).count
  list_long =
      ap length (sym stands.addresses_are)
      ∙ list_length m.lists place (router_of vrid m).count (word vrid interval addresses _ _ m stands_on).0 configured.3
      (reached_listed m stands.history).long

  pub list_right : address_bytes_wrong addresses ≡ false
  unfolding address_bytes_wrong
  list_right =
      let n = length addresses in
      rw (
        eq-eqb (n % 4) 0 (omega (arith, list_long)),
        ne_eqb n 0 (λ z. omega (arith, list_long, configured)),
        le-ltb 64 n (omega (arith, list_long, configured)),
      )

  pub vrid_small : vrid < 256
  vrid_small = omega (arith, vrid_is, (read_in_range m.words place).vrid)

  pub interval_small : interval < 256
  interval_small = omega (arith, stands.interval_is, (read_in_range m.words place).interval)

  pub priority_small : (router_of vrid m).priority < 256
  priority_small = (read_in_range m.words place).priority

  pub priority_some : 1 ≤ (router_of vrid m).priority
  priority_some = configured.1

  -- its advertisement is the segment's, with its own priority and address
  pub advertised : advertisement_of vrid m ≡ told vrid interval addresses (router_of vrid m).priority (primary_address m)
  unfolding frame_of
  advertised = rw (vrid_is, stands.interval_is, stands.addresses_are)
