-- The arrays of a station: how long they are, and the parts of them that the code cuts out.
-- Assumes nothing.
use Rattle.std.proofs.Common.{◌≡◌, ℕ, ◌-◌, ◌*◌, ◌%◌, ◌<◌, length, take, drop, ap, ◌∙◌, mod-lt, arith}
use Rattle.std.specs.Prelude.{min}
use Rattle.std.proofs.Math.Seq.{length-take-le}
use Rattle.std.proofs.lemmas.List.{take_min, drop_min, take_rest}
use Rattle.station.specs.declared.station.Station.{Station}
use Rattle.station.specs.Station.{list_of, packet_of}

pub list_length : (s : Station) → length s.addresses ≡ 64 → length (list_of s) ≡ 4 * (s.router.count % 17)
unfolding list_of
list_length s long =
    let few : s.router.count % 17 < 17 = mod-lt s.router.count (omega arith) in
    length-take-le (4 * (s.router.count % 17)) s.addresses (omega arith)

-- the latest advertisement frame less its 14 Ethernet bytes: an end and a start that stay within the array
pub part_is_packet : (s : Station) (end start : ℕ) → length s.frame ≡ 114 → end ≡ min s.sent 114
    → start ≡ min (length (take end s.frame)) 14
    → take (length (take end s.frame) - start) (drop start (take end s.frame)) ≡ packet_of s
unfolding packet_of
part_is_packet s end start long e b =
    let frame = take end s.frame in
    let sent : frame ≡ take s.sent s.frame = rw (e, ← long) (take_min s.sent s.frame) in
    let head : start ≡ min 14 (length frame) = omega arith in
    take_rest frame start ∙ rw head (drop_min 14 frame) ∙ ap (drop 14) sent
