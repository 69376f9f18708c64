-- What an event has a router write (01, 'State by event' and 'Bytes'). The addresses stand as bytes, four for each.
use Rattle.std.specs.Prelude.{ℕ, ◌+◌, ◌*◌, ◌/◌, List, [], ◌∷◌, ◌++◌}
use Rattle.sums.specs.Number.{number_of}
use Rattle.writing.specs.Frame.{frame_of}
use Rattle.writing.specs.Arp.{arp_of}
use Rattle.states.specs.declared.record.Router.{Router}
use Rattle.states.specs.declared.step.Writes.{Writes}
use Rattle.states.specs.declared.step.Writes.TheVariants.{Nothing, Advertisement, Farewell, Takeover}

-- "ARPs in configured order": a frame for each four bytes, none for fewer
unfoldable pub arps_of : ℕ → List ℕ → List ℕ
arps_of vrid [] = []
arps_of vrid (a ∷ []) = []
arps_of vrid (a ∷ (b ∷ [])) = []
arps_of vrid (a ∷ (b ∷ (c ∷ []))) = []
arps_of vrid (a ∷ (b ∷ (c ∷ (d ∷ rest)))) = arp_of vrid (number_of a b c d) ++ arps_of vrid rest

-- "advertise"; "advertise with priority 0"; "advertisement first, then ARPs in configured order"
abbrev pub bytes_of : Writes → Router → ℕ → List ℕ → List ℕ
bytes_of Nothing r primary list = []
bytes_of Advertisement r primary list = frame_of r.vrid r.priority r.interval primary list
bytes_of Farewell r primary list = frame_of r.vrid 0 r.interval primary list
bytes_of Takeover r primary list = frame_of r.vrid r.priority r.interval primary list ++ arps_of r.vrid list

-- "Frame: 50 + 4n bytes"; "A call that becomes Master writes 50 + 46n bytes": by the 4n bytes of the addresses
abbrev pub need_of : Writes → ℕ → ℕ
need_of Nothing bytes = 0
need_of Advertisement bytes = 50 + bytes
need_of Farewell bytes = 50 + bytes
need_of Takeover bytes = 50 + bytes + 42 * (bytes / 4)
