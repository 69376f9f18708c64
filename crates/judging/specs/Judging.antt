-- Judging a packet: the first of refusals 1 to 8, or the fields of an accepted packet.
use Rattle.std.specs.Prelude.{ℕ, ◌+◌, List, ◌++◌, Result, Ok, Err, cond, eqb}
use Rattle.judging.specs.declared.Fields.{Fields}
use Rattle.wire.specs.Check.{Check, first_refusal}
use Rattle.wire.specs.Reading.{byte_at, number_at}
use Rattle.headers.specs.Packet.{header_length, header_checks, payload}
use Rattle.judging.specs.Message.{message_checks}

-- "Packets, checked in this order": 1 to 8
abbrev pub packet_checks : List ℕ → List Check
packet_checks packet = header_checks packet ++ message_checks (payload packet)

-- the refusal of a packet, 0 where it passes every check
unfoldable pub refusal_of : List ℕ → ℕ
refusal_of packet = first_refusal (packet_checks packet)

-- "VRID; priority; address count n; authentication type; A" of a message, beside its source and where its list stands
abbrev pub fields_in : ℕ → List ℕ → ℕ → Fields
fields_in source message list =
    record {
      source = source;
      vrid = byte_at message 1;
      priority = byte_at message 2;
      count = byte_at message 3;
      authentication = byte_at message 4;
      interval = byte_at message 5;
      list = list;
    }

-- the fields of an accepted packet: its message has 8 bytes before the address list
unfoldable pub fields_of : List ℕ → Fields
fields_of packet = fields_in (number_at packet 12) (payload packet) (header_length packet + 8)

-- what a packet is judged to be: the fields that it has, or the number that it is refused by
abbrev pub Judged : Type 0
Judged = Result Fields ℕ

-- "A packet is accepted exactly when it passes every check"
unfoldable pub judged_of : List ℕ → Judged
judged_of packet = cond (eqb (refusal_of packet) 0) (Ok (fields_of packet)) (Err (refusal_of packet))
