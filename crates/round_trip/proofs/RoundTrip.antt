-- What is written is judged good and reads back as the fields that it was written from.
-- Assumes nothing.
use mathlib.Core.Path.{◌≡◌, refl, sym, ap, ◌∙◌}
use mathlib.Core.List.{List}
use Prim.Native.Nat.{ℕ, ◌+◌, ◌-◌, ◌<◌}
use native.Mathlib.Omega.{arith}
use lib.ListN.{length, take, drop, replicate, length-append}
use lib.Seq.{take_all, take_at}
use Rattle.sums.specs.Sum.{sum_of, Bytes}
use Rattle.sums.proofs.Bytes.{bytes_each}
use Rattle.sums.proofs.Theorems.{checksum_sums}
use Rattle.std.specs.Prelude.{Ok}
use Rattle.wire.specs.Check.{first_refusal, Passes}
use Rattle.wire.specs.Reading.{number_at}
use Rattle.headers.specs.Packet.{header_length, total_length, causes, cause_of, header_sum_wrong, not_ours, header_checks, payload}
use Rattle.judging.specs.Message.{message_length, message_checks}
use Rattle.judging.specs.Judging.{refusal_of, fields_in, fields_of, judged_of}
use Rattle.writing.specs.Frame.{message_start, message_end, message_checksum, message_of}
use Rattle.writing.specs.Frame.{header_start, header_end, header_checksum, header_of, packet_of, frame_of}
use Rattle.writing.specs.Writing.{over}
use Rattle.wire.proofs.Tested.{tests}
use Rattle.wire.proofs.Checks.{all_pass}
use Rattle.judging.proofs.Messages.{message_tests}
use Rattle.writing.proofs.Checksums.{number_of_bytes, end_bytes}
use Rattle.judging.proofs.Passing.{message_decides, accepts}
use Rattle.writing.proofs.Writes.{Writable}

module _ (vrid priority interval primary room : ℕ) (addresses : List ℕ) (v : vrid < 256) (p : priority < 256)
    (i : interval < 256) (a : primary < 4294967296) (b : Bytes addresses) (w : Writable addresses room) where
  abbrev packet : List ℕ
  packet = packet_of vrid priority interval primary addresses

  abbrev message : List ℕ
  message = message_of vrid priority interval addresses

  abbrev frame : List ℕ
  frame = frame_of vrid priority interval primary addresses

  message_length_lem : length message ≡ 16 + length addresses
  unfolding message_of
  message_length_lem = omega (arith, length-append addresses (replicate 8 0))

  packet_length : length packet ≡ 36 + length addresses
  unfolding packet_of header_of
  packet_length = omega (arith, message_length_lem)

  total_is : total_length packet ≡ 36 + length addresses
  unfolding packet_of header_of
  total_is = omega arith

  header_is : header_length packet ≡ 20
  unfolding packet_of header_of
  header_is = refl

  payload_is : payload packet ≡ message
  unfolding packet_of header_of
  payload_is = take_all (total_length packet - 20) message (omega (arith, message_length_lem, total_is))

  header_sums : sum_of (take (header_length packet) packet) ≡ 0xFFFF
  unfolding packet_of header_of header_checksum
  header_sums =
      checksum_sums 5 (header_start addresses) (header_end primary) refl
      (bytes_each (header_start addresses) (omega arith))
      (bytes_each (header_end primary) (omega arith))

  message_sums : sum_of (take (message_length message) message) ≡ 0xFFFF
  unfolding message_of message_checksum
  message_sums =
      ap sum_of (take_all (message_length message) message (omega (arith, message_length_lem)))
      ∙ checksum_sums 3 (message_start vrid priority interval addresses) (message_end addresses) refl
      (bytes_each (message_start vrid priority interval addresses) (omega arith))
      (end_bytes addresses b)

  no_cause : cause_of packet ≡ 0
  unfolding packet_of header_of cause_of
  no_cause = all_pass (causes packet) (omega (tests, packet_length, total_is))

  header_passes : Passes (header_checks packet)
  unfolding packet_of header_of header_sum_wrong not_ours
  header_passes = omega (tests, no_cause, header_sums)

  message_passes : Passes (message_checks message)
  unfolding message_of
  message_passes = omega (message_tests, message_length_lem, message_sums)

  not_refused : refusal_of packet ≡ 0
  not_refused =
      message_decides packet (all_pass (header_checks packet) header_passes)
      ∙ ap (λ (m : List ℕ). first_refusal (message_checks m)) payload_is
      ∙ all_pass (message_checks message) message_passes

  source_is : primary ≡ number_at packet 12
  unfolding packet_of header_of
  source_is = sym (number_of_bytes primary)

  pub accepted : judged_of packet ≡ Ok (fields_in primary message 28)
  unfolding fields_of
  accepted = sym (accepts packet (fields_in primary message 28) not_refused (cc (source_is, payload_is, header_is)))

  -- the addresses stand behind the header and the message's first 8 bytes
  pub list_stands : take (length addresses) (drop 28 packet) ≡ addresses
  unfolding packet_of header_of message_of
  list_stands = take_at addresses (replicate 8 0) (length addresses) refl

  frame_length : length frame ≡ 50 + length addresses
  unfolding frame_of
  frame_length = omega (arith, packet_length)

  module _ (k : ℕ) (before after : List ℕ) (e : k ≡ 50 + length addresses) (o : after ≡ over frame before) where
    frame_taken : take k after ≡ frame
    frame_taken = rw o (take_at frame (drop (length frame) before) k (frame_length ∙ sym e))

    -- the written bytes less the 14 of Ethernet are the packet
    packet_taken : drop 14 (take k after) ≡ packet
    unfolding frame_of
    packet_taken = ap (drop 14) frame_taken

    pub reads_back : (judged_of (drop 14 (take k after)) ≡ Ok (fields_in primary message 28))
        × (take (length addresses) (drop 28 (drop 14 (take k after))) ≡ addresses)
    reads_back = rw packet_taken (accepted, list_stands)
