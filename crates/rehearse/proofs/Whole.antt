-- A script is rehearsed as the whole input is, where it is all of the input, or longer than a script may be.
use Rattle.std.proofs.Common.{◌≡◌, ℕ, ◌+◌, ◌<◌, ◌≤◌, List, [], ◌++◌, None, Some, IfSome, length, take, arith, sym, ap, ◌∙◌, subst, append-nil, length-take-le}
use Rattle.std.specs.declared.option.Option.{Option}
use Rattle.std.specs.Io.KnownBytes.{Appends, Consumes, IsAtEnd}
use mathlib.Core.Logic.{dite}
use native.Mathlib.Decide.{dec_lt}
use lib.ListN.{length-append}
use borrow.Author.Tests.{lt-ltb}
use Rattle.script.specs.Lines.{refused_line}
use Rattle.script.specs.Script.{rehearsal_of}

too_long : (script : List ℕ) → 65536 < length script → rehearsal_of script ≡ refused_line 0 30
unfolding rehearsal_of
too_long script h = rw (lt-ltb 65536 (length script) h)

-- the bytes that were read, and what is left
as_whole : (whole read rest : List ℕ) → whole ≡ read ++ rest → (length read < 65537 → rest ≡ [])
    → rehearsal_of read ≡ rehearsal_of whole
as_whole whole read rest parts end =
    dite
    (dec_lt (length read) 65537)
    (λ h. ap rehearsal_of (sym (append-nil read) ∙ ap (λ l. read ++ l) (sym (end h)) ∙ sym parts))
    (λ h.
    let longer : length whole ≡ length read + length rest = ap length parts ∙ length-append read rest in
    too_long read (omega arith) ∙ sym (too_long whole (omega arith)))

pub whole_written : (input left before after : Option (List ℕ)) (part : List ℕ) (given : ℕ) → length part ≡ 65537
    → given ≤ length part → Consumes input left (take given part) → (given < length part → IsAtEnd left)
    → Appends before after (rehearsal_of (take given part))
    → IfSome input (λ script. Appends before after (rehearsal_of script))
whole_written None left before after part given long within consumed end written = tt
whole_written (Some whole) None before after part given long within consumed end written = absurd consumed
whole_written (Some whole) (Some rest) before after part given long within consumed end written =
    let size : length (take given part) ≡ given = length-take-le given part within in
    subst
    (Appends before after)
    (as_whole whole (take given part) rest consumed (λ h. end (omega arith)))
    written
