-- What a whole script prints (01, 'The rehearsal program').
use Rattle.std.specs.Prelude.{ℕ, zero, suc, ◌+◌, List, [], ◌∷◌, ◌++◌, cond, eqb, ltb, length}
use Rattle.script.specs.Segment.{Segment, empty_segment}
use Rattle.script.specs.Kinds.{kind_of, body_length}
use Rattle.script.specs.Record.{after_record, refusal_of}
use Rattle.script.specs.Lines.{refused_line, printed_of}

-- the lines from a record of this number on, where so many bytes are still the body of the one before: those of each
-- record, to the end or to the first that is refused ("and ends")
unfoldable pub lines_from : Segment → ℕ → List ℕ → ℕ → List ℕ
lines_from segment number [] skip = []
lines_from segment number (byte ∷ bytes) (suc skip) = lines_from segment number bytes skip
lines_from segment number (byte ∷ bytes) zero =
    cond (eqb (refusal_of segment (kind_of byte) bytes) 0)
    (printed_of (kind_of byte) number (after_record (kind_of byte) segment bytes)
    ++ lines_from (after_record (kind_of byte) segment bytes) (number + 1) bytes (body_length (kind_of byte)))
    (refused_line number (refusal_of segment (kind_of byte) bytes))

-- "30 script too long (record number 0, checked first)": "at most 65,536 bytes"
unfoldable pub rehearsal_of : List ℕ → List ℕ
rehearsal_of script = cond (ltb 65536 (length script)) (refused_line 0 30) (lines_from empty_segment 1 script 0)
