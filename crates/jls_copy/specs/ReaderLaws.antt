-- What ties the reader's machine to the declarative course. It concerns no caller.
use Rattle.std.specs.Prelude.{◌≡◌, ℕ, ◌<◌, List, [], ◌∷◌, ◌++◌}
use Rattle.std.specs.List.{AllByRecursion}
use Rattle.jls_copy.specs.Numbers.{Interval}
use Rattle.jls_copy.specs.Pieces.{FoundPiece, PieceOutcome, IsOutcomeAt, pieces}
use Rattle.jls_marker.specs.HeaderState.{HeaderState}
use Rattle.jls_marker.specs.Scan.{Scan}
use Rattle.jls_copy.specs.CutPieces.{cut_pieces}
use Rattle.jls_marker.specs.declared.profile.Profile.{Profile}
use Rattle.jls_copy.specs.Course.{Course, IsCourseUnder}
use Rattle.jls_copy.specs.Reader.{all_pieces}
use Rattle.jls_copy.specs.Conclusion.{Concludes}
use Rattle.jls_copy.specs.CopyReads.{CopyReadsUnder}
use Rattle.jls_copy.specs.ReadCopy.{ReadCopy}
use Rattle.jls_copy.specs.declared.end.End.{End}
use Rattle.jls_copy.specs.ReaderState.{reading, held_bytes, end_at, closed_at_end}
use Rattle.jls_copy.specs.ScanData.{fill_bytes}
use Rattle.jls_copy.specs.Tells.{Tells, SameBytes, HeldIs, AlikePieces}
use Rattle.jls_copy.specs.declared.scan.Held.{Held}

-- what a reader is fed of a piece goes on as the piece does
abbrev pub FedGoesOn : Type 0
FedGoesOn = (fed piece : List ℕ) (held : Held) (n b : ℕ) → HeldIs held n → SameBytes fed piece
    → SameBytes (fed ++ (held_bytes held ++ b ∷ [])) (piece ++ (fill_bytes n ++ b ∷ []))

-- and has the same outcome
abbrev pub SameOutcome : Type 0
SameOutcome = (s : Scan) (k : ℕ) (fed piece : List ℕ) (o : PieceOutcome) → SameBytes fed piece → IsOutcomeAt s (Interval k) fed o
    → IsOutcomeAt s (Interval k) piece o

-- under a profile, the reader's place tells the course of the bytes so far
abbrev pub ReadingTells : Profile → Type 0
ReadingTells profile = (bytes : List ℕ) → AllByRecursion (λ b. b < 256) bytes
    → Tells profile (reading profile bytes).state.place (reading profile bytes).state.headers (reading profile bytes).state.payload
    (reading profile bytes).pieces bytes

-- under a profile, the bytes have a course with this end, these headers at last and pieces alike, and such a piece that the input's end
-- closes
abbrev pub CourseIs : Profile → List ℕ → End → HeaderState → List FoundPiece → List FoundPiece → Type 0
CourseIs profile bytes e headers ps cut =
    (c : Course) × IsCourseUnder profile bytes c × (c.headers ≡ headers) × (c.end ≡ e) × AlikePieces ps (pieces c)
    × AlikePieces cut (cut_pieces c)

-- where a reader stands after some bytes tells their course
abbrev pub CourseFed : Profile → Type 0
CourseFed profile = (bytes : List ℕ) → AllByRecursion (λ b. b < 256) bytes
    → CourseIs profile bytes (end_at (reading profile bytes).state.place (reading profile bytes).state.count)
    (reading profile bytes).state.headers (all_pieces (reading profile bytes)) (closed_at_end (reading profile bytes).state.place)

-- and what a reader answers is what the copy gives
abbrev pub ConclusionFed : Profile → Type 0
ConclusionFed profile = (bytes : List ℕ) → AllByRecursion (λ b. b < 256) bytes → (read : ReadCopy)
    → Concludes (reading profile bytes) read → CopyReadsUnder profile bytes read
