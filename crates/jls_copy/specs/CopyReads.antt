-- What a whole copy gives: the readings and the records of its course. Where a definition says that there is a course, it is the only
-- one that these bytes have (`OneCourse`).
use Rattle.std.specs.Prelude.{◌≡◌, ℕ, Bool, true, false, List, ◌++◌, length, take, Some, None}
use Rattle.jls_values.specs.OrderedSet as set
use Rattle.jls_values.specs.Shape.{PictureShape}
use Rattle.jls_marker.specs.declared.profile.Profile.{Profile}
use Rattle.jls_marker.specs.declared.profile.Profile.TheVariants.{Strict}
use Rattle.jls_copy.specs.Course.{Course, IsCourseUnder}
use Rattle.jls_copy.specs.Pieces.{pieces}
use Rattle.jls_copy.specs.Pieces.{PieceOutcome}
use Rattle.jls_copy.specs.Pieces.{AreOutcomes, readings, records}
use Rattle.jls_copy.specs.CutPieces.{cut_pieces, IsHeadOfCut, head_readings}
use Rattle.jls_copy.specs.declared.end.End.{End}
use Rattle.jls_copy.specs.declared.end.End.TheVariants.{Eoi, Input, Header}
use Rattle.jls_marker.specs.declared.fault.MarkerFault.TheVariants as fault
use Rattle.jls_copy.specs.ReadCopy.{ReadCopy}
use Rattle.jls_copy.specs.declared.reader.CopyFault.{CopyFault}
use Rattle.jls_copy.specs.declared.reader.CopyFault.TheVariants.{NoPicture, OutOfMemory}
use Rattle.jls_partial.specs.Partial.{without_sources}

-- what a copy gives under a profile. It has the frame's shape, and the readings of the course's pieces and of the head of the piece that
-- the input's end closes. It has the first 4,096 records, their number, and the end of the course
pub record CopyReadsUnder (profile : Profile) (copy : List ℕ) (read : ReadCopy) : Type 0 where
  pub course : Course
  pub is_course : IsCourseUnder profile copy course
  pub shape : PictureShape
  pub framed : course.headers.frame ≡ Some shape
  pub outcomes : List PieceOutcome
  pub each : AreOutcomes (pieces course) outcomes
  pub head : List (List ℕ)
  pub head_is : IsHeadOfCut (cut_pieces course) head
  pub partial_is : read.partial
      ≡ without_sources shape (set.insert_all set.empty (readings (pieces course) outcomes ++ head_readings (cut_pieces course) head))
  pub pieces_are : read.pieces ≡ take 4096 (records (pieces course) outcomes)
  pub count_is : read.piece_count ≡ length (records (pieces course) outcomes)
  pub ended_is : read.ended ≡ course.end

-- the same under the strict profile
abbrev pub CopyReads : List ℕ → ReadCopy → Type 0
CopyReads copy read = CopyReadsUnder Strict copy read

-- the fault of a copy without a frame, by its end: the fault that ended it, or `Ended` if the input ended at the place of a marker. After
-- EOI a frame was always taken, since EOI before a frame is a fault
abbrev pub no_picture : End → CopyFault
no_picture (Eoi offset) = NoPicture fault.NoFrame offset
no_picture (Input offset) = NoPicture fault.Ended offset
no_picture (Header f offset) = NoPicture f offset

-- Under a profile, the copy has a course without a frame, and the fault is the one that belongs to its end (`no_picture`). Of a copy
-- whose reading ran out of memory nothing is said
abbrev pub CopyGivesNoneUnder : Profile → List ℕ → CopyFault → Type 0
CopyGivesNoneUnder profile copy OutOfMemory = Unit {0}
CopyGivesNoneUnder profile copy (NoPicture f offset) = (c : Course) × IsCourseUnder profile copy c × (c.headers.frame ≡ None)
    × (NoPicture f offset ≡ no_picture c.end)

-- the same under the strict profile
abbrev pub CopyGivesNone : List ℕ → CopyFault → Type 0
CopyGivesNone copy f = CopyGivesNoneUnder Strict copy f

-- Whether an end is EOI, or a fault other than that of an input that ends too early. More bytes leave a course with such an end as it is
-- (`FinalEndsStay`)
abbrev pub is_final_end : End → Bool
is_final_end (Eoi offset) = true
is_final_end (Input offset) = false
is_final_end (Header fault.Ended offset) = false
is_final_end (Header f offset) = true

-- the course of the bytes under a profile ends at a final end
abbrev pub IsDoneUnder : Profile → List ℕ → Bool → Type 0
IsDoneUnder profile copy done = (c : Course) × IsCourseUnder profile copy c × (done ≡ is_final_end c.end)

-- the same under the strict profile
abbrev pub IsDone : List ℕ → Bool → Type 0
IsDone copy done = IsDoneUnder Strict copy done
