-- A written file is read back: its course, and what its pieces give.
use Rattle.std.specs.Prelude.{◌≡◌, ℕ, ◌^◌, ◌<◌, List, [], Some}
use Rattle.jls_values.specs.OrderedSet as set
use Rattle.jls_values.specs.Params.{AreCodingParameters}
use Rattle.jls_partial.specs.Reading.{Reading}
use Rattle.jls_write.specs.Picture.{WholePicture}
use Rattle.jls_write.specs.WholePictures.{IsWholePicture}
use Rattle.jls_write.specs.Options.{WriteOptions, OptionsFit}
use Rattle.jls_copy.specs.Course.{Course, IsCourse}
use Rattle.jls_copy.specs.CutPieces.{cut_pieces}
use Rattle.jls_copy.specs.CopyReads.{CopyReads}
use Rattle.jls_copy.specs.ReadCopy.{ReadCopy}
use Rattle.jls_copy.specs.Pieces.{pieces, PieceOutcome, AreOutcomes, readings, records}
use Rattle.jls_copy.specs.declared.end.End.TheVariants.{Eoi}
use Rattle.jls_write.specs.WrittenFile.{written_file}
use Rattle.jls_file_laws.specs.Covering.{written_readings, AreThePicture}

-- a picture in its ranges (`IsWholePicture`) can be written under these options
pub record IsWritable (pic : WholePicture) (o : WriteOptions) : Type 0 where
  pub whole : IsWholePicture pic
  pub fit : OptionsFit pic o
  pub params : AreCodingParameters o.params
  pub restart_below : o.restart_interval < 2 ^ 32

-- The bytes have a course, which takes the picture's shape and ends at EOI. Whatever its pieces are judged to be, and there is a
-- judgement of each, they give these readings and no record
pub record ReadsBack (pic : WholePicture) (copy : List ℕ) (rs : List Reading) : Type 0 where
  pub course : Course
  pub is_course : IsCourse copy course
  pub framed : course.headers.frame ≡ Some pic.shape
  pub uncut : cut_pieces course ≡ []
  pub offset : ℕ
  pub ended : course.end ≡ Eoi offset
  pub outcomes : List PieceOutcome
  pub some_outcomes : AreOutcomes (pieces course) outcomes
  pub gives : (os : List PieceOutcome) → AreOutcomes (pieces course) os
      → (readings (pieces course) os ≡ rs) × (records (pieces course) os ≡ [])

-- what is read back of a written file is the picture's lines, each once
abbrev pub FileLaw : Type 0
FileLaw = (pic : WholePicture) (o : WriteOptions) → IsWritable pic o
    → ReadsBack pic (written_file pic o) (written_readings pic o) × AreThePicture pic (written_readings pic o)

-- what a reader of copies answers of it: the picture's shape, its lines as the only readings, no record, and the end at EOI
pub record AnswersOnly (pic : WholePicture) (rs : List Reading) (read : ReadCopy) : Type 0 where
  pub shape : read.partial.shape ≡ pic.shape
  pub readings_are : read.partial.readings ≡ set.insert_all set.empty rs
  pub no_records : read.pieces ≡ []
  pub none_counted : read.piece_count ≡ 0
  pub offset : ℕ
  pub ended : read.ended ≡ Eoi offset

-- a reader answers so of a written file
abbrev pub FileIsRead : Type 0
FileIsRead = (pic : WholePicture) (o : WriteOptions) → IsWritable pic o → (read : ReadCopy) → CopyReads (written_file pic o) read
    → AnswersOnly pic (written_readings pic o) read
