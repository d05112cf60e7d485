-- What is reported of a copy that was read.
use Rattle.std.specs.Prelude.{ℕ, List, ◌++◌, Option, Some, None}
use Rattle.jls_partial.specs.Partial.{PartialPicture}
use Rattle.jls_marker.specs.declared.profile.Profile.{Profile}
use Rattle.jls_copy.specs.declared.end.End.{End}
use Rattle.jls_copy.specs.declared.piece.PieceRecord.{PieceRecord}

-- what contracts see of a `CopyRead` of jls_copy/src/reader.rt. It has the partial picture, the records that are kept of faulty pieces,
-- the number of such pieces, and the copy's end. Its `pieces` are these records
pub record ReadCopy : Type 0 where
  pub partial : PartialPicture
  pub pieces : List PieceRecord
  pub piece_count : ℕ
  pub ended : End

-- what contracts see of a `ProfileReader`: its profile, and the bytes fed, or none once a `feed` was refused
pub record ReaderBytes : Type 0 where
  pub profile : Profile
  pub bytes : Option (List ℕ)

-- the bytes fed to a reader with some more, or nothing once a `feed` was refused
abbrev pub after : Option (List ℕ) → List ℕ → Option (List ℕ)
after None more = None
after (Some bytes) more = Some (bytes ++ more)
