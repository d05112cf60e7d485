-- What the functions answer about a copy.
use Rattle.std.specs.Prelude.{◌≡◌, ◌==◌, ℕ, ◌≤◌, ◌<◌, List, ◌++◌, length, map, take, drop, if◌then◌else◌}
use Rattle.jls_copy.specs.CopyReads.{CopyReadsUnder, CopyGivesNoneUnder}
use Rattle.jls_copy.specs.ReadCopy.{ReadCopy}
use Rattle.jls_copy.specs.declared.reader.CopyFault.TheVariants.{NoPicture}
use Rattle.jls_marker.specs.declared.fault.MarkerFault.{MarkerFault}
use Rattle.jls_marker.specs.declared.profile.Profile.{Profile}
use Rattle.jls_marker.specs.declared.profile.Profile.TheVariants.{Strict, Wide}
use Rattle.jls_c.specs.Info.{info_of, info_of_none, piece_of, line_count, sample_count}
use Rattle.jls_c.specs.Lines.{line_statuses, shown_picture}
use Rattle.jls_c.specs.declared.info.JlsInfo.{JlsInfo}
use Rattle.jls_c.specs.declared.info.JlsPiece.{JlsPiece}

-- the profile of a number that a caller gives: of 0 the strict one, and of any other number the wide one, which reads scans by sample too
abbrev pub profile_of : ℕ → Profile
profile_of number = if number == 0 then Strict else Wide

-- a buffer that begins with these values now, and goes on as it was
abbrev pub BeginsWith : {X : Type 0} → List X → List X → List X → Type 0
BeginsWith values old new = new ≡ values ++ drop (length values) old

-- what a copy gives under a profile is reported: `info`, and the first records of pieces, as many as there is room for
pub record IsCheckedUnder (profile : Profile) (copy : List ℕ) (info : JlsInfo) (old new : List JlsPiece) : Type 0 where
  pub read : ReadCopy
  pub reads : CopyReadsUnder profile copy read
  pub info_is : info ≡ info_of read
  pub pieces_are : BeginsWith (map piece_of (take (length old) read.pieces)) old new

-- the same under the strict profile
abbrev pub IsChecked : List ℕ → JlsInfo → List JlsPiece → List JlsPiece → Type 0
IsChecked copy info old new = IsCheckedUnder Strict copy info old new

-- what was read is shown: the statuses and the samples of its lines
pub record IsShown (read : ReadCopy) (info : JlsInfo) (old_samples new_samples old_statuses new_statuses : List ℕ) : Type 0 where
  pub info_is : info ≡ info_of read
  pub samples_fit : sample_count read.partial.shape ≤ length old_samples
  pub statuses_fit : line_count read.partial.shape ≤ length old_statuses
  pub samples_are : BeginsWith (shown_picture read.partial) old_samples new_samples
  pub statuses_are : BeginsWith (line_statuses read.partial) old_statuses new_statuses

-- what a copy gives under a profile is shown
pub record IsCopyShownUnder (profile : Profile) (copy : List ℕ) (info : JlsInfo)
    (old_samples new_samples old_statuses new_statuses : List ℕ) : Type 0
  where
    pub read : ReadCopy
    pub reads : CopyReadsUnder profile copy read
    pub shown : IsShown read info old_samples new_samples old_statuses new_statuses

-- the same under the strict profile
abbrev pub IsCopyShown : List ℕ → JlsInfo → List ℕ → List ℕ → List ℕ → List ℕ → Type 0
IsCopyShown copy info old_samples new_samples old_statuses new_statuses =
    IsCopyShownUnder Strict copy info old_samples new_samples old_statuses new_statuses

-- there is too little room for what was read: if there is enough for the samples, there is too little for the statuses
pub record IsRoomShort (read : ReadCopy) (info : JlsInfo) (samples statuses : ℕ) : Type 0 where
  pub info_is : info ≡ info_of read
  pub short : sample_count read.partial.shape ≤ samples → statuses < line_count read.partial.shape

-- there is too little room for what a copy gives under a profile
pub record IsRoomShortForCopyUnder (profile : Profile) (copy : List ℕ) (info : JlsInfo) (samples statuses : ℕ) : Type 0 where
  pub read : ReadCopy
  pub reads : CopyReadsUnder profile copy read
  pub short : IsRoomShort read info samples statuses

-- the same under the strict profile
abbrev pub IsRoomShortForCopy : List ℕ → JlsInfo → ℕ → ℕ → Type 0
IsRoomShortForCopy copy info samples statuses = IsRoomShortForCopyUnder Strict copy info samples statuses

-- a copy has no frame under a profile, and why is reported
pub record HasNoPictureUnder (profile : Profile) (copy : List ℕ) (info : JlsInfo) : Type 0 where
  pub fault : MarkerFault
  pub offset : ℕ
  pub gives_none : CopyGivesNoneUnder profile copy (NoPicture fault offset)
  pub info_is : info ≡ info_of_none fault offset

-- the same under the strict profile
abbrev pub HasNoPicture : List ℕ → JlsInfo → Type 0
HasNoPicture copy info = HasNoPictureUnder Strict copy info
