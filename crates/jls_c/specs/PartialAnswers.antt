-- What the functions answer that make, join and show partial pictures.
use Rattle.std.specs.Prelude.{◌≡◌, ℕ, true, false, ◌≤◌, ◌<◌, List, length, Err}
use Rattle.jls_copy.specs.CopyReads.{CopyReadsUnder}
use Rattle.jls_copy.specs.ReadCopy.{ReadCopy}
use Rattle.jls_marker.specs.declared.profile.Profile.{Profile}
use Rattle.jls_marker.specs.declared.profile.Profile.TheVariants.{Strict}
use Rattle.jls_partial.specs.Partial.{PartialPicture, with_source, union, has_same_shape}
use Rattle.jls_partial.specs.Text.{IsPartial, IsTextOf, text}
use Rattle.jls_partial.specs.TextReading.{read_text}
use Rattle.jls_partial.specs.declared.text_fault.TextFault.{TextFault}
use Rattle.jls_c.specs.Answers.{BeginsWith}
use Rattle.jls_c.specs.Info.{info_of, info_of_partial, with_bytes, line_count, sample_count}
use Rattle.jls_c.specs.Lines.{lines_of, shown_picture}
use Rattle.jls_c.specs.TextFaults.{info_of_no_partial}
use Rattle.jls_c.specs.declared.info.JlsInfo.{JlsInfo}
use Rattle.jls_c.specs.declared.lines.JlsLine.{JlsLine}

-- ---- the text of a partial picture, of which this is reported

-- the partial picture has a text. The buffer begins with it, and goes on as it was; how many bytes it has is reported too
pub record IsTextPut (p : PartialPicture) (reported info : JlsInfo) (old new : List ℕ) : Type 0 where
  pub is_partial : IsPartial p
  pub info_is : info ≡ with_bytes reported (length (text p))
  pub fits : length (text p) ≤ length old
  pub bytes_are : BeginsWith (text p) old new

-- there is too little room for it; how many bytes it has is reported too
pub record IsTextLonger (p : PartialPicture) (reported info : JlsInfo) (room : ℕ) : Type 0 where
  pub info_is : info ≡ with_bytes reported (length (text p))
  pub longer : room < length (text p)

-- ---- a copy as a partial picture

-- the partial picture of what a copy gives under a profile, each of its readings with this source
pub record IsPartialMadeUnder (profile : Profile) (copy : List ℕ) (source : ℕ) (info : JlsInfo) (old new : List ℕ) : Type 0 where
  pub read : ReadCopy
  pub reads : CopyReadsUnder profile copy read
  pub put : IsTextPut (with_source read.partial source) (info_of read) info old new

-- the same under the strict profile
abbrev pub IsPartialMade : List ℕ → ℕ → JlsInfo → List ℕ → List ℕ → Type 0
IsPartialMade copy source info old new = IsPartialMadeUnder Strict copy source info old new

-- there is too little room for it
pub record IsPartialLongerUnder (profile : Profile) (copy : List ℕ) (source : ℕ) (info : JlsInfo) (room : ℕ) : Type 0 where
  pub read : ReadCopy
  pub reads : CopyReadsUnder profile copy read
  pub longer : IsTextLonger (with_source read.partial source) (info_of read) info room

-- the same under the strict profile
abbrev pub IsPartialLonger : List ℕ → ℕ → JlsInfo → ℕ → Type 0
IsPartialLonger copy source info room = IsPartialLongerUnder Strict copy source info room

-- ---- two partial pictures as one

-- these bytes are the texts of two partial pictures of one shape
pub record AreTexts (first second : List ℕ) (p q : PartialPicture) : Type 0 where
  pub first_is : IsTextOf first p
  pub second_is : IsTextOf second q
  pub one_shape : has_same_shape p q ≡ true

-- the union of two partial pictures, by their texts
pub record IsJoined (first second : List ℕ) (info : JlsInfo) (old new : List ℕ) : Type 0 where
  pub p : PartialPicture
  pub q : PartialPicture
  pub texts : AreTexts first second p q
  pub put : IsTextPut (union p q) (info_of_partial (union p q)) info old new

-- there is too little room for it
pub record IsJoinLonger (first second : List ℕ) (info : JlsInfo) (room : ℕ) : Type 0 where
  pub p : PartialPicture
  pub q : PartialPicture
  pub texts : AreTexts first second p q
  pub longer : IsTextLonger (union p q) (info_of_partial (union p q)) info room

-- these bytes are the texts of two partial pictures that can't be joined, since their shapes differ
pub record AreOfTwoShapes (first second : List ℕ) : Type 0 where
  pub p : PartialPicture
  pub q : PartialPicture
  pub first_is : IsTextOf first p
  pub second_is : IsTextOf second q
  pub two_shapes : has_same_shape p q ≡ false

-- these bytes are no text of a partial picture, and their first fault is reported
pub record HasNoPartial (bytes : List ℕ) (info : JlsInfo) : Type 0 where
  pub fault : TextFault
  pub found : read_text bytes ≡ Err fault
  pub info_is : info ≡ info_of_no_partial fault

-- the first bytes are the text of a partial picture, and the second are none
pub record HasNoSecond (first second : List ℕ) (info : JlsInfo) : Type 0 where
  pub p : PartialPicture
  pub first_is : IsTextOf first p
  pub none : HasNoPartial second info

-- ---- the lines of a partial picture

-- they are shown: what is reported of each, and the samples
pub record AreLinesShown (p : PartialPicture) (info : JlsInfo) (old_samples new_samples : List ℕ)
    (old_lines new_lines : List JlsLine) : Type 0 where
  pub info_is : info ≡ info_of_partial p
  pub samples_fit : sample_count p.shape ≤ length old_samples
  pub lines_fit : line_count p.shape ≤ length old_lines
  pub samples_are : BeginsWith (shown_picture p) old_samples new_samples
  pub lines_are : BeginsWith (lines_of p) old_lines new_lines

-- the lines of the partial picture that has this text
pub record AreLinesOfText (bytes : List ℕ) (info : JlsInfo) (old_samples new_samples : List ℕ)
    (old_lines new_lines : List JlsLine) : Type 0 where
  pub p : PartialPicture
  pub is_text : IsTextOf bytes p
  pub shown : AreLinesShown p info old_samples new_samples old_lines new_lines

-- there is too little room for them: if there is enough for the samples, there is too little for the lines
pub record AreLinesMore (p : PartialPicture) (info : JlsInfo) (samples lines : ℕ) : Type 0 where
  pub info_is : info ≡ info_of_partial p
  pub short : sample_count p.shape ≤ samples → lines < line_count p.shape

-- there is too little room for the lines of the partial picture that has this text
pub record AreLinesOfTextMore (bytes : List ℕ) (info : JlsInfo) (samples lines : ℕ) : Type 0 where
  pub p : PartialPicture
  pub is_text : IsTextOf bytes p
  pub more : AreLinesMore p info samples lines
