-- Histories of calls by which a station takes files, each read under one profile. jls-splice reads files under the wide profile.
use Rattle.std.specs.Prelude.{◌≡◌, ℕ, ◌<◌, true, List, [], ◌∷◌, ◌++◌}
use Rattle.std.specs.List.{AllByRecursion}
use Rattle.jls_values.specs.Join.{IsBetween}
use Rattle.jls_values.specs.Shape.{PictureShape}
use Rattle.jls_partial.specs.Partial.{PartialPicture, nothing_known, has_same_shape, union}
use Rattle.jls_marker.specs.declared.profile.Profile.{Profile}
use Rattle.jls_marker.specs.declared.profile.Profile.TheVariants.{Strict}
use Rattle.jls_copy.specs.CopyReads.{CopyReadsUnder}
use Rattle.jls_copy.specs.ReadCopy.{ReadCopy}
use Rattle.jls_station.specs.Given.{marked}
use Rattle.jls_headline.specs.Collected.{Knowledge, Collected}
use Rattle.jls_headline.specs.Sources.{SourcedCopy}
use Rattle.jls_headline.specs.Stations.{AreAmong}

-- Fed the file's bytes, `ProfileReader::finish` answered Ok under the profile. Where there is a source, `Partial::mark` then did. So the
-- partial picture came about
pub record IsReadUnder (profile : Profile) (file : SourcedCopy) (p : PartialPicture) : Type 0 where
  pub are_bytes : AllByRecursion (λ b. b < 256) file.bytes
  pub read : ReadCopy
  pub reads : CopyReadsUnder profile file.bytes read
  pub partial_is : p ≡ marked file.source read.partial

-- `TookFiles profile station files over`: public calls came to the station, which took these files and nothing else. Each was read under
-- the profile, and under a source or under none. Files of another shape are not counted. For those in `over` memory ran out: any of their
-- readings may be held, or none
pub data TookFiles (profile : Profile) : PartialPicture → List SourcedCopy → List SourcedCopy → Type 0 where
  -- `Station::new`
  no_file_taken : (shape : PictureShape) (station : PartialPicture) → station ≡ nothing_known shape → TookFiles profile station [] []
  -- `Station::take` answered Ok for what was read of a file
  file_taken : (old new p : PartialPicture) (files over : List SourcedCopy) (file : SourcedCopy) → TookFiles profile old files over
      → IsReadUnder profile file p → has_same_shape old p ≡ true → new ≡ union old p → TookFiles profile new (files ++ file ∷ []) over
  -- a call left the station as it was, as `Station::take` does where it answers ShapeDiffers
  file_refused : (old new : PartialPicture) (files over : List SourcedCopy) → TookFiles profile old files over → new ≡ old
      → TookFiles profile new files over
  -- `Station::take` answered OutOfMemory for what was read of a file
  file_ran_out : (old new p : PartialPicture) (files over : List SourcedCopy) (file : SourcedCopy) → TookFiles profile old files over
      → IsReadUnder profile file p → IsBetween union old new (union old p) → TookFiles profile new files (over ++ file ∷ [])

-- Public calls took these files for the station, and no others. Each file for which memory ran out is one of them, taken before or after
abbrev pub TookFilesFrom : Profile → PartialPicture → List SourcedCopy → Type 0
TookFilesFrom profile station files =
    (over : List SourcedCopy) × TookFiles profile station files over × AreAmong (λ file other. file ≡ other) over files

-- what took files under the strict profile is collected from copies, whatever else is known
abbrev pub StrictFilesAreCollected : Type 0
StrictFilesAreCollected =
    (station : PartialPicture) (files over : List SourcedCopy) → TookFiles Strict station files over → (known : Knowledge)
    → Collected known station files over
