-- Inside the crate: what is kept of files, each of which was read once. It concerns no caller.
use Rattle.std.specs.Prelude.{ℕ, List, ◌++◌, Option, Some, None}
use Rattle.std.specs.List.{AllByRecursion}
use Rattle.jls_partial.specs.Partial.{PartialPicture, nothing_known}
use Rattle.jls_search.specs.Seen.{AreSeen}
use Rattle.jls_search.specs.Shapes.{HasNoFrame}
use Rattle.jls_search.specs.Stations.{TakesFiles}
use Rattle.jls_search.specs.declared.reading_files.FilesRead.{FilesRead}

-- a station took these files, each under the source if there is one; where there is no station, none of them has a frame
abbrev pub HasTakenFiles : Option ℕ → List (List ℕ) → Option PartialPicture → Type 0
HasTakenFiles source files None = AllByRecursion HasNoFrame files
HasTakenFiles source files (Some station) = TakesFiles source files (nothing_known station.shape) station

-- this is kept of these files
pub record AreRead (source : Option ℕ) (files : List (List ℕ)) (read : FilesRead) : Type 0 where
  pub seen : AreSeen files read.seen.items
  pub taken : HasTakenFiles source files read.station

-- these files were read after those of which the first is kept, whatever they are, and the second is kept of all of them
abbrev pub ReadsMore : Option ℕ → List (List ℕ) → FilesRead → FilesRead → Type 0
ReadsMore source more old new = (files : List (List ℕ)) → AreRead source files old → AreRead source (files ++ more) new
