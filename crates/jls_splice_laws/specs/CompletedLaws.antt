-- What files read as that were completed by EOI.
use Rattle.std.specs.Prelude.{◌≡◌, ◌↔◌, ℕ, ◌<◌, List}
use Rattle.std.specs.List.{AllByRecursion}
use Rattle.jls_partial.specs.Reading.{Reading}
use Rattle.jls_marker.specs.declared.profile.Profile.TheVariants.{Wide}
use Rattle.jls_copy.specs.Course.{Course, IsCourseUnder}
use Rattle.jls_copy.specs.Prefixes.{CourseHasReading}
use Rattle.jls_search.specs.Faultless.{IsFaultless}
use Rattle.jls_splice_run.specs.Completing.{EndsAtEoi, IsCompleted}

-- the second file ends at EOI and has no fault. It has the headers and the readings of the first, and no others
pub record IsReadAlike (file whole : List ℕ) : Type 0 where
  pub ends : EndsAtEoi whole
  pub faultless : IsFaultless whole
  pub headers : (c d : Course) → IsCourseUnder Wide file c → IsCourseUnder Wide whole d → d.headers ≡ c.headers
  pub readings : (c d : Course) → IsCourseUnder Wide file c → IsCourseUnder Wide whole d → (r : Reading)
      → CourseHasReading c r ↔ CourseHasReading d r

-- so it is of a file of bytes without a fault, and the same file completed by EOI
abbrev pub CompletedFilesReadAlike : Type 0
CompletedFilesReadAlike =
    (file whole : List ℕ) → AllByRecursion (λ b. b < 256) file → IsFaultless file → IsCompleted file whole → IsReadAlike file whole

-- a file is completed to one list of bytes
abbrev pub FilesAreCompletedOnce : Type 0
FilesAreCompletedOnce = (file a b : List ℕ) → IsCompleted file a → IsCompleted file b → a ≡ b
