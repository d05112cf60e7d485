-- The laws of a copy's course, of which each is the contract of a function with an empty body.
use Rattle.std.specs.Prelude.{◌≡◌, ℕ, ◌<◌, false, List}
use Rattle.std.specs.List.{AllByRecursion}
use Rattle.jls_marker.specs.declared.profile.Profile.{Profile}
use Rattle.jls_marker.specs.declared.profile.Profile.TheVariants.{Strict}
use Rattle.jls_copy.specs.Course.{Course, IsCourse, IsCourseUnder}
use Rattle.jls_copy.specs.Pieces.{pieces}

-- under a profile, a list of bytes has one course at most
abbrev pub OneCourseUnder : Profile → Type 0
OneCourseUnder profile = (bytes : List ℕ) (c d : Course) → IsCourseUnder profile bytes c → IsCourseUnder profile bytes d → c ≡ d

-- the same under the strict profile
abbrev pub OneCourse : Type 0
OneCourse = OneCourseUnder Strict

-- under a profile, a list of bytes has a course
abbrev pub SomeCourseUnder : Profile → Type 0
SomeCourseUnder profile = (bytes : List ℕ) → AllByRecursion (λ b. b < 256) bytes → (c : Course) × IsCourseUnder profile bytes c

-- the same under the strict profile
abbrev pub SomeCourse : Type 0
SomeCourse = SomeCourseUnder Strict

-- a strict course has no piece of a scan that is interleaved by sample. So its pieces are intervals by line (`LinePiecesAreIntervals` of
-- jls_piece)
abbrev pub StrictPiecesAreByLine : Type 0
StrictPiecesAreByLine = (bytes : List ℕ) (c : Course) → IsCourse bytes c → AllByRecursion (λ p. p.plan.by_sample ≡ false) (pieces c)
