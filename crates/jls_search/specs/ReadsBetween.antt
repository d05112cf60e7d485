-- Files that read between two offsets, under the wide profile.
use Rattle.std.specs.Prelude.{◌≡◌, ℕ, ◌<◌, ◌≤◌, List, Option, Some, None}
use Rattle.std.specs.List.{AllByRecursion}
use Rattle.jls_values.specs.Shape.{PictureShape}
use Rattle.jls_copy.specs.Course.{Course, IsCourseUnder}
use Rattle.jls_copy.specs.Pieces.{pieces}
use Rattle.jls_copy.specs.declared.end.End.{End}
use Rattle.jls_copy.specs.declared.end.End.TheVariants.{Eoi, Input, Header}
use Rattle.jls_copy.specs.Prefixes.{HasLines}
use Rattle.jls_marker.specs.declared.profile.Profile.TheVariants.{Wide}

-- the offset is the first of these or later, and before the second, if there is one
abbrev pub IsOffsetBetween : ℕ → Option ℕ → ℕ → Type 0
IsOffsetBetween from None offset = from ≤ offset
IsOffsetBetween from (Some to) offset = (from ≤ offset) × (offset < to)

-- The file doesn't end before the first of these. No fault of its headers ends it before the second or, if there is none, at all
abbrev pub Reaches : ℕ → Option ℕ → End → Type 0
Reaches from to (Eoi offset) = from ≤ offset
Reaches from to (Input offset) = from ≤ offset
Reaches from None (Header f offset) = ⊥
Reaches from (Some to) (Header f offset) = to ≤ offset

-- the file has a frame, it reaches over what stands between these offsets, and no piece that begins there is faulty
pub record ReadsBetween (from : ℕ) (to : Option ℕ) (file : List ℕ) : Type 0 where
  pub course : Course
  pub is_course : IsCourseUnder Wide file course
  pub shape : PictureShape
  pub framed : course.headers.frame ≡ Some shape
  pub reaches : Reaches from to course.end
  pub each : AllByRecursion (λ p. IsOffsetBetween from to p.offset → HasLines p) (pieces course)
