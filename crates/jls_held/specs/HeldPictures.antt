-- Partial pictures of which all lines are held.
use Rattle.std.specs.Prelude.{◌≡◌, true, Bool, List}
use Rattle.jls_values.specs.OrderedSet as set
use Rattle.jls_partial.specs.Reading.{Reading}
use Rattle.jls_partial.specs.Partial.{PartialPicture}
use Rattle.jls_held.specs.MendedFiles.{MendedFile}
use Rattle.jls_held.specs.HeldLines.{IsHeld, IsHeldBehind}

-- each reading of a partial picture is held by the files
abbrev pub AreReadingsHeld : List MendedFile → PartialPicture → Type 0
AreReadingsHeld files p = (r : Reading) → set.contains p.readings r ≡ true → IsHeld files r

-- whether a partial picture has the reading
abbrev pub is_among : PartialPicture → Reading → Bool
is_among p r = set.contains p.readings r

-- each reading of a partial picture has the lines before it in its interval, in one of the files, among the readings
abbrev pub HasLinesBefore : List MendedFile → PartialPicture → Type 0
HasLinesBefore files p = (r : Reading) → is_among p r ≡ true → IsHeldBehind files (is_among p) r
