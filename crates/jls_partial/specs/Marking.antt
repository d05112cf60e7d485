-- Marking: a source for all readings, line by line.
use Rattle.std.specs.Prelude.{◌≡◌, ℕ, zero, suc, true, List, [], ◌++◌, map}
use Rattle.std.specs.List.{AllByRecursion}
use Rattle.jls_values.specs.OrderedSet as set
use Rattle.jls_partial.specs.Partial.{PartialPicture, readings_at, with_marks}
use Rattle.jls_partial.specs.Reading.{Reading, reading_of}

-- the readings of a line
abbrev pub line_readings : PartialPicture → ℕ → ℕ → List Reading
line_readings p component line = map (reading_of component line) (readings_at p component line)

-- those of the first n lines of a component
abbrev pub readings_of_lines : PartialPicture → ℕ → ℕ → List Reading
readings_of_lines p component zero = []
readings_of_lines p component (suc n) = readings_of_lines p component n ++ line_readings p component n

-- those of the first n components
abbrev pub readings_of_components : PartialPicture → ℕ → List Reading
readings_of_components p zero = []
readings_of_components p (suc n) = readings_of_components p n ++ readings_of_lines p n p.shape.height

-- some readings have one source more, and nothing else has changed
pub record MarksSome (old : PartialPicture) (source : ℕ) (new : PartialPicture) : Type 0 where
  pub marked : List Reading
  pub held : AllByRecursion (λ r. set.contains old.readings r ≡ true) marked
  pub new_is : new ≡ with_marks old source marked
