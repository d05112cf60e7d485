-- The lines of a partial picture, and what is known of each: it is missing, settled or disputed where it has no reading, one, or several.
use Rattle.std.specs.Prelude.{ℕ, List, length, Bool, ◌==◌, nat_lt, sum_by, count_by}
use Rattle.std.specs.List.{range_with_len}
use Rattle.jls_values.specs.Shape.{PictureShape}
use Rattle.jls_partial.specs.Partial.{PartialPicture, readings_at}

-- the components by their indices in the frame, in order
abbrev pub components : PictureShape → List ℕ
components shape = range_with_len 0 (length shape.ids)

-- the lines of one component, in order
abbrev pub lines : PictureShape → List ℕ
lines shape = range_with_len 0 shape.height

-- how many readings a line has
abbrev pub reading_count : PartialPicture → ℕ → ℕ → ℕ
reading_count p component line = length (readings_at p component line)

-- whether a line has no reading
abbrev pub is_missing : PartialPicture → ℕ → ℕ → Bool
is_missing p component line = reading_count p component line == 0

-- whether a line has one reading
abbrev pub is_settled_line : PartialPicture → ℕ → ℕ → Bool
is_settled_line p component line = reading_count p component line == 1

-- whether a line has several readings
abbrev pub is_disputed : PartialPicture → ℕ → ℕ → Bool
is_disputed p component line = nat_lt 1 (reading_count p component line)

-- how many lines of all components pass the test
abbrev pub line_count : PictureShape → (ℕ → ℕ → Bool) → ℕ
line_count shape test = sum_by (λ component. count_by (test component) (lines shape)) (components shape)
