-- Whether two shapes are one, as a test that computes: their identifiers too, in the same order.
use Rattle.std.specs.Prelude.{Bool, ◌&&◌, ◌==◌, nat_eq}
use Rattle.std.specs.Cmp.Lexicographic.{pointwise}
use Rattle.jls_values.specs.Shape.{PictureShape}

-- whether two shapes are equal, identifiers in their order included. A test that computes
abbrev pub same_shape : PictureShape → PictureShape → Bool
same_shape s t = s.precision == t.precision && s.width == t.width && s.height == t.height && pointwise nat_eq s.ids t.ids
