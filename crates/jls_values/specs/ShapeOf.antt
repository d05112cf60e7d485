-- The shape of four values, or why there is none: the first range that they break. Width and height are given in two bytes and each
-- identifier in one, so that nothing is left to judge of their upper ends.
use Rattle.std.specs.Prelude.{ℕ, ◌||◌, ◌==◌, nat_lt, List, length, Option, Some, None, Result, Ok, Err, if◌then◌else◌}
use Rattle.jls_values.specs.declared.shape.ShapeFault.{ShapeFault}
use Rattle.jls_values.specs.declared.shape.ShapeFault.TheVariants.{Precision, Width, Height, Count, RepeatedId}
use Rattle.jls_values.specs.Shape.{PictureShape, has_repeat}

-- the first of the precision, the sizes and the number of identifiers that is outside its range, as a fault
abbrev pub size_fault : ℕ → ℕ → ℕ → ℕ → Option ShapeFault
size_fault precision width height count =
    if nat_lt precision 2 || nat_lt 16 precision then Some Precision
    else if width == 0 then Some Width
    else if height == 0 then Some Height
    else if count == 0 || nat_lt 4 count then Some Count
    else None

-- the fault, or `otherwise` if there is none
abbrev pub unless_fault : Option ShapeFault → Result PictureShape ShapeFault → Result PictureShape ShapeFault
unless_fault (Some fault) otherwise = Err fault
unless_fault None otherwise = otherwise

-- the shape, or the first fault; two equal identifiers are judged last
abbrev pub shape_of : ℕ → ℕ → ℕ → List ℕ → Result PictureShape ShapeFault
shape_of precision width height ids =
    unless_fault (size_fault precision width height (length ids))
    (if has_repeat ids then Err RepeatedId
    else Ok (record { precision = precision; width = width; height = height; ids = ids }))
