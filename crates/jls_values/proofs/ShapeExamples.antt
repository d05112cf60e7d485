-- Shapes, computed: which range is blamed where several are broken. The precision comes first, then the width, the height, how many
-- identifiers there are, and two that are equal.
use Rattle.std.proofs.Common.{◌≡◌, [], ◌∷◌, refl}
use Rattle.std.specs.Prelude.{Ok, Err}
use Rattle.jls_values.specs.declared.shape.ShapeFault.TheVariants.{Precision, Width, Height, Count, RepeatedId}
use Rattle.jls_values.specs.ShapeOf.{shape_of}

all_broken : shape_of 17 0 0 [] ≡ Err Precision
all_broken = refl

width_first : shape_of 8 0 0 [] ≡ Err Width
width_first = refl

then_height : shape_of 8 1 0 [] ≡ Err Height
then_height = refl

then_count : shape_of 8 1 1 (1 ∷ 1 ∷ 2 ∷ 3 ∷ 4 ∷ []) ≡ Err Count
then_count = refl

then_repeats : shape_of 8 1 1 (1 ∷ 2 ∷ 1 ∷ []) ≡ Err RepeatedId
then_repeats = refl

fine : shape_of 16 65535 1 (7 ∷ 0 ∷ []) ≡ Ok (record { precision = 16; width = 65535; height = 1; ids = 7 ∷ 0 ∷ [] })
fine = refl
