-- The shape of four values: there is one exactly where they are in range.
use Rattle.std.proofs.Common.{◌≡◌, ℕ, ◌<◌, ◌^◌, Bool, true, false, cond, List, length, Option, Some, None, Ok, Err, refl}
use Rattle.std.specs.Prelude.{is_ok}
use Rattle.std.specs.List.{AllByRecursion}
use Rattle.jls_values.specs.Shape.{PictureShape, IsShape, has_repeat}
use Rattle.jls_values.specs.ShapeOf.{size_fault, unless_fault, shape_of}
use Rattle.jls_values.specs.declared.shape.ShapeFault.{ShapeFault}
use Rattle.jls_values.specs.declared.shape.ShapeFault.TheVariants.{RepeatedId}
use Rattle.jls_values.proofs.ShapeRanges.{sizes_in_range, no_size_fault}

-- values in range have a shape
pub shape_there : (s : PictureShape) → IsShape s → shape_of s.precision s.width s.height s.ids ≡ Ok s
shape_there s is =
    let none = no_size_fault s.precision s.width s.height (length s.ids) is.precision_at_least is.precision_at_most is.width_at_least
    is.height_at_least is.ids_at_least is.ids_at_most in
    let differ = is.ids_differ in
    rw (none, differ) refl

abbrev pub four : ℕ → ℕ → ℕ → List ℕ → PictureShape
four p x y ids = record { precision = p; width = x; height = y; ids = ids }

-- values that have a shape are in range
pub shape_in_range : (p x y : ℕ) (ids : List ℕ) → is_ok (shape_of p x y ids) ≡ true → x < 2 ^ 16 → y < 2 ^ 16
    → AllByRecursion (λ id. id < 256) ids
    → IsShape (four p x y ids)
shape_in_range p x y ids e wx wy bytes =
    elim (size_fault p x y (length ids)) as (λ (o : Option ShapeFault). size_fault p x y (length ids) ≡ o
    → is_ok (unless_fault o (cond (has_repeat ids) (Err RepeatedId) (Ok (four p x y ids)))) ≡ true → IsShape (four p x y ids)) [
      | None ↦ λ n h.
          let z = sizes_in_range p x y (length ids) n in
          record {
            precision_at_least = z.0.0;
            precision_at_most = z.0.1;
            width_at_least = z.1.0;
            width_below = wx;
            height_at_least = z.1.1;
            height_below = wy;
            ids_at_least = z.2.0;
            ids_at_most = z.2.1;
            ids_are_bytes = bytes;
            ids_differ = no_repeat (has_repeat ids) h;
          }
      | Some f ↦ λ n h. absurd cc
    ] refl e
  where
    no_repeat : (b : Bool) → is_ok {E = ShapeFault} (cond b (Err RepeatedId) (Ok (four p x y ids))) ≡ true → b ≡ false
    no_repeat true h = absurd cc
    no_repeat false h = refl
