-- The lines that a picture lends are the readings of its partial picture.
use Rattle.std.proofs.Common.{◌≡◌, inl, inr, ℕ, ◌<◌, ◌^◌, Bool, true, false, ◌||◌, eqb, List, [], ◌∷◌, length, map, get_or}
use Rattle.std.proofs.Common.{None, refl, ap, sym, ◌∙◌, zero-add}
use Rattle.std.specs.Prelude.{not, nat_le}
use Rattle.std.specs.List.{range_with_len, list_any, AllByRecursion}
use Rattle.std.proofs.lemmas.Bool.{eqb-true}
use Rattle.std.proofs.lemmas.Bool.Decides.{leb_tells}
use Rattle.std.proofs.lemmas.List.FromFn.{get_or-map-range_with_len}
use Rattle.jls_values.specs.Shape.{PictureShape}
use Rattle.jls_partial.specs.InsertFaults.{reading_fault}
use Rattle.jls_partial.specs.Partial.{PartialPicture}
use Rattle.jls_partial.proofs.BareEntries.{first_none}
use Rattle.jls_write.specs.Picture.{line_of, settled_line, picture_of}

-- ---- settled lines

-- a line of the picture is the settled line of its partial picture
pub line_is : (p : PartialPicture) (component line : ℕ) → component < length p.shape.ids → line < p.shape.height
    → line_of (picture_of p) component line ≡ settled_line p component line
line_is p component line component_in line_in =
    ap (λ (plane : List (List ℕ)). get_or plane line [])
    (get_or-map-range_with_len (λ c. map (settled_line p c) (range_with_len 0 p.shape.height)) 0 (length p.shape.ids) component component
    [] component_in (zero-add component))
    ∙ get_or-map-range_with_len (settled_line p component) 0 p.shape.height line line [] line_in (zero-add line)

-- ---- readings without a fault

not_false : (b : Bool) → not b ≡ false → b ≡ true
not_false true e = refl
not_false false e = absurd cc

pub or_false : (a b : Bool) → (a || b) ≡ false → (a ≡ false) × (b ≡ false)
or_false true b e = absurd cc
or_false false b e = (refl, e)

pub above : (a b : ℕ) → nat_le a b ≡ false → b < a
above a b e = elim (leb_tells a b) [ inl w ↦ absurd (let both : true ≡ false = sym w.0 ∙ e in cc) | inr w ↦ w.1 ]

pub all_below : (n : ℕ) (xs : List ℕ) → list_any (λ x. nat_le n x) xs ≡ false → AllByRecursion (λ x. x < n) xs
all_below n [] e = tt
all_below n (x ∷ xs) e = let both = or_false (nat_le n x) (list_any (λ y. nat_le n y) xs) e in (above n x both.0, all_below n xs both.1)

-- a reading that fits is as long as the width, with samples of the precision
pub fits_shape : (shape : PictureShape) (component line : ℕ) (samples : List ℕ) → reading_fault shape component line samples ≡ None
    → (length samples ≡ shape.width) × AllByRecursion (λ sample. sample < 2 ^ shape.precision) samples
fits_shape shape component line samples e =
    let in_components = first_none (nat_le (length shape.ids) component) _ _ e in
    let in_lines = first_none (nat_le shape.height line) _ _ in_components.1 in
    let in_width = first_none (not (eqb (length samples) shape.width)) _ _ in_lines.1 in
    let in_range = first_none (list_any (λ x. nat_le (2 ^ shape.precision) x) samples) _ _ in_width.1 in (
      eqb-true (length samples) shape.width (not_false (eqb (length samples) shape.width) in_width.0),
      all_below (2 ^ shape.precision) samples in_range.0,
    )
