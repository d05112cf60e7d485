-- Samples are cut into the lines of their picture.
use Rattle.std.proofs.Common.{◌≡◌, ℕ, zero, suc, ◌+◌, ◌*◌, ◌<◌, ◌≤◌, ◌^◌, List, [], ◌∷◌, length, take, drop, get_or, ap, ◌∙◌, arith}
use Rattle.std.proofs.Common.{zero-add}
use Rattle.std.specs.List.{AllByRecursion}
use Rattle.std.proofs.lemmas.List.{length-take-le, length-drop}
use Rattle.std.proofs.lemmas.List.FromFn.{get_or-map-range_with_len}
use Rattle.std.proofs.lemmas.Nat.{row_fits}
use Rattle.jls_values.specs.Shape.{PictureShape}
use Rattle.jls_write.specs.Picture.{line_of}
use Rattle.jls_write.specs.Samples.{part_at, line_in, lines_in, picture_in, AreSamplesOf}
use Rattle.jls_write.specs.WholePictures.{IsLineIn}

-- ---- part k of count

pub part_fits : (size k count : ℕ) (xs : List ℕ) → length xs ≡ count * size → k < count → k * size + size ≤ length xs
part_fits size k count xs long below = let row = row_fits k size count size below (omega arith) in omega (arith, row, long)

-- a part of a list has its size
pub length_part : (size k count : ℕ) (xs : List ℕ) → length xs ≡ count * size → k < count → length (part_at size xs k) ≡ size
length_part size k count xs long below =
    let fits = part_fits size k count xs long below in
    let left = length-drop (k * size) xs in
    length-take-le size (drop (k * size) xs) (omega (arith, fits, left))

-- what is cut out of a list from here on, so many elements, is its part k
pub cut_out : (start n size k : ℕ) (xs ys : List ℕ) → start ≡ k * size → n ≡ size → xs ≡ ys → take n (drop start xs) ≡ part_at size ys k
cut_out start n size k xs ys at many same =
    ap (λ m. take m (drop start xs)) many ∙ (ap (λ m. take size (drop m xs)) at ∙ ap (λ (zs : List ℕ). take size (drop (k * size) zs)) same)

-- what holds of all items holds of the first n
all_prefix : (P : ℕ → Type 0) (n : ℕ) (xs : List ℕ) → AllByRecursion P xs → AllByRecursion P (take n xs)
all_prefix P zero xs all = tt
all_prefix P (suc n) [] all = tt
all_prefix P (suc n) (x ∷ xs) all = (all.0, all_prefix P n xs all.1)

-- what holds of all items holds of those after the first n
all_after : (P : ℕ → Type 0) (n : ℕ) (xs : List ℕ) → AllByRecursion P xs → AllByRecursion P (drop n xs)
all_after P zero xs all = all
all_after P (suc n) [] all = tt
all_after P (suc n) (x ∷ xs) all = all_after P n xs all.1

pub all_of_part : (P : ℕ → Type 0) (size k : ℕ) (xs : List ℕ) → AllByRecursion P xs → AllByRecursion P (part_at size xs k)
all_of_part P size k xs all = all_prefix P size (drop (k * size) xs) (all_after P (k * size) xs all)

-- ---- the lines

-- a line of the picture that samples make is these samples, cut out
pub lent_line : (shape : PictureShape) (samples : List ℕ) (component line : ℕ) → component < length shape.ids → line < shape.height
    → line_of (picture_in shape samples) component line ≡ line_in shape samples component line
lent_line shape samples component line component_in line_below =
    ap (λ (plane : List (List ℕ)). get_or plane line [])
    (get_or-map-range_with_len (lines_in shape samples) 0 (length shape.ids) component component [] component_in (zero-add component))
    ∙ get_or-map-range_with_len (line_in shape samples component) 0 shape.height line line [] line_below (zero-add line)

-- a line that is cut out of samples of a shape is a line of it
pub line_fits : (shape : PictureShape) (samples : List ℕ) → AreSamplesOf shape samples → (component line : ℕ)
    → component < length shape.ids → line < shape.height → IsLineIn shape (line_in shape samples component line)
line_fits shape samples are component line component_in line_below =
    let size = shape.height * shape.width in
    let plane = part_at size samples component in (
      length_part shape.width line shape.height plane (length_part size component (length shape.ids) samples are.count component_in)
          line_below,
      all_of_part (λ sample. sample < 2 ^ shape.precision) shape.width line plane
          (all_of_part (λ sample. sample < 2 ^ shape.precision) size component samples are.in_range),
    )
