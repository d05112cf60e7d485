-- The lines that a picture lends make a picture in its ranges.
use Rattle.std.proofs.Common.{◌≡◌, ℕ, zero, suc, ◌+◌, ◌<◌, List, [], ◌∷◌, length, map, get_or, Some, refl, ap, ◌∙◌, arith, zero-add}
use Rattle.std.specs.Prelude.{slice_get}
use Rattle.std.specs.List.{range_with_len, AllByRecursion}
use Rattle.std.proofs.lemmas.List.FromFn.{length-map-range_with_len, get_or-map-range_with_len}
use Rattle.jls_values.specs.Shape.{PictureShape, IsShape}
use Rattle.jls_partial.specs.Partial.{PartialPicture, readings_at, IsFitting}
use Rattle.jls_partial.specs.Status.{IsSettled}
use Rattle.jls_partial.proofs.Marked.{got_held}
use Rattle.jls_partial.proofs.Statuses.{one_reading}
use Rattle.jls_write.specs.Picture.{WholePicture, line_of, settled_line, picture_of}
use Rattle.jls_write.specs.Samples.{line_in, picture_in, AreSamplesOf}
use Rattle.jls_write.specs.WholePictures.{IsLineIn, IsComponentIn, IsPicture, IsWholePicture}
use Rattle.jls_write.proofs.Lending.{fits_shape}
use Rattle.jls_write.proofs.Sampled.{line_fits}

all_of_range : {X : Type 0} (P : X → Type 0) (f : ℕ → X) (from n : ℕ) → ((i : ℕ) → i < from + n → P (f i))
    → AllByRecursion P (map f (range_with_len from n))
all_of_range P f from zero each = tt
all_of_range P f from (suc n) each = (each from (omega arith), all_of_range P f (from + 1) n (λ i l. each i (omega (arith, l))))

-- ---- lines that are made one by one

-- the picture whose lines are these, by component and line
abbrev picture_by : PictureShape → (ℕ → ℕ → List ℕ) → WholePicture
picture_by shape f = record {
  shape = shape;
  lines = map (λ component. map (f component) (range_with_len 0 shape.height)) (range_with_len 0 (length shape.ids));
}

module _ (shape : PictureShape) (ranges : IsShape shape) (f : ℕ → ℕ → List ℕ)
    (fits : (component line : ℕ) → component < length shape.ids → line < shape.height → IsLineIn shape (f component line)) where
  -- a line of a picture that is made line by line is the line that was made
  line_by : (component line : ℕ) → component < length shape.ids → line < shape.height → line_of (picture_by shape f) component line
      ≡ f component line
  line_by component line inside below =
      ap (λ (plane : List (List ℕ)). get_or plane line [])
      (get_or-map-range_with_len (λ c. map (f c) (range_with_len 0 shape.height)) 0 (length shape.ids) component component [] inside
      (zero-add component))
      ∙ get_or-map-range_with_len (f component) 0 shape.height line line [] below (zero-add line)

  -- a component that is made line by line is one of the shape
  component_by : (component : ℕ) → component < length shape.ids → IsComponentIn shape (map (f component) (range_with_len 0 shape.height))
  component_by component inside = (
    length-map-range_with_len (f component) 0 shape.height,
    all_of_range (IsLineIn shape) (f component) 0 shape.height (λ line l. fits component line inside (omega (arith, l))),
  )

  -- a picture that is made of lines in their range is in its ranges
  picture_by_is : IsPicture (picture_by shape f)
  picture_by_is = record {
    shape = ranges;
    components = length-map-range_with_len (λ c. map (f c) (range_with_len 0 shape.height)) 0 (length shape.ids);
    each = all_of_range (IsComponentIn shape) (λ c. map (f c) (range_with_len 0 shape.height)) 0 (length shape.ids)
        (λ c l. component_by c (omega (arith, l)));
  }

  -- a picture that is made line by line has each line
  whole_by : IsWholePicture (picture_by shape f)
  whole_by = record {
    shape = ranges;
    widths = λ component line inside below. ap (λ (samples : List ℕ). length samples) (line_by component line inside below)
        ∙ (fits component line inside below).0;
  }

-- ---- a settled partial picture

-- the first of a list of one is that one
only_got : (xs : List (List ℕ)) → length xs ≡ 1 → slice_get xs 0 ≡ Some (get_or xs 0 [])
only_got [] e = absurd (omega (arith, e))
only_got (x ∷ xs) e = refl

module _ (p : PartialPicture) (shape : IsShape p.shape) (fits : IsFitting p) (settled : IsSettled p) where
  -- a line of a settled partial picture is a line of its shape
  settled_fits : (component line : ℕ) → component < length p.shape.ids → line < p.shape.height
      → IsLineIn p.shape (settled_line p component line)
  settled_fits component line inside below =
      let got = only_got (readings_at p component line)
      (one_reading (readings_at p component line) (settled component inside line below)) in
      let samples = settled_line p component line in
      fits_shape p.shape component line samples (fits component line samples (got_held p component line 0 samples got))

  pub is_picture : IsPicture (picture_of p)
  is_picture = picture_by_is p.shape shape (settled_line p) settled_fits

  pub is_whole : IsWholePicture (picture_of p)
  is_whole = whole_by p.shape shape (settled_line p) settled_fits

-- ---- samples

pub samples_are_picture : (shape : PictureShape) (samples : List ℕ) → IsShape shape → AreSamplesOf shape samples
    → IsPicture (picture_in shape samples)
samples_are_picture shape samples ranges are = picture_by_is shape ranges (line_in shape samples) (line_fits shape samples are)

pub samples_are_whole : (shape : PictureShape) (samples : List ℕ) → IsShape shape → AreSamplesOf shape samples
    → IsWholePicture (picture_in shape samples)
samples_are_whole shape samples ranges are = whole_by shape ranges (line_in shape samples) (line_fits shape samples are)
