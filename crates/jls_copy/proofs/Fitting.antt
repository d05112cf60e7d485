-- The lines of an interval fit into the picture.
use Rattle.std.proofs.Common.{◌≡◌, ℕ, zero, suc, ◌+◌, ◌*◌, ◌^◌, ◌<◌, ◌≤◌, true, false, List, [], ◌∷◌, length, get_or, None, refl}
use Rattle.std.proofs.Common.{ap, ◌∙◌, subst, arith, inl, inr}
use Rattle.std.specs.Prelude.{nat_le, ◌==◌}
use Rattle.std.specs.List.{AllByRecursion, list_any}
use Rattle.std.proofs.lemmas.Bool.{cases_lt, cases_eq}
use Rattle.std.proofs.lemmas.Bool.Decides.{nat_tests}
use Rattle.std.proofs.Math.Nat.{mul-le-mul_right, suc-mul, zero-mul}
use Rattle.jls_values.specs.Shape.{PictureShape}
use Rattle.jls_values.specs.Params.{CodingParameters, AreCodingParameters}
use Rattle.jls_interval.specs.Lines.{IsLine, AreLines}
use Rattle.jls_partial.specs.InsertFaults.{reading_fault}
use Rattle.jls_marker.specs.Scan.{Scan, IsScan, IsScanOf, intervals, first_row, row_count}
use Rattle.jls_copy.specs.Fits.{IsLineOfShape, FitFrom}

-- a product of a sum
times_sum : (a b c : ℕ) → (a + b) * c ≡ a * c + b * c
times_sum a zero c = let e : a + zero ≡ a = omega arith in let z : zero * c ≡ 0 = zero-mul c in rw (e, z) (omega arith)
times_sum a (suc b) c =
    let e : a + suc b ≡ suc (a + b) = omega arith in let f = suc-mul (a + b) c in let g = suc-mul b c in let i = times_sum a b c in
    rw e (omega (arith, f, g, i))

-- no sample is too large
pub none_large : (bound : ℕ) (line : List ℕ) → AllByRecursion (λ sample. sample < bound) line → list_any (λ x. nat_le bound x) line ≡ false
none_large bound [] each = refl
none_large bound (x ∷ line) each =
    let here : nat_le bound x ≡ false = grind (arith, nat_tests, each.0) in rw here (none_large bound line each.1)

-- a line of the shape, at a place of it, fits the picture
pub fault_none : (shape : PictureShape) (component line : ℕ) (samples : List ℕ) → component < length shape.ids → line < shape.height
    → IsLineOfShape shape samples
    → reading_fault shape component line samples ≡ None
fault_none shape component line samples c l s =
    let known : nat_le (length shape.ids) component ≡ false = grind (arith, nat_tests, c) in
    let there : nat_le shape.height line ≡ false = grind (arith, nat_tests, l) in
    let wide : (length samples == shape.width) ≡ true = grind (arith, nat_tests, s.0) in
    rw (known, there, wide, none_large (2 ^ shape.precision) samples s.1) refl

-- a component of a scan is one of the picture
component_in : (bound place : ℕ) (components : List ℕ) → AllByRecursion (λ c. c < bound) components → place < length components
    → get_or components place 0 < bound
component_in bound place [] each h = absurd (omega arith)
component_in bound zero (c ∷ components) each h = each.0
component_in bound (suc place) (c ∷ components) each h = component_in bound place components each.1 (omega (arith, h))

-- a line that is counted among all lines of the components is in a row of the picture
row_in : (row height c place : ℕ) → row * c + place + 1 ≤ height * c → row < height
row_in row height c place h = elim (cases_lt row height) [
  | inl below ↦ below
  | inr above ↦ (let more : height * c ≤ row * c = mul-le-mul_right c above in absurd (omega (arith, h, more)))
]

module _ (shape : PictureShape) (components : List ℕ) (row place : ℕ) (line : List ℕ) (lines : List (List ℕ))
    (fit : FitFrom shape components row place (line ∷ lines)) where
  pub row_here : row < shape.height
  row_here = let room : row * length components + place + suc (length lines) ≤ shape.height * length components = fit.room in
      row_in row shape.height (length components) place (omega (arith, room))

  pub takes_here : reading_fault shape (get_or components place 0) row line ≡ None
  takes_here = fault_none shape (get_or components place 0) row line
      (component_in (length shape.ids) place components fit.components_in fit.place_in) row_here fit.each.0

  -- lines after the next component's fit from there on
  pub fit_beside : place + 1 < length components → FitFrom shape components row (place + 1) lines
  fit_beside h = record {
    height_below = fit.height_below;
    components_in = fit.components_in;
    place_in = h;
    room = let room : row * length components + place + suc (length lines) ≤ shape.height * length components = fit.room in
        omega (arith, room);
    each = fit.each.1;
  }

  -- lines after the last component's fit from the next row on
  pub fit_below : place + 1 ≡ length components → FitFrom shape components (row + 1) 0 lines
  fit_below h = record {
    height_below = fit.height_below;
    components_in = fit.components_in;
    place_in = omega (arith, h);
    room = let room : row * length components + place + suc (length lines) ≤ shape.height * length components = fit.room in
        let next : (row + 1) * length components ≡ row * length components + 1 * length components = times_sum row 1 (length components) in
        omega (arith, room, next, h);
    each = fit.each.1;
  }

-- lines of a scan fit the picture whose width and precision the scan has
line_fits : (shape : PictureShape) (p : CodingParameters) (width : ℕ) (lines : List (List ℕ)) → AreCodingParameters p
    → p.precision ≡ shape.precision → width ≡ shape.width
    → AllByRecursion (IsLine p width) lines → AllByRecursion (IsLineOfShape shape) lines
line_fits shape p width [] ok same wide each = tt
line_fits shape p width (line ∷ lines) ok same wide each =
    ((each.0.0 ∙ wide, samples line each.0.1), line_fits shape p width lines ok same wide each.1)
  where
    top : p.maxval < 2 ^ shape.precision
    top = subst (λ bits. p.maxval < 2 ^ bits) same ok.maxval_below

    samples : (line : List ℕ) → AllByRecursion (λ sample. sample ≤ p.maxval) line
        → AllByRecursion (λ sample. sample < 2 ^ shape.precision) line
    samples [] all = tt
    samples (x ∷ line) all = (omega (arith, all.0, top), samples line all.1)

-- the rows of an interval are rows of the picture
rows_in : (s : Scan) (k : ℕ) → first_row s k < s.height → first_row s k + row_count s k ≤ s.height
rows_in s k first = elim (cases_eq s.restart_interval 0) [
  | inl none ↦ (let test : (s.restart_interval == 0) ≡ true = grind (arith, nat_tests, none) in rw (test, none) (omega arith))
  | inr some ↦ (let test : (s.restart_interval == 0) ≡ false = grind (arith, nat_tests, some) in rw test (omega (arith, first)))
]

-- the first lines of an interval fit where they are placed
pub lines_fit : (shape : PictureShape) (s : Scan) (k count : ℕ) (lines : List (List ℕ)) → IsScan s → IsScanOf shape s → k < intervals s
    → count ≤ row_count s k * length s.components → AreLines s.params s.width count lines
    → FitFrom shape s.components (first_row s k) 0 lines
lines_fit shape s k n lines ok of_shape within few are = record {
  height_below = subst (λ height. height < 2 ^ 16) of_shape.height ok.height_below;
  components_in = of_shape.components_below;
  place_in = omega (arith, ok.components_at_least);
  room =
      let count = are.count_is in let rows = rows_in s k (ok.first_rows k within) in
      let all : (first_row s k + row_count s k) * length s.components ≤ s.height * length s.components =
      mul-le-mul_right (length s.components) rows in
      let parts = times_sum (first_row s k) (row_count s k) (length s.components) in
      let same : s.height * length s.components ≡ shape.height * length s.components =
      ap (λ height. height * length s.components) of_shape.height in
      omega (arith, count, few, all, parts, same);
  each = line_fits shape s.params s.width lines ok.params of_shape.precision of_shape.width are.each;
}
