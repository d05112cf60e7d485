-- The options of a plan fit the picture of samples that are not too large.
use Rattle.std.proofs.Common.{◌≡◌, ℕ, ◌*◌, ◌^◌, ◌-◌, ◌<◌, ◌≤◌, ◌==◌, min, if◌then◌else◌, Bool, true, false, cond, List, ◌++◌, length}
use Rattle.std.proofs.Common.{Option, Some, None, Result, Ok, Err}
use Rattle.std.proofs.Common.{ap, sym, subst, ◌∙◌, arith}
use Rattle.std.specs.Prelude.{All, ◌↔◌, IsTrue, nat_le}
use Rattle.std.specs.List.{AllByRecursion, list_any}
use Rattle.std.proofs.lemmas.Bool.{false≢true}
use Rattle.jls_values.specs.Params.{CodingParameters}
use Rattle.jls_values.specs.ParamsOf.{in_force, param_fault, params_in_range, params_of}
use Rattle.jls_values.specs.PresetParameters.{no_presets}
use Rattle.jls_values.specs.Shape.{PictureShape, has_repeat}
use Rattle.jls_values.specs.ShapeOf.{size_fault, unless_fault, shape_of}
use Rattle.jls_values.specs.declared.params.ParamFault.{ParamFault}
use Rattle.jls_values.specs.declared.shape.ShapeFault.{ShapeFault}
use Rattle.jls_values.specs.declared.shape.ShapeFault.TheVariants.{RepeatedId}
use Rattle.jls_values.proofs.Lists.{all_at_most}
use Rattle.jls_write.specs.Options.{WriteOptions, OptionsFit, components_of_scan, rows_of_interval}
use Rattle.jls_write.specs.Picture.{WholePicture}
use Rattle.jls_write.specs.Samples.{line_in, picture_in, AreSamplesOf}
use Rattle.jls_write.specs.WrittenFile.{written_file}
use Rattle.jls_write.proofs.Lending.{all_below}
use Rattle.jls_write.proofs.Sampled.{lent_line, line_fits}
use Rattle.jls_c.specs.Written.{IsShapeOf, IsPlanOf, HasLargeInterval, HasLargeSample, IsFileOf, ids_of}
use Rattle.jls_c.specs.declared.frame.JlsFrame.{JlsFrame}

-- ---- a plan

params_are : (p q : CodingParameters) (fault : Option ParamFault) → params_in_range p fault ≡ Ok q → p ≡ q
params_are p q (Some fault) e = absurd cc
params_are p q None e = cc

shape_is : (fault : Option ShapeFault) (repeats : Bool) (p q : PictureShape) → unless_fault fault (cond repeats (Err RepeatedId) (Ok p))
    ≡ Ok q → p ≡ q
shape_is (Some fault) repeats p q e = absurd cc
shape_is None true p q e = absurd cc
shape_is None false p q e = cc

-- the defaults of a precision
defaults_are : (precision : ℕ) (p : CodingParameters) → params_of precision no_presets ≡ Ok p → in_force precision no_presets ≡ p
defaults_are precision p e = params_are (in_force precision no_presets) p (param_fault (in_force precision no_presets)) e

precision_is : (f : JlsFrame) (shape : PictureShape) → shape_of f.precision f.width f.height (ids_of f.components) ≡ Ok shape → f.precision
    ≡ shape.precision
precision_is f shape e =
    let made : PictureShape = record { precision = f.precision; width = f.width; height = f.height; ids = ids_of f.components } in
    ap (λ (s : PictureShape). s.precision)
    (shape_is (size_fault f.precision f.width f.height (length (ids_of f.components))) (has_repeat (ids_of f.components)) made shape e)

-- ---- what fits

pub plan_fits : (f : JlsFrame) (count : ℕ) (shape : PictureShape) (options : WriteOptions) (samples : List ℕ)
    → IsPlanOf f count shape options
    → AreSamplesOf shape samples → shape.width * components_of_scan shape options * rows_of_interval shape options ≤ 2 ^ 28
    → OptionsFit (picture_in shape samples) options
plan_fits f count shape options samples plan are few =
    let params : in_force f.precision no_presets ≡ options.params = defaults_are f.precision options.params plan.are_options.defaults in
    let precision : f.precision ≡ shape.precision = precision_is f shape plan.is_shape.shape_is in
    let most : 2 ^ shape.precision - 1 ≡ options.params.maxval =
    ap (λ p. 2 ^ p - 1) (sym precision) ∙ ap (λ (p : CodingParameters). p.maxval) params in
    record {
      precision = sym (ap (λ (p : CodingParameters). p.precision) params) ∙ precision;
      samples = λ component inside line below.
          let within = all_at_most (2 ^ shape.precision) (line_in shape samples component line)
          (line_fits shape samples are component line inside below).1 in
          subst (λ (xs : List ℕ). All (λ sample. sample ≤ options.params.maxval) xs)
          (sym (lent_line shape samples component line inside below))
          (subst (λ (n : ℕ). All (λ sample. sample ≤ n) (line_in shape samples component line)) most within);
      interval = few;
    }

not_large : (large : Bool) (n m : ℕ) → (IsTrue large ↔ (n < m)) → large ≡ false → m ≤ n
not_large true n m both e = absurd cc
not_large false n m both e = let none : n < m → ⊥ = λ less. let true_is : false ≡ true = both.1 less in cc in omega (arith, none)

-- what is known after the tests for large samples and intervals
pub all_in_range : (shape : PictureShape) (samples : List ℕ) (precision : ℕ) (large : Bool) → precision ≡ shape.precision
    → large ≡ list_any (λ x. nat_le (2 ^ precision) x) samples → large ≡ false
    → AllByRecursion (λ sample. sample < 2 ^ shape.precision) samples
all_in_range shape samples precision large precision_is test none =
    subst (λ (p : ℕ). AllByRecursion (λ sample. sample < 2 ^ p) samples) precision_is (all_below (2 ^ precision) samples (sym test ∙ none))

pub tested_fits : (f : JlsFrame) (shape : PictureShape) (options : WriteOptions) (samples : List ℕ) (pic : WholePicture) (large : Bool)
    → IsPlanOf f (length samples) shape options → AllByRecursion (λ sample. sample < 2 ^ shape.precision) samples
    → (IsTrue large ↔ (2 ^ 28 < shape.width * components_of_scan shape options * rows_of_interval shape options)) → large ≡ false
    → pic ≡ picture_in shape samples → OptionsFit pic options
tested_fits f shape options samples pic large plan in_range test none pic_is =
    subst (λ (p : WholePicture). OptionsFit p options) (sym pic_is)
    (plan_fits f (length samples) shape options samples plan (record { count = plan.count_is; in_range = in_range })
    (not_large large (2 ^ 28) (shape.width * components_of_scan shape options * rows_of_interval shape options) test none))

-- ---- what is refused

ok_same : {T E : Type 0} (r : Result T E) (x y : T) → r ≡ Ok x → r ≡ Ok y → x ≡ y
ok_same r x y is again = cc

one_shape : (f : JlsFrame) (shape other : PictureShape) → IsShapeOf f shape → IsShapeOf f other → shape ≡ other
one_shape f shape other is again = ok_same (shape_of f.precision f.width f.height (ids_of f.components)) shape other is.shape_is again.shape_is

-- how many samples the longest interval has
abbrev longest : PictureShape → Bool → ℕ → ℕ
longest shape line interval =
    shape.width * (if line then length shape.ids else 1) * (if interval == 0 then shape.height else min interval shape.height)

pub no_large_interval : (f : JlsFrame) (count : ℕ) (shape : PictureShape) (options : WriteOptions) (large : Bool)
    → IsPlanOf f count shape options
    → (IsTrue large ↔ (2 ^ 28 < shape.width * components_of_scan shape options * rows_of_interval shape options)) → large ≡ false
    → HasLargeInterval f → ⊥
no_large_interval f count shape options large plan test none has =
    let same : has.shape ≡ shape = one_shape f has.shape shape has.is_shape plan.is_shape in
    let line : has.options.line ≡ options.line = has.are_options.line_is ∙ sym plan.are_options.line_is in
    let rows : has.options.restart_interval ≡ options.restart_interval = has.are_options.interval_is ∙ sym plan.are_options.interval_is in
    let long : longest has.shape has.options.line has.options.restart_interval
    ≡ longest shape options.line options.restart_interval =
    ap (λ (s : PictureShape). longest s has.options.line has.options.restart_interval) same
    ∙ (ap (λ (l : Bool). longest shape l has.options.restart_interval) line ∙ ap (λ (n : ℕ). longest shape options.line n) rows) in
    false≢true (sym none ∙ test.1 (subst (λ (n : ℕ). 2 ^ 28 < n) long has.large))

pub no_large_sample : (f : JlsFrame) (count : ℕ) (shape : PictureShape) (options : WriteOptions) (samples : List ℕ) (precision : ℕ)
    (large : Bool)
    → IsPlanOf f count shape options → precision ≡ shape.precision → large ≡ list_any (λ x. nat_le (2 ^ precision) x) samples
    → large ≡ false → HasLargeSample f samples → ⊥
no_large_sample f count shape options samples precision large plan precision_is test none has =
    let same : has.shape.precision ≡ precision =
    ap (λ (s : PictureShape). s.precision) (one_shape f has.shape shape has.is_shape plan.is_shape) ∙ sym precision_is in
    let some = subst (λ (p : ℕ). list_any (λ x. nat_le (2 ^ p) x) samples ≡ true) same has.large in
    false≢true (sym none ∙ (test ∙ some))

-- ---- the file

pub tested_file : (f : JlsFrame) (shape : PictureShape) (options : WriteOptions) (samples front back : List ℕ) (pic : WholePicture)
    (large : Bool)
    → IsPlanOf f (length samples) shape options → AllByRecursion (λ sample. sample < 2 ^ shape.precision) samples
    → (IsTrue large ↔ (2 ^ 28 < shape.width * components_of_scan shape options * rows_of_interval shape options)) → large ≡ false
    → pic ≡ picture_in shape samples → front ++ back ≡ written_file pic options → IsFileOf f samples (front ++ back)
tested_file f shape options samples front back pic large plan in_range test none pic_is bytes = record {
  shape = shape;
  options = options;
  plan = plan;
  fit = subst (λ (p : WholePicture). OptionsFit p options) pic_is
      (tested_fits f shape options samples pic large plan in_range test none pic_is);
  file_is = bytes ∙ ap (λ (p : WholePicture). written_file p options) pic_is;
}
