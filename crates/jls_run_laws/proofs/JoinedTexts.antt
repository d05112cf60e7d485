-- What damaged copies of a picture are joined to has a text, and so an input that gives that text gives what was joined.
use Rattle.std.proofs.Common.{◌≡◌, ℕ, zero, suc, ◌<◌, ◌≤◌, ◌^◌, Bool, true, List, [], ◌∷◌, length, map, Result, Ok, Err, None, refl}
use Rattle.std.proofs.Common.{sym, ap, ◌∙◌, subst, arith, ◌⊎◌, inl, inr}
use Rattle.std.specs.Prelude.{filter, get_or, ◌==◌, ◌&&◌}
use Rattle.std.specs.List.{AllByRecursion, Contains}
use Rattle.std.proofs.lemmas.Bool.{cases_Bool, and_parts, eqb-true}
use Rattle.std.proofs.lemmas.Bool.Decides.{nat_tests}
use Rattle.jls_values.specs.OrderedSet as set
use Rattle.jls_values.specs.OrderedSetLaws.{contains-items}
use Rattle.jls_values.specs.Shape.{PictureShape, IsShape}
use Rattle.jls_partial.specs.InsertFaults.{reading_fault, samples_fault}
use Rattle.jls_partial.specs.Reading.{Reading, reading_of}
use Rattle.jls_partial.specs.Partial.{PartialPicture, readings_at}
use Rattle.jls_partial.specs.Text.{text, IsPartial, IsTextOf}
use Rattle.jls_partial.specs.TextReading.{byte_field, version_field}
use Rattle.jls_partial.proofs.TextEntries.{fits_there}
use Rattle.jls_partial.proofs.TextLaws.{one_text}
use Rattle.jls_partial.proofs.HeldItems.{any_of_member}
use Rattle.jls_partial.proofs.Statuses.{one_reading}
use Rattle.jls_write.specs.Picture.{WholePicture, line_of}
use Rattle.jls_file_laws.specs.Covering.{IsLineOf}
use Rattle.jls_station.specs.Texts.{is_text}
use Rattle.jls_station.specs.Given.{Given, Gives, by_text, by_copy}
use Rattle.jls_headline.specs.Damaged.{Damaged}
use Rattle.jls_headline.specs.Stations.{HoldsExactly}
use Rattle.jls_write.specs.WholePictures.{IsLineIn, IsPicture}
use Rattle.jls_headline.specs.ReadsAs.{GivesPicture}
use Rattle.jls_copy_laws.proofs.Members.{is_first, in_rest, all_at}
use Rattle.jls_headline.proofs.LostIntervals.{damaged_copies_give_no_other}
use Rattle.jls_headline.proofs.Pictures.{heights}
use Rattle.jls_headline.proofs.WrittenFiles.{component_at}
use Rattle.jls_station.proofs.TextsApart.{no_text}
use Rattle.jls_copy.proofs.Fitting.{none_large}

-- Lines of a picture fit its shape -------------------------------------------------------------------------------

line_fits : (s : PictureShape) (samples : List ℕ) → IsLineIn s samples → samples_fault s.precision s.width samples ≡ None
line_fits s samples is =
    let wide : (length samples == s.width) ≡ true = grind (arith, nat_tests, is.0) in
    rw (wide, none_large (2 ^ s.precision) samples is.1) refl

line_in : (s : PictureShape) (lines : List (List ℕ)) → AllByRecursion (IsLineIn s) lines → (y : ℕ) → y < length lines
    → IsLineIn s (get_or lines y [])
line_in s [] a y l = absurd (omega (arith, l))
line_in s (x ∷ xs) a zero l = a.0
line_in s (x ∷ xs) a (suc y) l = line_in s xs a.1 y (omega (arith, l))

picture_line_fits : (pic : WholePicture) → IsPicture pic → (r : Reading) → IsLineOf pic r
    → reading_fault pic.shape r.component r.line r.samples ≡ None
picture_line_fits pic is r of =
    let inside : r.component < length pic.lines = subst (λ n. r.component < n) (sym is.components) of.0 in
    let lines = get_or pic.lines r.component [] in
    let low : r.line < length lines = subst (λ n. r.line < n) (sym (heights pic.shape pic.lines is.each r.component inside)) of.1 in
    let line : IsLineIn pic.shape (line_of pic r.component r.line) =
    line_in pic.shape lines (component_at pic.shape pic.lines is.each r.component inside) r.line low in
    fits_there pic.shape r.component r.line r.samples of.0 of.1
    (line_fits pic.shape r.samples (subst (IsLineIn pic.shape) (sym of.2) line))

-- Few readings ---------------------------------------------------------------------------------------------------

-- nothing passes a test, or what passes tells something
none_or : (P : Type 0) (pass : Reading → Bool) (rs : List Reading) → ((r : Reading) → Contains rs r → pass r ≡ true → P)
    → (filter pass rs ≡ []) ⊎ P
none_or P pass [] tells = inl refl
none_or P pass (r ∷ rs) tells =
    elim (cases_Bool (pass r)) [
      | inl e ↦ inr (tells r (is_first r rs) e)
      | inr e ↦ rw e (none_or P pass rs (λ q c. tells q (in_rest q r rs c)))
    ]

few : (n : ℕ) → n ≤ 1 → n < 2 ^ 64
few n h = omega (arith, h)

-- The version that is written ------------------------------------------------------------------------------------

abbrev IsRead : {V F : Type 0} → Result (V × List ℕ) F → Type 0
IsRead (Ok x) = Unit {0}
IsRead (Err f) = ⊥

abbrev value_read : {V F : Type 0} (r : Result (V × List ℕ) F) → IsRead r → V
value_read (Ok x) h = x.0
value_read (Err f) h = absurd h

-- What is held are lines of the picture --------------------------------------------------------------------------

pub held_are_lines : (pic : WholePicture) (p : PartialPicture) (copies : List (List ℕ)) → HoldsExactly p copies
    → AllByRecursion (Damaged pic) copies → (r : Reading) → set.contains p.readings r ≡ true → IsLineOf pic r
held_are_lines pic p copies h damaged r held =
    let from = (h.readings r).0 held in
    damaged_copies_give_no_other pic from.0 (all_at (Damaged pic) copies from.0 damaged from.1) r from.2

module _ (pic : WholePicture) (is : IsPicture pic) (p : PartialPicture) (gives : GivesPicture p pic)
    (lines : (r : Reading) → set.contains p.readings r ≡ true → IsLineOf pic r)
    (marks : (r : Reading) (source : ℕ) → set.contains p.marks (r, source) ≡ true → (set.contains p.readings r ≡ true)
    × (source < 2 ^ 32)) where
  same_shape : p.shape ≡ pic.shape
  same_shape = ap (λ (x : WholePicture). x.shape) gives.1

  few_readings : (component line : ℕ) → length (readings_at p component line) < 2 ^ 64
  few_readings component line =
      let xs = readings_at p component line in
      elim (none_or (length xs ≡ 1) (λ r. r.component == component && r.line == line) (set.items p.readings) here) [
        | inl none ↦ (
            let e : length xs ≡ 0 = ap (λ (rs : List Reading). length (map (λ r. r.samples) rs)) none in few (length xs) (omega (arith, e)))
        | inr one ↦ few (length xs) (omega (arith, one))
      ]
    where
      here : (r : Reading) → Contains (set.items p.readings) r → (r.component == component && r.line == line) ≡ true
          → length (readings_at p component line) ≡ 1
      here r c e =
          let of = lines r (contains-items p.readings r ∙ any_of_member (set.items p.readings) r c) in
          let there = and_parts (r.component == component) (r.line == line) e in
          let k : component < length p.shape.ids =
          subst (λ (s : PictureShape). component < length s.ids) (sym same_shape)
          (subst (λ n. n < length pic.shape.ids) (eqb-true r.component component there.0) of.0) in
          let y : line < p.shape.height =
          subst (λ (s : PictureShape). line < s.height) (sym same_shape)
          (subst (λ n. n < pic.shape.height) (eqb-true r.line line there.1) of.1) in
          one_reading (readings_at p component line) (gives.0 component k line y)

  is_partial : IsPartial p
  is_partial = record {
    shape = subst IsShape (sym same_shape) is.shape;
    fitting = λ component line samples held. subst (λ s. reading_fault s component line samples ≡ None) (sym same_shape)
        (picture_line_fits pic is (reading_of component line samples) (lines (reading_of component line samples) held));
    countable = few_readings;
    marks_held = λ r source h. (marks r source h).0;
    sources_small = λ r source h. (marks r source h).1;
  }

  -- its byte is 2
  pub its_text : IsTextOf (text p) p
  unfolding version_field byte_field
  its_text = record { partial = is_partial; version = value_read (version_field 1 (2 ∷ [])) tt; says_all = tt; bytes_are = refl }

-- What an input gives whose bytes are a text ---------------------------------------------------------------------

pub text_given : (bytes : List ℕ) (p : PartialPicture) (g : Given) → IsTextOf bytes p → Gives None bytes g → g.partial ≡ p
text_given bytes p _ is (by_text _ _ q is') = one_text bytes q p is' is
text_given bytes p _ is (by_copy _ _ read stop copied reads) = no_text bytes copied (ap is_text is.bytes_are)
