-- Histories of the two copies of two lines.
use Rattle.std.proofs.Common.{◌≡◌, ℕ, true, false, List, [], ◌∷◌, Some, None, refl, sym, ap, ◌∙◌, subst, inl, inr}
use Rattle.jls_values.specs.OrderedSetLaws.{contains-empty}
use Rattle.jls_partial.specs.Reading.{reading_cmp}
use Rattle.jls_values.specs.SameShape.{same_shape}
use Rattle.jls_values.specs.Shape.{PictureShape}
use Rattle.jls_partial.specs.PartialLaws.{shape_itself}
use Rattle.jls_partial.specs.Partial.{PartialPicture, nothing_known, union, has_same_shape, with_source}
use Rattle.jls_copy.specs.CopyReads.{CopyReads}
use Rattle.jls_copy.specs.ReadCopy.{ReadCopy}
use Rattle.jls_copy_laws.proofs.Members.{is_first, first_or_rest, none_in, bytes_of_test}
use Rattle.jls_headline.specs.Headline.{WritesThePicture}
use Rattle.jls_headline.specs.Damaged.{picture_reading}
use Rattle.jls_headline.specs.Sources.{SourcedCopy, copies_of}
use Rattle.jls_headline.specs.Sources.{sourced_copy}
use Rattle.jls_headline.proofs.LostIntervals.{surviving_lines_are_given}
use Rattle.jls_headline.proofs.SourcedStations.{copy_holds_under}
use Rattle.jls_headline.specs.Collected.{is_known, new_station, reader_finished, partial_taken, CollectedFrom, CollectedUnder}
use Rattle.jls_headline.proofs.Collected.{collected_holds, collected_holds_under}
use Rattle.jls_headline.proofs.KnownReadings.{marked_later_from, marked_later_under}
use Rattle.jls_headline.proofs.CollectedPictures.{damaged_copies_write_the_picture}
use Rattle.jls_headline.proofs.TwoLineCopies.{shape, pic, is_picture, first, second, first_data, second_data, first_scans, second_scans}
use Rattle.jls_headline.proofs.TwoLineExamples.{shape_read, line_0, both_are_damaged, each_line_survives}

-- a new station takes what `finish` gives of both
module _ (a b : ReadCopy) (ra : CopyReads first a) (rb : CopyReads second b) where
  fits_new : (r : ReadCopy) → r.partial.shape ≡ shape → has_same_shape (nothing_known shape) r.partial ≡ true
  fits_new r e = subst (λ (s : PictureShape). same_shape shape s ≡ true) (sym e) (shape_itself shape)

  abbrev with_first : PartialPicture
  with_first = union (nothing_known shape) a.partial

  abbrev pub both_copies : List SourcedCopy
  both_copies = sourced_copy None first ∷ sourced_copy None second ∷ []

  abbrev pub with_both : PartialPicture
  with_both = union with_first b.partial

  pub collected_both : CollectedFrom with_both both_copies
  collected_both = (
    [],
    partial_taken with_first with_both b.partial (sourced_copy None first ∷ []) [] (sourced_copy None second ∷ []) []
        (partial_taken (nothing_known shape) with_first a.partial [] [] (sourced_copy None first ∷ []) []
        (new_station shape (nothing_known shape) refl)
        (reader_finished None first a a.partial (bytes_of_test first refl) ra refl)
        (fits_new a (shape_read first (first_data ∷ []) a first_scans ra)) refl)
        (reader_finished None second b b.partial (bytes_of_test second refl) rb refl)
        (fits_new b (shape_read second (second_data ∷ []) b second_scans rb)) refl,
    λ copy c. absurd (none_in copy c),
  )

  pub writes_both : WritesThePicture with_both pic
  writes_both =
      damaged_copies_write_the_picture pic is_picture with_both both_copies collected_both
      (both_are_damaged []) (each_line_survives [])

-- No history makes a station that took the first copy and holds nothing of it, as one that drops what it takes
drops_nothing : (more : List SourcedCopy) → CollectedFrom (nothing_known shape) (sourced_copy None first ∷ more) → ⊥
drops_nothing more collected =
    let holds = collected_holds (nothing_known shape) (sourced_copy None first ∷ more) collected in
    let line = picture_reading pic 0 0 in
    let held = (holds.readings line).1 (first, is_first first (copies_of more), surviving_lines_are_given pic first 0 0 (line_0 [])) in
    (let none : false ≡ true = sym (contains-empty reading_cmp line) ∙ held in cc)

no_source : (n : ℕ) → None ≡ Some n → ⊥
no_source n e = (let bad = e in cc)

of_none : (copy : SourcedCopy) (bytes : List ℕ) (n : ℕ) → sourced_copy None bytes ≡ copy → copy.source ≡ Some n → ⊥
of_none copy bytes n e f = no_source n (ap (λ (c : SourcedCopy). c.source) e ∙ f)

-- What was read of the first copy, and marked later. Its readings are those of the copy, so a history of readings passes through it, and a
-- station takes it for the copy
module _ (a : ReadCopy) (ra : CopyReads first a) where
  pub marked_from : CollectedFrom (with_source a.partial 7) (sourced_copy None first ∷ [])
  marked_from =
      marked_later_from a.partial (sourced_copy None first ∷ []) 7
      ([], reader_finished None first a a.partial (bytes_of_test first refl) ra refl, λ copy c. absurd (none_in copy c))

  pub marked_is_taken : CollectedFrom (union (nothing_known shape) (with_source a.partial 7)) (sourced_copy None first ∷ [])
  marked_is_taken = (
    [],
    partial_taken (nothing_known shape) (union (nothing_known shape) (with_source a.partial 7)) (with_source a.partial 7) [] []
        (sourced_copy None first ∷ []) []
        (new_station shape (nothing_known shape) refl)
        (is_known (with_source a.partial 7) (sourced_copy None first ∷ [])
        (collected_holds (with_source a.partial 7) (sourced_copy None first ∷ []) marked_from))
        (subst (λ (s : PictureShape). same_shape shape s ≡ true) (sym (shape_read first (first_data ∷ []) a first_scans ra))
        (shape_itself shape))
        refl,
    λ copy c. absurd (none_in copy c),
  )

  -- of its sources it is known that the copy was read under none, and then under that one
  pub marked_under : CollectedUnder (with_source a.partial 7) (sourced_copy None first ∷ sourced_copy (Some 7) first ∷ [])
  marked_under =
      marked_later_under a.partial (sourced_copy None first ∷ []) 7
      ([], reader_finished None first a a.partial (bytes_of_test first refl) ra refl, λ copy c. absurd (none_in copy c))

-- under no source alone no calls came to it, and it isn't known to hold just that
pub held_and_marked : (a : ReadCopy) → CopyReads first a → CollectedUnder (with_source a.partial 7) (sourced_copy None first ∷ []) → ⊥
held_and_marked a ra collected =
    let holds = collected_holds_under (with_source a.partial 7) (sourced_copy None first ∷ []) collected in
    let line = picture_reading pic 0 0 in
    let read = (copy_holds_under (sourced_copy (Some 7) first) a (bytes_of_test first refl) ra).sources line 7 in
    let marked =
    read.1
    (sourced_copy (Some 7) first, is_first (sourced_copy (Some 7) first) [], (refl, surviving_lines_are_given pic first 0 0 (line_0 []))) in
    let from = (holds.sources line 7).0 marked in
    elim (first_or_rest from.0 (sourced_copy None first) [] from.1) [
      | inl e ↦ of_none from.0 first 7 e from.2.0
      | inr later ↦ absurd (none_in from.0 later)
    ]
