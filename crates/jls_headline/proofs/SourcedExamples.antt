-- A station that took the two copies of two lines under sources: it was collected under them, and holds exactly their readings, each under
-- the source of the copy that gives it.
use Rattle.std.proofs.Common.{◌≡◌, ℕ, true, List, [], ◌∷◌, Option, Some, None, refl, sym, ap, ◌∙◌, inl, inr}
use Rattle.jls_values.specs.OrderedSet as set
use Rattle.jls_partial.specs.Partial.{PartialPicture, nothing_known, union}
use Rattle.jls_partial.specs.Reading.{Reading}
use Rattle.jls_station.specs.Given.{marked}
use Rattle.jls_copy_laws.proofs.Members.{is_first, first_or_rest, none_in, bytes_of_test}
use Rattle.jls_headline.specs.Collected.{new_station, reader_finished, partial_taken, CollectedUnder}
use Rattle.jls_headline.specs.Damaged.{picture_reading}
use Rattle.jls_headline.specs.Sources.{SourcedCopy, sourced_copy, HoldsExactlyUnder}
use Rattle.jls_headline.proofs.ClosedExamples.{first_read, second_read, first_reads, second_reads}
use Rattle.jls_headline.proofs.Collected.{collected_holds_under}
use Rattle.jls_headline.proofs.LostIntervals.{surviving_lines_are_given}
use Rattle.jls_headline.proofs.TwoLineCopies.{shape, pic, first, second}
use Rattle.jls_headline.proofs.TwoLineExamples.{line_0}

-- the first copy under 7, and the second under none
abbrev copies : List SourcedCopy
copies = sourced_copy (Some 7) first ∷ sourced_copy None second ∷ []

abbrev with_first : PartialPicture
with_first = union (nothing_known shape) (marked (Some 7) first_read.partial)

abbrev station : PartialPicture
station = union with_first second_read.partial

station_is_collected_under : CollectedUnder station copies
station_is_collected_under = (
  [],
  partial_taken with_first station second_read.partial (sourced_copy (Some 7) first ∷ []) [] (sourced_copy None second ∷ []) []
      (partial_taken (nothing_known shape) with_first (marked (Some 7) first_read.partial) [] [] (sourced_copy (Some 7) first ∷ []) []
      (new_station shape (nothing_known shape) refl)
      (reader_finished (Some 7) first first_read (marked (Some 7) first_read.partial) (bytes_of_test first refl) first_reads refl)
      refl refl)
      (reader_finished None second second_read second_read.partial (bytes_of_test second refl) second_reads refl)
      refl refl,
  λ copy c. absurd (none_in copy c),
)

station_holds_under : HoldsExactlyUnder station copies
station_holds_under = collected_holds_under station copies station_is_collected_under

-- so line 0 has the source 7
line_0_is_of_7 : set.contains station.marks (picture_reading pic 0 0, 7) ≡ true
line_0_is_of_7 =
    (station_holds_under.sources (picture_reading pic 0 0) 7).1
    (sourced_copy (Some 7) first, is_first (sourced_copy (Some 7) first) (sourced_copy None second ∷ []), (refl, surviving_lines_are_given pic first 0 0 (line_0 [])))

-- and no reading has another source
abbrev number_of : Option ℕ → ℕ
number_of None = 7
number_of (Some n) = n

of_7 : (copy : SourcedCopy) (source : ℕ) → sourced_copy (Some 7) first ≡ copy → copy.source ≡ Some source → source ≡ 7
of_7 copy source e f = sym (ap number_of (ap (λ (c : SourcedCopy). c.source) e ∙ f))

of_none : (copy : SourcedCopy) (source : ℕ) → sourced_copy None second ≡ copy → copy.source ≡ Some source → source ≡ 7
of_none copy source e f = sym (ap number_of (ap (λ (c : SourcedCopy). c.source) e ∙ f))

no_other_source : (r : Reading) (source : ℕ) → set.contains station.marks (r, source) ≡ true → source ≡ 7
no_other_source r source marked =
    let from = (station_holds_under.sources r source).0 marked in
    elim (first_or_rest from.0 (sourced_copy (Some 7) first) (sourced_copy None second ∷ []) from.1) [
      | inl e ↦ of_7 from.0 source e from.2.0
      | inr later ↦ elim (first_or_rest from.0 (sourced_copy None second) [] later) [
        | inl e ↦ of_none from.0 source e from.2.0
        | inr none ↦ absurd (none_in from.0 none)
      ]
    ]
