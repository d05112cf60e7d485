-- The text of a report of two components, written by hand.
use Rattle.std.proofs.Common.{◌≡◌, ◌∙◌, ap, ℕ, List, [], ◌∷◌, refl}
use Rattle.std.specs.Prelude.{codes}
use Rattle.std.specs.List.Sorted.{IsStrictlySortedBy}
use Rattle.jls_values.specs.OrderedSet as set
use Rattle.jls_values.specs.OrderedSetLaws.{items-from_list}
use Rattle.jls_values.specs.Shape.{PictureShape}
use Rattle.jls_partial.specs.Partial.{PartialPicture, without_sources}
use Rattle.jls_partial.specs.Reading.{Reading, reading_of, reading_cmp}
use Rattle.jls_partial.specs.ReadingOrder.{reading_total}
use Rattle.jls_report.specs.declared.entry.ReportEntry.TheVariants.{Missing, Disputed}
use Rattle.jls_report.specs.Report.{PictureReport, report_of}
use Rattle.jls_report.specs.ReportText.{report_text}
use Rattle.jls_report.proofs.PrintedNumbers.{d1, d2, d3, d4, d5, d8, d9}

-- four lines of one sample of 8 bits, of the components 5 and 9
abbrev two_components : PictureShape
two_components = record { precision = 8; width = 1; height = 4; ids = 5 ∷ 9 ∷ [] }

-- of component 5 line 0 was read once, and line 3 as 6 and as 7; of component 9 lines 0 and 1 were read once
abbrev five_read : List Reading
five_read = reading_of 0 0 (0 ∷ []) ∷ reading_of 0 3 (6 ∷ []) ∷ reading_of 0 3 (7 ∷ []) ∷ reading_of 1 0 (0 ∷ []) ∷ reading_of 1 1 (0 ∷ [])
    ∷ []

five_rise : IsStrictlySortedBy reading_cmp five_read
unfolding IsStrictlySortedBy
five_rise = ((refl, (refl, (refl, (refl, tt)))), ((refl, (refl, (refl, tt))), ((refl, (refl, tt)), ((refl, tt), (tt, tt)))))

abbrev both_damaged : PartialPicture
both_damaged = without_sources two_components (set.from_list five_read)

-- a range in the middle, a disputed line, and a range at the end
abbrev of_both : PictureReport
of_both = record {
  shape = two_components;
  settled = 3;
  missing = 4;
  disputed = 1;
  entries = Missing 0 1 2 ∷ Disputed 0 3 2 ∷ Missing 1 2 3 ∷ [];
}

report_of_both : report_of both_damaged ≡ of_both
report_of_both = rw (items-from_list reading_total five_read five_rise) refl

abbrev text_of_both : List ℕ
text_of_both = codes "picture 1x4, 8 bits, components 5,9\nsettled 3, missing 4, disputed 1\nmissing 5 1-2\ndisputed 5 3 2\nmissing 9 2-3\n"

as_printed : report_text of_both ≡ text_of_both
as_printed = rw (d1, d2, d3, d4, d5, d8, d9) refl

-- what is printed of that picture
pub its_text : report_text (report_of both_damaged) ≡ text_of_both
its_text = ap report_text report_of_both ∙ as_printed
