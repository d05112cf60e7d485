-- Reports of small pictures, worked out by hand.
use Rattle.std.proofs.Common.{◌≡◌, List, [], ◌∷◌, refl}
use Rattle.std.specs.List.Sorted.{IsStrictlySortedBy}
use Rattle.jls_values.specs.OrderedSet as set
use Rattle.jls_values.specs.OrderedSetLaws.{items-from_list}
use Rattle.jls_values.specs.Shape.{PictureShape}
use Rattle.jls_partial.specs.Partial.{PartialPicture, without_sources}
use Rattle.jls_partial.specs.Reading.{Reading, reading_of, reading_cmp}
use Rattle.jls_partial.specs.ReadingOrder.{reading_total}
use Rattle.jls_report.specs.declared.entry.ReportEntry.TheVariants.{Missing, Disputed}
use Rattle.jls_report.specs.Report.{report_entries, report_of}

-- ten lines of one sample of 8 bits
abbrev ten_lines : PictureShape
ten_lines = record { precision = 8; width = 1; height = 10; ids = 1 ∷ [] }

-- ---- lines 0, 8 and 9 were read

abbrev three_read : List Reading
three_read = reading_of 0 0 (0 ∷ []) ∷ reading_of 0 8 (8 ∷ []) ∷ reading_of 0 9 (9 ∷ []) ∷ []

three_rise : IsStrictlySortedBy reading_cmp three_read
unfolding IsStrictlySortedBy
three_rise = ((refl, (refl, tt)), ((refl, tt), (tt, tt)))

abbrev seven_missing : PartialPicture
seven_missing = without_sources ten_lines (set.from_list three_read)

one_range : report_entries seven_missing ≡ Missing 0 1 7 ∷ []
one_range = rw (items-from_list reading_total three_read three_rise) refl

its_report : report_of seven_missing ≡ record { shape = ten_lines; settled = 3; missing = 7; disputed = 0; entries = Missing 0 1 7 ∷ [] }
its_report = rw (items-from_list reading_total three_read three_rise) refl

-- ---- line 1 was read as 5 and as 7, and no other line of four

abbrev four_lines : PictureShape
four_lines = record { precision = 8; width = 1; height = 4; ids = 7 ∷ [] }

abbrev two_read : List Reading
two_read = reading_of 0 1 (5 ∷ []) ∷ reading_of 0 1 (7 ∷ []) ∷ []

two_rise : IsStrictlySortedBy reading_cmp two_read
unfolding IsStrictlySortedBy
two_rise = ((refl, tt), (tt, tt))

abbrev one_disputed : PartialPicture
one_disputed = without_sources four_lines (set.from_list two_read)

range_dispute_range : report_entries one_disputed ≡ Missing 0 0 0 ∷ Disputed 0 1 2 ∷ Missing 0 2 3 ∷ []
range_dispute_range = rw (items-from_list reading_total two_read two_rise) refl

that_report : report_of one_disputed
    ≡ record { shape = four_lines; settled = 0; missing = 3; disputed = 1; entries = Missing 0 0 0 ∷ Disputed 0 1 2 ∷ Missing 0 2 3 ∷ [] }
that_report = rw (items-from_list reading_total two_read two_rise) refl
