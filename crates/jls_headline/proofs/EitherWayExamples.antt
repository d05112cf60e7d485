-- Each statement that the headline names holds of something here and of something else doesn't: so none is always true or always false.
-- Those with an example of each kind beside their copies (`TwoLineExamples`, `HeadExamples`, `PremiseExamples`) are not repeated.
use Rattle.std.proofs.Common.{◌≡◌, ℕ, zero, suc, ◌≤◌, true, false, List, [], ◌∷◌, length, Option, Some, None, refl, sym, ap, subst, ◌∙◌}
use Rattle.std.proofs.Common.{lit<, lit≤, arith, inl}
use Rattle.std.specs.Prelude.{get_or, All}
use Rattle.std.specs.List.{AllByRecursion, Contains}
use Rattle.jls_values.specs.OrderedSet as set
use Rattle.jls_values.specs.OrderedSetLaws.{contains-empty}
use Rattle.jls_values.specs.Shape.{PictureShape}
use Rattle.jls_partial.specs.Reading.{Reading, reading_of, reading_cmp}
use Rattle.jls_partial.specs.Partial.{PartialPicture, without_sources, nothing_known}
use Rattle.jls_write.specs.Options.{OptionsFit}
use Rattle.jls_file_laws.specs.Covering.{IsLineOf}
use Rattle.jls_marker.specs.Scan.{first_row}
use Rattle.jls_copy.specs.Pieces.{placed}
use Rattle.jls_copy_laws.specs.Gives.{ScanGives, GivesReading}
use Rattle.jls_copy_laws.proofs.CopyScans.{one_list_of_scans}
use Rattle.jls_headline.specs.Damaged.{AreNumbers, numbered_pieces, HasPictureLines, DamagedScan, Damaged, SurvivesInScan, picture_reading}
use Rattle.jls_headline.specs.Damaged.{Survives, EachLineSurvives}
use Rattle.jls_headline.specs.Stations.{ReadingsOf, HasShape, HoldsExactly, IsSameCopy, AreAmong, SameCopies}
use Rattle.jls_headline.specs.Collected.{of_readings, Collected, new_station, CollectedFrom, CollectedUnder}
use Rattle.jls_headline.specs.ReadsAs.{GivesPicture, ReadsAs, ReadsAsOnly, FilesReadAs}
use Rattle.jls_headline.specs.HeadlineLaws.{SayTheSame}
use Rattle.jls_headline.specs.Sources.{sourced_copy}
use Rattle.jls_headline.specs.Sources.{copies_of, GivesUnder, SourcesOf, HoldsExactlyUnder, IsSameUnder, SameCopiesUnder}
use Rattle.jls_copy_laws.proofs.Members.{is_first, none_in, all_at}
use Rattle.jls_headline.proofs.ColumnFiles.{one_scan_gives}
use Rattle.jls_headline.proofs.Held.{made_holds}
use Rattle.jls_headline.proofs.LostIntervals.{damaged_copies_give_no_other, surviving_lines_are_given}
use Rattle.jls_headline.proofs.SameCopies.{same_copy_gives}
use Rattle.jls_headline.proofs.ScanNumbers.{numbered_pieces_give}
use Rattle.jls_headline.proofs.Collected.{collected_holds, collected_holds_under}
use Rattle.jls_headline.proofs.StationPictures.{exactly_gives_the_picture}
use Rattle.jls_headline.proofs.FileExamples.{options, options_fit}
use Rattle.jls_headline.proofs.PremiseExamples.{longer, same_lines, longer_is_another, taller, new_read_none, shapes_differ, known}
use Rattle.jls_headline.proofs.SameCopyExamples.{taken, taken_under}
use Rattle.jls_headline.proofs.TwoLineCopies.{shape, parameters_8, plan, pic, is_picture, first, second, third, piece_of, first_data}
use Rattle.jls_headline.proofs.TwoLineCopies.{second_data, third_data, first_scans, second_scans, pieces_read}
use Rattle.jls_headline.proofs.TwoLineExamples.{both_are_damaged, line_0, line_1, each_line_survives, third_gives_another}
use Rattle.jls_headline.proofs.TwoLineExamples.{another_is_not_of_it, line_1_is_lost}

-- Values ---------------------------------------------------------------------------------------------------------

line_of_interval_1 : placed (0 ∷ []) (first_row plan 1) 0 ((255 ∷ []) ∷ []) ≡ reading_of 0 1 (255 ∷ []) ∷ []
line_of_interval_1 = refl

with_its_number : numbered_pieces third_data [] ≡ (0, piece_of (0x50 ∷ [])) ∷ []
with_its_number = refl

reading_of_line_1 : picture_reading pic 0 1 ≡ reading_of 0 1 (255 ∷ [])
reading_of_line_1 = refl

copies_alone : copies_of taken_under ≡ taken
copies_alone = refl

-- Pieces ---------------------------------------------------------------------------------------------------------

-- a sample 1 in line 0, which the picture doesn't have, and the third copy does
abbrev one : Reading
one = reading_of 0 0 (1 ∷ [])

-- the piece of the third copy has it, and no line of the picture
has_no_line_of_the_picture : HasPictureLines pic plan (0, piece_of (0x50 ∷ [])) → ⊥
has_no_line_of_the_picture has =
    (let e = ap (λ (lines : List (List ℕ)). get_or (get_or lines 0 []) 0 0) (has ((1 ∷ []) ∷ []) (inl pieces_read.one_read)) in
    omega (arith, e))

no_numbers : AreNumbers third_data []
no_numbers = record { rise = tt; marks_are = refl }

-- a number without a mark
one_mark_too_few : AreNumbers third_data (1 ∷ []) → ⊥
one_mark_too_few are = (let e = ap length are.marks_are in omega (arith, e))

third_scan_gives : ScanGives third_data one
third_scan_gives = (0, piece_of (0x50 ∷ []), (0, lit< tt, refl), ((1 ∷ []) ∷ [], inl pieces_read.one_read, (0, lit< tt, refl)))

third_scan_survives : SurvivesInScan third_data one
third_scan_survives =
    ([], no_numbers, 0, piece_of (0x50 ∷ []), (0, lit< tt, refl), ((1 ∷ []) ∷ [], inl pieces_read.one_read, (0, lit< tt, refl)))

first_scan_is_damaged : DamagedScan pic first_data
first_scan_is_damaged =
    let damaged = (both_are_damaged []).0 in
    let same = (one_list_of_scans first shape shape damaged.0 (first_data ∷ []) damaged.1 first_scans).1 in
    (subst (AllByRecursion (DamagedScan pic)) same damaged.2).0

third_scan_is_not_damaged : DamagedScan pic third_data → ⊥
third_scan_is_not_damaged ([], are, each) = has_no_line_of_the_picture each.0
third_scan_is_not_damaged (number ∷ numbers, are, each) = (let e = ap length are.marks_are in omega (arith, e))

-- Copies ---------------------------------------------------------------------------------------------------------

-- the first copy gives no line but the picture's, and the third does
first_gives_no_other : GivesReading first one → ⊥
first_gives_no_other gives =
    another_is_not_of_it (damaged_copies_give_no_other pic first (both_are_damaged []).0 one gives)

third_is_not_damaged : Damaged pic third → ⊥
third_is_not_damaged damaged =
    another_is_not_of_it (damaged_copies_give_no_other pic third damaged one third_gives_another)

one_copy_has_not_each : EachLineSurvives pic (first ∷ []) → ⊥
one_copy_has_not_each each = of_copy (each 0 1 (lit< tt) (lit< tt)).0 (each 0 1 (lit< tt) (lit< tt)).1 (each 0 1 (lit< tt) (lit< tt)).2
  where
    of_copy : (copy : List ℕ) → Contains (first ∷ []) copy → Survives pic copy 0 1 → ⊥
    of_copy copy (zero, l, e) survives = line_1_is_lost (subst (λ (c : List ℕ). Survives pic c 0 1) (sym e) survives)
    of_copy copy (suc k, l, e) survives = absurd (omega (arith, l))

third_gives : ReadingsOf (third ∷ []) one
third_gives = (third, is_first third [], third_gives_another)

none_gives : ReadingsOf [] one → ⊥
none_gives gives = none_in gives.0 gives.1

-- so neither its scan nor any other of the first copy has that line
first_scan_gives_not : ScanGives first_data one → ⊥
first_scan_gives_not gives = first_gives_no_other (one_scan_gives first first_data shape one first_scans gives)

first_scan_survives_not : SurvivesInScan first_data one → ⊥
first_scan_survives_not (numbers, are, k, piece, c, gives) =
    first_scan_gives_not ((numbered_pieces_give first_data numbers are one).1 (k, piece, c, gives))

first_has_shape : HasShape shape first
first_has_shape = (first_data ∷ [], first_scans)

first_is_not_taller : HasShape taller first → ⊥
first_is_not_taller (scans, has) =
    (let same = (one_list_of_scans first shape taller (first_data ∷ []) scans first_scans has).0 in
    let n = ap (λ (s : PictureShape). s.height) same in omega (arith, n))

is_not_first : IsSameCopy third first → ⊥
is_not_first same = first_gives_no_other (same_copy_gives third first one same third_gives_another)

not_among_none : AreAmong IsSameCopy (third ∷ []) [] → ⊥
not_among_none among = (let found = among third (is_first third []) in none_in found.0 found.1)

not_the_same : SameCopies (third ∷ []) [] → ⊥
not_the_same same = not_among_none same.0

-- Stations -------------------------------------------------------------------------------------------------------

collected_of_none : CollectedFrom known []
collected_of_none = new_read_none shape

holds_no_copies : HoldsExactly known []
holds_no_copies = collected_holds known [] collected_of_none

holds_not_third : HoldsExactly known (third ∷ []) → ⊥
holds_not_third holds =
    (let none : false ≡ true = sym (contains-empty reading_cmp one) ∙ (holds.readings one).1 third_gives in cc)

not_collected_from_third : CollectedFrom known (sourced_copy None third ∷ []) → ⊥
not_collected_from_third collected = holds_not_third (collected_holds known (sourced_copy None third ∷ []) collected)

not_collected_of_third : Collected of_readings known (sourced_copy None third ∷ []) [] → ⊥
not_collected_of_third collected = not_collected_from_third ([], collected, λ copy c. absurd (none_in copy c))

says_the_same : SayTheSame known known
says_the_same =
    record { readings = refl; report = refl; picture = refl; pnm_file = refl; jls_file = λ o. refl; of_same_sources = λ e. refl }

says_another : SayTheSame known (nothing_known taller) → ⊥
says_another same = shapes_differ same.picture

reads_as_another : ReadsAs third pic → ⊥
reads_as_another reads = another_is_not_of_it ((reads.readings one).0 third_gives_another)

reads_not_only : ReadsAsOnly third pic → ⊥
reads_not_only only = reads_as_another only.reads

-- A station that holds the lines of the picture ------------------------------------------------------------------

abbrev lines : List Reading
lines = picture_reading pic 0 0 ∷ picture_reading pic 0 1 ∷ []

abbrev held : PartialPicture
held = without_sources shape (set.insert_all {R = reading_cmp} set.empty lines)

abbrev both : List (List ℕ)
both = first ∷ second ∷ []

given : (r : Reading) → Contains lines r → ReadingsOf both r
given r (zero, l, e) =
    (first, (0, lit< tt, refl), subst (λ (x : Reading). GivesReading first x) e (surviving_lines_are_given pic first 0 0 (line_0 [])))
given r (suc zero, l, e) =
    (second, (1, lit< tt, refl), subst (λ (x : Reading). GivesReading second x) e (surviving_lines_are_given pic second 0 1 (line_1 [])))
given r (suc (suc k), l, e) = absurd (omega (arith, l))

listed : (component line : ℕ) (samples : List ℕ) → IsLineOf pic (reading_of component line samples)
    → Contains lines (reading_of component line samples)
listed zero zero samples is = (0, lit< tt, ap (reading_of 0 0) (sym is.2))
listed zero (suc zero) samples is = (1, lit< tt, ap (reading_of 0 1) (sym is.2))
listed zero (suc (suc line)) samples (c, l, e) = absurd (omega (arith, l))
listed (suc component) line samples (c, l, e) = absurd (omega (arith, c))

line_of_picture : (r : Reading) → ReadingsOf both r → IsLineOf pic r
line_of_picture r (copy, found, gives) =
    damaged_copies_give_no_other pic copy (all_at (Damaged pic) both copy (both_are_damaged []) found) r gives

holds_both : HoldsExactly held both
holds_both = record {
  are_copies = (first_has_shape, ((second_data ∷ [], second_scans), tt));
  readings = λ r. (
    λ h. given r ((made_holds lines r).0 h),
    λ g. (made_holds lines r).1 (listed r.component r.line r.samples (line_of_picture r g)),
  );
}

gives_the_picture : GivesPicture held pic
gives_the_picture =
    (exactly_gives_the_picture pic is_picture held both holds_both (both_are_damaged []) (each_line_survives [])).0

files_read_as_it : FilesReadAs held pic
files_read_as_it =
    (exactly_gives_the_picture pic is_picture held both holds_both (both_are_damaged []) (each_line_survives [])).1

-- its files read as another picture too, as one that has more lines than its shape: so not as that one alone
fits_longer : OptionsFit longer options
fits_longer = record {
  precision = refl;
  samples = λ component c line l. subst (All (λ x. x ≤ 255)) (sym (same_lines component line c)) (options_fit.samples component c line l);
  interval = lit≤ tt;
}

files_read_not_as_another : FilesReadAs held longer → ⊥
files_read_not_as_another files =
    longer_is_another
    ((files options parameters_8 (lit< tt) fits_longer).no_other pic is_picture
    (files_read_as_it options parameters_8 (lit< tt) options_fit).reads)

-- Under sources --------------------------------------------------------------------------------------------------

abbrev number_or_none : Option ℕ → ℕ
number_or_none None = 0
number_or_none (Some n) = n

source_1 : SourcesOf (sourced_copy (Some 1) third ∷ []) one 1
source_1 = (sourced_copy (Some 1) third, is_first (sourced_copy (Some 1) third) [], (refl, third_gives_another))

gives_not_under_2 : GivesUnder (sourced_copy (Some 1) third) one 2 → ⊥
gives_not_under_2 gives = (let n : 1 ≡ 2 = ap number_or_none gives.0 in omega (arith, n))

same_under_itself : IsSameUnder (sourced_copy (Some 1) third) (sourced_copy (Some 1) third)
same_under_itself = (refl, inl refl)

not_under_another : IsSameUnder (sourced_copy (Some 1) third) (sourced_copy (Some 2) third) → ⊥
not_under_another same = (let n : 1 ≡ 2 = ap number_or_none same.0 in omega (arith, n))

no_source : SourcesOf [] one 1 → ⊥
no_source sources = none_in sources.0 sources.1

collected_under_none : CollectedUnder known []
collected_under_none = ([], new_station shape known refl, λ copy c. absurd (none_in copy c))

holds_none_under : HoldsExactlyUnder known []
holds_none_under = collected_holds_under known [] collected_under_none

holds_not_third_under : HoldsExactlyUnder known (sourced_copy None third ∷ []) → ⊥
holds_not_third_under holds = holds_not_third holds.readings

not_collected_under_third : CollectedUnder known (sourced_copy None third ∷ []) → ⊥
not_collected_under_third collected = holds_not_third_under (collected_holds_under known (sourced_copy None third ∷ []) collected)

not_among_none_under : AreAmong IsSameUnder (sourced_copy None third ∷ []) [] → ⊥
not_among_none_under among =
    (let found = among (sourced_copy None third) (is_first (sourced_copy None third) []) in none_in found.0 found.1)

not_the_same_under : SameCopiesUnder (sourced_copy None third ∷ []) [] → ⊥
not_the_same_under same = not_among_none_under same.0
