-- What files and copies that other programs wrote have and give, by the relations: their scans, and readings of their lines. The bytes, and
-- where each comes from, stand with the worked values of jls_copy.
use Rattle.std.proofs.Common.{◌≡◌, ℕ, Bool, ◌≤◌, true, false, List, [], ◌∷◌, ◌++◌, length, replicate, refl, sym, ap, subst, ◌∙◌, lit<}
use Rattle.std.proofs.Common.{lit≤, arith, inl, inr}
use Rattle.std.specs.Prelude.{◌==◌, ◌&&◌, nat_lt, nat_le}
use Rattle.std.specs.List.{AllByRecursion, Contains, list_all, zip}
use Rattle.std.proofs.lemmas.Bool.{and_parts, eqb-true, leb-true}
use Rattle.jls_values.specs.Params.{CodingParameters, least_from}
use Rattle.jls_values.specs.Shape.{PictureShape}
use Rattle.jls_bits.specs.Bits.{bits, width_after, bits_read_after, ends_data, is_whole_after, bits_read, is_whole}
use Rattle.jls_bits.specs.Golomb.{golomb}
use Rattle.jls_context.specs.Mode.{quantized_gradient, is_negative, context}
use Rattle.jls_context.specs.Errors.{modulo_reduced}
use Rattle.jls_context.specs.Prediction.{corrected_prediction}
use Rattle.jls_context.specs.Regular.{golomb_k, updated}
use Rattle.jls_context.specs.Interruption.{run_updated}
use Rattle.jls_interval.specs.Events.{events_from, events_after}
use Rattle.jls_interval.specs.Cells.{cell_before, run_cell_before}
use Rattle.jls_interval.specs.Runs.{block_columns, full_blocks, blocks, run_index_before}
use Rattle.jls_interval.specs.Code.{event_bits, bits_of_events, code}
use Rattle.jls_interval.specs.Lines.{IntervalShape, IsLine, interval_shape}
use Rattle.jls_interval.specs.Laws.{IsCutCode}
use Rattle.jls_interval.specs.Heads.{BeginsWithFirst, AreWholeLines, IsHeadOfPiece}
use Rattle.jls_partial.specs.Reading.{Reading, reading_of}
use Rattle.jls_marker.specs.Scan.{intervals, first_row}
use Rattle.jls_piece.specs.Lines.{line_piece}
use Rattle.jls_piece.specs.Reads.{Reads}
use Rattle.jls_piece.proofs.LinePieces.{reads_from}
use Rattle.jls_copy.specs.Numbers.{Interval, numbers_after}
use Rattle.jls_copy.specs.IntervalOf.{interval_of}
use Rattle.jls_copy.specs.Pieces.{FoundPiece, Lines, IsOutcome, placed}
use Rattle.jls_copy_laws.specs.CopyScans.{ScanPiece, ScanWithData, HasScans}
use Rattle.jls_copy_laws.specs.Gives.{line_interval, GivesReading}
use Rattle.jls_copy_laws.proofs.ByLine.{reads_by_line}
use Rattle.jls_copy_laws.proofs.CopyScans.{course_has_scans}
use Rattle.jls_copy_laws.proofs.Members.{bytes_of_test}
use Rattle.jls_copy.proofs.TwoScanExamples as two
use Rattle.jls_copy.proofs.ByLineExamples as three
use Rattle.jls_copy.proofs.TwoByLineExamples as pair
use Rattle.jls_copy.proofs.CutCopyExamples as cut

-- a piece that a marker ends
abbrev whole_piece : List ℕ → ScanPiece
whole_piece bytes = record { bytes = bytes; ended_by_input = false }

-- numbers that pass the test are at most this one
at_most_of_test : (most : ℕ) (line : List ℕ) → list_all (λ x. nat_le x most) line ≡ true → AllByRecursion (λ x. x ≤ most) line
at_most_of_test most [] e = tt
at_most_of_test most (x ∷ line) e =
    let p = and_parts (nat_le x most) (list_all (λ y. nat_le y most) line) e in (leb-true _ _ p.0, at_most_of_test most line p.1)

-- lines that pass the test are those of an interval
lines_of_test : (p : CodingParameters) (width : ℕ) (lines : List (List ℕ))
    → list_all (λ line. (length line == width) && list_all (λ x. nat_le x p.maxval) line) lines ≡ true
    → AllByRecursion (IsLine p width) lines
lines_of_test p width [] e = tt
lines_of_test p width (line ∷ lines) e =
    let both = and_parts ((length line == width) && list_all (λ x. nat_le x p.maxval) line)
    (list_all (λ line. (length line == width) && list_all (λ x. nat_le x p.maxval) line) lines) e in
    let here = and_parts (length line == width) (list_all (λ x. nat_le x p.maxval) line) both.0 in
    ((eqb-true _ _ here.0, at_most_of_test p.maxval line here.1), lines_of_test p width lines both.1)

-- a piece by line reads as these lines if its data bits are their code and at most seven more
reads_of_test : (i : IntervalShape) (piece : List ℕ) (lines : List (List ℕ)) (unread : List Bool)
    → list_all (λ b. nat_lt b 256) piece ≡ true → length lines ≡ i.line_count
    → list_all (λ line. (length line == i.width) && list_all (λ x. nat_le x i.params.maxval) line) lines ≡ true
    → is_whole piece ≡ true → bits_read piece ≡ code i.params i.width i.components lines ++ unread → length unread ≤ 7
    → Reads (line_piece i) piece lines
reads_of_test i piece lines unread bytes count each whole read few = reads_from i piece lines (record {
  unread = unread;
  begins = record {
    are_bytes = bytes_of_test piece bytes;
    are_lines = record { count_is = count; each = lines_of_test i.params i.width lines each };
    data_bits = record { whole = whole; read = read };
  };
  at_most_seven = few;
})

-- a line of a piece that reads is given
gives : {copy : List ℕ} {shape : PictureShape} {scans : List ScanWithData} → HasScans copy shape scans → (d : ScanWithData)
    → Contains scans d → (piece : FoundPiece) (k : ℕ)
    → Contains (zip (Interval 0 ∷ numbers_after (intervals d.scan) 0 d.marks) d.pieces) (Interval k, whole_piece piece.bytes)
    → d.scan.by_sample ≡ false → (lines : List (List ℕ)) → Reads (interval_of d.scan k) piece.bytes lines
    → (r : Reading) → Contains (placed d.scan.components (first_row d.scan k) 0 lines) r → GivesReading copy r
gives has d among piece k numbered line lines reads r here =
    (_, _, has, d, among, (k, whole_piece piece.bytes, numbered, (lines, inl (reads_by_line d.scan k line piece.bytes lines reads), here)))

-- Two scans in 12 bits -------------------------------------------------------------------------------------------

abbrev two_first : ScanWithData
two_first = record { scan = two.first_scan; marks = []; pieces = whole_piece two.piece_0.bytes ∷ [] }

-- the second has the rows that the DRI between the scans says, and RST0
abbrev two_second : ScanWithData
two_second = record {
  scan = two.second_scan;
  marks = 0 ∷ [];
  pieces = whole_piece two.piece_1.bytes ∷ whole_piece two.piece_2.bytes ∷ [];
}

has_two_scans : HasScans two.file two.shape (two_first ∷ two_second ∷ [])
has_two_scans = course_has_scans two.file two.course two.shape (bytes_of_test two.file refl) two.is_course refl

-- Components by line ---------------------------------------------------------------------------------------------

abbrev three_data : ScanWithData
three_data = record { scan = three.plan; marks = []; pieces = whole_piece three.piece.bytes ∷ [] }

has_one_scan : HasScans three.file three.shape (three_data ∷ [])
has_one_scan = course_has_scans three.file three.course three.shape (bytes_of_test three.file refl) three.is_course refl

abbrev pair_data : ScanWithData
pair_data = record { scan = pair.plan; marks = []; pieces = whole_piece pair.piece.bytes ∷ [] }

has_a_paired_scan : HasScans pair.file pair.shape (pair_data ∷ [])
has_a_paired_scan = course_has_scans pair.file pair.course pair.shape (bytes_of_test pair.file refl) pair.is_course refl

-- What they read as ----------------------------------------------------------------------------------------------

abbrev lines_0 : List (List ℕ)
lines_0 = (5 ∷ 7 ∷ []) ∷ (5 ∷ 6 ∷ []) ∷ (1 ∷ 2 ∷ []) ∷ []

abbrev lines_1 : List (List ℕ)
lines_1 = (100 ∷ 100 ∷ []) ∷ (103 ∷ 100 ∷ []) ∷ []

abbrev lines_2 : List (List ℕ)
lines_2 = (0 ∷ 4095 ∷ []) ∷ []

-- what the pieces read as: the lines that CharLS was given
record LinesRead : Type 0 where
  first : IsOutcome two.piece_0 (Lines lines_0)
  rows_0_and_1 : IsOutcome two.piece_1 (Lines lines_1)
  row_2 : IsOutcome two.piece_2 (Lines lines_2)
  by_line : IsOutcome three.piece (Lines three.lines)
  paired : IsOutcome pair.piece (Lines pair.lines)

lines_read : LinesRead
unfolding least_from bits width_after golomb quantized_gradient is_negative context modulo_reduced corrected_prediction golomb_k updated
    run_updated events_from events_after cell_before run_cell_before block_columns full_blocks blocks run_index_before event_bits
    bits_of_events code bits_read_after is_whole_after ends_data
lines_read = record {
  first = reads_of_test (interval_shape two.bits_12 2 1 3) two.piece_0.bytes lines_0 (replicate 5 false) refl refl refl refl refl (lit≤ tt);
  rows_0_and_1 = reads_of_test (interval_shape two.bits_12 2 1 2) two.piece_1.bytes lines_1 [] refl refl refl refl refl (lit≤ tt);
  row_2 = reads_of_test (interval_shape two.bits_12 2 1 1) two.piece_2.bytes lines_2 (replicate 7 false) refl refl refl refl refl (lit≤ tt);
  by_line = reads_of_test (interval_shape three.bits_8 2 3 6) three.piece.bytes three.lines (replicate 6 false) refl refl refl refl refl
      (lit≤ tt);
  paired = reads_of_test (interval_shape pair.bits_8 2 2 4) pair.piece.bytes pair.lines (replicate 2 false) refl refl refl refl refl
      (lit≤ tt);
}

-- and what they give
record LinesGiven : Type 0 where
  -- component 0 has all lines from one piece
  of_the_first : GivesReading two.file (reading_of 0 1 (5 ∷ 6 ∷ []))
  -- component 1 has rows 0 and 1 from one piece
  row_1 : GivesReading two.file (reading_of 1 1 (103 ∷ 100 ∷ []))
  -- and row 2 from the one after RST0, whose interval is shorter
  row_2 : GivesReading two.file (reading_of 1 2 (0 ∷ 4095 ∷ []))
  -- of three components by line the fifth line of the interval is that of component 1 in row 1
  fifth : GivesReading three.file (reading_of 1 1 (3 ∷ 4 ∷ []))
  -- of two the third line of the interval is that of component 0 in row 1, and the fourth that of component 1
  third : GivesReading pair.file (reading_of 0 1 (5 ∷ 7 ∷ []))
  fourth : GivesReading pair.file (reading_of 1 1 (1 ∷ 255 ∷ []))

lines_given : LinesGiven
lines_given = record {
  of_the_first = gives has_two_scans two_first (0, lit< tt, refl) two.piece_0 0 (0, lit< tt, refl) refl lines_0 lines_read.first _
      (1, lit< tt, refl);
  row_1 = gives has_two_scans two_second (1, lit< tt, refl) two.piece_1 0 (0, lit< tt, refl) refl lines_1 lines_read.rows_0_and_1 _
      (1, lit< tt, refl);
  row_2 = gives has_two_scans two_second (1, lit< tt, refl) two.piece_2 1 (1, lit< tt, refl) refl lines_2 lines_read.row_2 _ (0, lit< tt, refl);
  fifth = gives has_one_scan three_data (0, lit< tt, refl) three.piece 0 (0, lit< tt, refl) refl three.lines lines_read.by_line _
      (4, lit< tt, refl);
  third = gives has_a_paired_scan pair_data (0, lit< tt, refl) pair.piece 0 (0, lit< tt, refl) refl pair.lines lines_read.paired _
      (2, lit< tt, refl);
  fourth = gives has_a_paired_scan pair_data (0, lit< tt, refl) pair.piece 0 (0, lit< tt, refl) refl pair.lines lines_read.paired _
      (3, lit< tt, refl);
}

-- A copy that the input's end cuts off ---------------------------------------------------------------------------

-- the 0xFF at the end is in no piece
abbrev cut_data : ScanWithData
cut_data = record { scan = cut.plan; marks = []; pieces = record { bytes = 0x50 ∷ []; ended_by_input = true } ∷ [] }

has_a_cut_scan : HasScans cut.copy cut.shape (cut_data ∷ [])
has_a_cut_scan = course_has_scans cut.copy cut.course cut.shape (bytes_of_test cut.copy refl) cut.is_course refl

-- the byte is the 1, and then what the code of the 9 begins with
abbrev both : List (List ℕ)
both = (1 ∷ []) ∷ (9 ∷ []) ∷ []

record CutOff : Type 0 where
  cut_code : IsCutCode (interval_shape cut.bits_8 1 1 2) (bits_read (0x50 ∷ []))
  lines_are : cut_code.lines ≡ both
  begins : BeginsWithFirst (interval_shape cut.bits_8 1 1 2) (bits_read (0x50 ∷ [])) both ((1 ∷ []) ∷ [])
  not_both : (unread : List Bool) → bits_read (0x50 ∷ []) ≡ code cut.bits_8 1 1 both ++ unread → ⊥
  whole : is_whole (0x50 ∷ []) ≡ true

cut_off : CutOff
unfolding least_from bits width_after golomb quantized_gradient is_negative context modulo_reduced corrected_prediction golomb_k updated
    run_updated events_from events_after cell_before run_cell_before block_columns full_blocks blocks run_index_before event_bits
    bits_of_events code bits_read_after is_whole_after ends_data
cut_off = record {
  cut_code = record {
    lines = both;
    are_lines = record { count_is = refl; each = ((refl, (lit≤ tt, tt)), ((refl, (lit≤ tt, tt)), tt)) };
    missing = true;
    more_missing = false ∷ false ∷ [];
    code_is = refl;
  };
  lines_are = refl;
  begins = record { others = (9 ∷ []) ∷ []; lines_are = refl; unread = replicate 4 false; given_is = refl };
  not_both = λ unread e. (let n = ap length e in omega (arith, n));
  whole = refl;
}

longest : (first : List (List ℕ)) → BeginsWithFirst (interval_shape cut.bits_8 1 1 2) (bits_read (0x50 ∷ [])) both first → length first ≤ 1
longest [] b = lit≤ tt
longest (x ∷ []) b = lit≤ tt
longest (x ∷ y ∷ []) b =
    let both_are : both ≡ x ∷ y ∷ b.others = b.lines_are in
    let none : [] ≡ b.others = cc in
    let same : x ∷ y ∷ [] ≡ both = sym (both_are ∙ ap (λ (zs : List (List ℕ)). x ∷ y ∷ zs) (sym none)) in
    absurd (cut_off.not_both b.unread (b.given_is ∙ ap (λ (lines : List (List ℕ)). code cut.bits_8 1 1 lines ++ b.unread) same))
longest (x ∷ y ∷ z ∷ zs) b = absurd (let n = ap length b.lines_are in omega (arith, n))

-- so the head is the first line
pub is_head : IsHeadOfPiece (line_interval cut.plan 0) (0x50 ∷ []) ((1 ∷ []) ∷ [])
is_head =
    let own : AreWholeLines (interval_shape cut.bits_8 1 1 2) (bits_read (0x50 ∷ [])) both ((1 ∷ []) ∷ []) =
    record { begins = cut_off.begins; longest = longest } in
    inl (
      cut_off.whole,
      inl (
        cut_off.cut_code,
        subst (λ lines. AreWholeLines (interval_shape cut.bits_8 1 1 2) (bits_read (0x50 ∷ [])) lines ((1 ∷ []) ∷ []))
            (sym cut_off.lines_are) own,
      ),
    )

-- the line whose code is whole is given
gives_the_head : GivesReading cut.copy (reading_of 0 0 (1 ∷ []))
gives_the_head = (
  cut.shape,
  cut_data ∷ [],
  has_a_cut_scan,
  cut_data,
  (0, lit< tt, refl),
  (0, record { bytes = 0x50 ∷ []; ended_by_input = true }, (0, lit< tt, refl), ((1 ∷ []) ∷ [], inr (refl, is_head), (0, lit< tt, refl))),
)
