-- A file of one component, 4 columns and 2 rows, in two restart intervals, of which the first has lost its 6 bytes. Another file of 47 bytes
-- has all other bytes, and hides a whole picture and EOI in those 6: the held rest stands behind EOI, unread. So the law of held lines is
-- false without the premise on skeletons. The code of the line 0, 0, 90, 74 is the first of `WorkedExamples` of jls_interval; the other files
-- were made by hand.
use Rattle.std.proofs.Common.{◌≡◌, ℕ, ◌+◌, ◌<◌, ◌≤◌, true, false, List, [], ◌∷◌, length, Some, refl, ap, subst}
use Rattle.std.proofs.Common.{lit<, lit≤, arith, get_or, inl, inr}
use Rattle.std.specs.Prelude.{replicate}
use Rattle.std.proofs.lemmas.List.{get_or-replicate}
use Rattle.std.specs.List.{AllByRecursion, Contains}
use Rattle.jls_values.specs.Params.{CodingParameters, least_from}
use Rattle.jls_values.specs.Shape.{PictureShape}
use Rattle.jls_values.proofs.Lists.{none_in, first_or_rest, all_at}
use Rattle.jls_bits.specs.Bits.{bits, value_of_bits, width_after, bits_read_after, ends_data, is_whole_after}
use Rattle.jls_bits.specs.Golomb.{golomb}
use Rattle.jls_context.specs.Mode.{quantized_gradient, is_negative, context}
use Rattle.jls_context.specs.Errors.{modulo_reduced}
use Rattle.jls_context.specs.Prediction.{corrected_prediction}
use Rattle.jls_context.specs.Regular.{golomb_k, updated}
use Rattle.jls_context.specs.Interruption.{run_updated}
use Rattle.jls_interval.specs.Lines.{interval_shape}
use Rattle.jls_interval.specs.Events.{events_from, events_after}
use Rattle.jls_interval.specs.Cells.{cell_before, run_cell_before}
use Rattle.jls_interval.specs.Runs.{block_columns, full_blocks, blocks, run_index_before}
use Rattle.jls_interval.specs.Code.{event_bits, bits_of_events, code}
use Rattle.jls_piece.specs.Lines.{PieceShape, line_piece}
use Rattle.jls_piece.specs.Reads.{Reads}
use Rattle.jls_partial.specs.Reading.{Reading, reading_of}
use Rattle.jls_marker.specs.ComponentIndex.{index_of}
use Rattle.jls_marker.specs.MarkerCodes.{has_segment}
use Rattle.jls_marker.specs.HeaderState.{HeaderState, no_headers_under}
use Rattle.jls_marker.specs.declared.profile.Profile.TheVariants.{Wide}
use Rattle.jls_marker.specs.Headers.{headers_after}
use Rattle.jls_marker.specs.Scan.{Scan}
use Rattle.jls_copy.specs.Numbers.{Interval}
use Rattle.jls_copy.specs.IntervalOf.{interval_of}
use Rattle.jls_copy.specs.Course.{by_marker, CopyUnit, segment, scan, Course, IsCourseUnder, with_soi, at_eoi, for_good}
use Rattle.jls_copy.specs.Pieces.{FoundPiece, pieces}
use Rattle.jls_copy.specs.declared.end.End.TheVariants.{Eoi}
use Rattle.jls_copy.proofs.OneCourse.{one_course}
use Rattle.jls_held.specs.MendedFiles.{MendedFile}
use Rattle.jls_held.specs.Edits.{Edit, edited}
use Rattle.jls_copy.specs.InHand.{BeginsWithLines}
use Rattle.jls_held.specs.LineCode.{code_length, bits_before}
use Rattle.jls_held.specs.HeldLines.{PieceOf, IsHeld, in_piece}
use Rattle.jls_held.proofs.LineBytes.{any_rows}
use Rattle.jls_carry_laws.specs.StrictlyHeld.{BeforePiece, IsStrictlyHeld, in_file}
use Rattle.jls_carry_laws.specs.TrueFiles.{PictureLines, IsPictureLine, IsTruePiece, HasTruePieces, IsTrueFile, HasHead, HasSkeleton}
use Rattle.jls_carry_laws.specs.TrueFiles.{AreFilesOfBytes, HaveTrueFilesAsLong}
use Rattle.jls_carry_laws.proofs.EditedFiles.{refilled_edits_keep}
use Rattle.jls_carry_laws.proofs.ExampleTests.{bytes_of_test, piece_of_test, code_of_test}

-- The files ---------------------------------------------------------------------------------------------

abbrev shape : PictureShape
shape = record { precision = 8; width = 4; height = 2; ids = 1 ∷ [] }

abbrev bits_8 : CodingParameters
bits_8 = record { precision = 8; maxval = 255; t1 = 3; t2 = 7; t3 = 21; reset = 64 }

abbrev plan : Scan
plan = record { components = 0 ∷ []; params = bits_8; width = 4; height = 2; restart_interval = 1; by_sample = false }

-- the code of a line, and its bytes
abbrev line : List ℕ
line = 0 ∷ 0 ∷ 90 ∷ 74 ∷ []

abbrev line_bytes : List ℕ
line_bytes = 0xC0 ∷ 0x00 ∷ 0x00 ∷ 0x6C ∷ 0x80 ∷ 0x20 ∷ []

-- what the lost bytes can hide: a line of zeros, RST0, another, EOI
abbrev hidden : List ℕ
hidden = 0xF0 ∷ 0xFF ∷ 0xD0 ∷ 0xF0 ∷ 0xFF ∷ 0xD9 ∷ []

-- the copy, its six bytes from offset 31 on lost
abbrev copy : List ℕ
copy =
    0xFF ∷ 0xD8 ∷ 0xFF ∷ 0xF7 ∷ 0x00 ∷ 0x0B ∷ 0x08 ∷ 0x00 ∷ 0x02 ∷ 0x00 ∷ 0x04 ∷ 0x01 ∷ 0x01 ∷ 0x11 ∷ 0x00
    ∷ 0xFF ∷ 0xDD ∷ 0x00 ∷ 0x04 ∷ 0x00 ∷ 0x01 ∷ 0xFF ∷ 0xDA ∷ 0x00 ∷ 0x08 ∷ 0x01 ∷ 0x01 ∷ 0x00 ∷ 0x00 ∷ 0x00 ∷ 0x00
    ∷ 0x00 ∷ 0x00 ∷ 0x00 ∷ 0x00 ∷ 0x00 ∷ 0x00
    ∷ 0xFF ∷ 0xD0 ∷ 0xC0 ∷ 0x00 ∷ 0x00 ∷ 0x6C ∷ 0x80 ∷ 0x20 ∷ 0xFF ∷ 0xD9 ∷ []

abbrev lost : List ℕ → List Edit
lost fresh = record { offset = 31; count = 6; bytes = fresh } ∷ []

abbrev mended : MendedFile
mended = edited 0 copy (lost line_bytes)

abbrev other : List ℕ
other = (edited 0 copy (lost hidden)).bytes

-- Their courses -----------------------------------------------------------------------------------------

abbrev framed : HeaderState
framed = record (no_headers_under Wide) { frame = Some shape }

abbrev restarting : HeaderState
restarting = record framed { restart_interval = 1 }

abbrev final : HeaderState
final = record restarting { scans = 1 }

abbrev units : List ℕ → List CopyUnit
units piece =
    segment 0 0xF7 (0x08 ∷ 0x00 ∷ 0x02 ∷ 0x00 ∷ 0x04 ∷ 0x01 ∷ 0x01 ∷ 0x11 ∷ 0x00 ∷ [])
    ∷ segment 0 0xDD (0x00 ∷ 0x01 ∷ [])
    ∷ scan 0 0xDA (0x01 ∷ 0x01 ∷ 0x00 ∷ 0x00 ∷ 0x00 ∷ 0x00 ∷ []) plan (record { piece = piece; fill = 0; mark = 0 } ∷ []) piece by_marker
    ∷ []

abbrev mended_course : Course
mended_course = record { begin = 2; units = units line_bytes; headers = final; end = Eoi 45 }

abbrev other_course : Course
other_course = record { begin = 2; units = units (0xF0 ∷ []); headers = final; end = Eoi 35 }

mended_is : IsCourseUnder Wide mended.bytes mended_course
unfolding headers_after index_of has_segment
mended_is =
    with_soi 0 _ (units line_bytes) final (Eoi 45) (
      framed,
      _,
      refl,
      ((refl, lit< tt), refl),
      (
        restarting,
        _,
        refl,
        ((refl, lit< tt), refl),
        (
          final,
          0xFF ∷ 0xD9 ∷ [],
          refl,
          (
            (refl, lit< tt),
            refl,
            ((piece_of_test line_bytes refl, lit< tt), tt),
            piece_of_test line_bytes refl,
            record { fill = 0; code = 0xD9; following = []; bytes_are = refl; ends = refl },
          ),
          (refl, for_good final 45 (0xFF ∷ 0xD9 ∷ []) (Eoi 45) (at_eoi final 45 0 [] refl)),
        ),
      ),
    )

abbrev unread_rest : List ℕ
unread_rest = 0xFF ∷ 0xD0 ∷ 0xC0 ∷ 0x00 ∷ 0x00 ∷ 0x6C ∷ 0x80 ∷ 0x20 ∷ 0xFF ∷ 0xD9 ∷ []

other_is : IsCourseUnder Wide other other_course
unfolding headers_after index_of has_segment
other_is =
    with_soi 0 _ (units (0xF0 ∷ [])) final (Eoi 35) (
      framed,
      _,
      refl,
      ((refl, lit< tt), refl),
      (
        restarting,
        _,
        refl,
        ((refl, lit< tt), refl),
        (
          final,
          0xFF ∷ 0xD9 ∷ unread_rest,
          refl,
          (
            (refl, lit< tt),
            refl,
            (((λ (h : 0xF0 ≡ 0xFF). omega (arith, h)), lit< tt), tt),
            (λ (h : 0xF0 ≡ 0xFF). omega (arith, h)),
            record { fill = 0; code = 0xD9; following = unread_rest; bytes_are = refl; ends = refl },
          ),
          (refl, for_good final 35 (0xFF ∷ 0xD9 ∷ unread_rest) (Eoi 35) (at_eoi final 35 0 unread_rest refl)),
        ),
      ),
    )

-- What is computed of them ------------------------------------------------------------------------------

-- both intervals have one line
abbrev one_line : PieceShape
one_line = line_piece (interval_shape bits_8 4 1 1)

its_intervals : (interval_of plan 0 ≡ one_line) × (interval_of plan 1 ≡ one_line)
its_intervals = (refl, refl)

abbrev second_piece : FoundPiece
second_piece = record { scan = 0; plan = plan; number = Interval 1; offset = 39; bytes = line_bytes }

record Computed : Type 0 where
  -- both have 47 bytes, of which 41 are the copy's
  size : length mended.bytes ≡ 47
  as_long : length other ≡ 47
  last_before : get_or mended.held 30 false ≡ true
  first_lost : get_or mended.held 31 false ≡ false
  last_lost : get_or mended.held 36 false ≡ false
  first_after : get_or mended.held 37 false ≡ true
  -- a line has 45 bits: its code ends in the sixth byte
  no_bits : code_length (interval_of plan 1) [] ≡ 0
  bits_of_line : code_length (interval_of plan 1) (line ∷ []) ≡ 45
  five_bytes : bits_before line_bytes 5 ≡ 40
  six_bytes : bits_before line_bytes 6 ≡ 48

computed : Computed
unfolding least_from bits value_of_bits width_after golomb quantized_gradient is_negative context modulo_reduced corrected_prediction
    golomb_k updated run_updated events_from events_after cell_before run_cell_before block_columns full_blocks blocks run_index_before
    event_bits bits_of_events code bits_read_after is_whole_after ends_data
computed = record {
  size = refl;
  as_long = refl;
  last_before = refl;
  first_lost = refl;
  last_lost = refl;
  first_after = refl;
  no_bits = refl;
  bits_of_line = refl;
  five_bytes = refl;
  six_bytes = refl;
}

-- What is held ------------------------------------------------------------------------------------------

abbrev in_second : PieceOf mended
in_second = record {
  course = mended_course;
  is_course = mended_is;
  piece = second_piece;
  among = (1, lit< tt, refl);
  number = 1;
  number_is = refl;
}

line_reads : Reads one_line line_bytes (line ∷ [])
unfolding least_from bits value_of_bits width_after golomb quantized_gradient is_negative context modulo_reduced corrected_prediction
    golomb_k updated run_updated events_from events_after cell_before run_cell_before block_columns full_blocks blocks run_index_before
    event_bits bits_of_events code bits_read_after is_whole_after ends_data
line_reads = record {
  unread = false ∷ false ∷ false ∷ [];
  begins = record {
    are_bytes = bytes_of_test line_bytes refl;
    are_lines = record { count_is = refl; each = ((refl, (lit≤ tt, (lit≤ tt, (lit≤ tt, (lit≤ tt, tt))))), tt) };
    whole_rows = any_rows one_line refl (line ∷ []);
    data_bits = record { whole = refl; read = refl };
  };
  at_most_seven = lit≤ tt;
}

line_begins : BeginsWithLines one_line line_bytes (line ∷ [])
line_begins = record { at_most = lit≤ tt; unread = line_reads.unread; begins = line_reads.begins }

-- the line of row 1 is held
row_1_is_held : IsHeld (mended ∷ []) (reading_of 0 1 line)
unfolding bits_read_after ends_data bits width_after
row_1_is_held =
    in_piece (record {
      file = mended;
      among = (0, lit< tt, refl);
      piece = in_second;
      before = [];
      lines = line ∷ [];
      together = refl;
      begins = line_begins;
      held = code_of_test mended 39 (interval_of plan 1) line_bytes [] (line ∷ []) 0 45 computed.no_bits computed.bits_of_line refl;
    })
    (λ s among. absurd (none_in s among)) (reading_of 0 1 line) (0, lit< tt, refl)

-- The other file ----------------------------------------------------------------------------------------

abbrev zeros : PictureLines
zeros = λ component row. 0 ∷ 0 ∷ 0 ∷ 0 ∷ []

zeros_read : Reads one_line (0xF0 ∷ []) ((0 ∷ 0 ∷ 0 ∷ 0 ∷ []) ∷ [])
unfolding least_from bits value_of_bits width_after golomb quantized_gradient is_negative context modulo_reduced corrected_prediction
    golomb_k updated run_updated events_from events_after cell_before run_cell_before block_columns full_blocks blocks run_index_before
    event_bits bits_of_events code bits_read_after is_whole_after ends_data
zeros_read = record {
  unread = false ∷ false ∷ false ∷ false ∷ [];
  begins = record {
    are_bytes = bytes_of_test (0xF0 ∷ []) refl;
    are_lines = record { count_is = refl; each = ((refl, (lit≤ tt, (lit≤ tt, (lit≤ tt, (lit≤ tt, tt))))), tt) };
    whole_rows = any_rows one_line refl ((0 ∷ 0 ∷ 0 ∷ 0 ∷ []) ∷ []);
    data_bits = record { whole = refl; read = refl };
  };
  at_most_seven = lit≤ tt;
}

other_pieces : HasTruePieces zeros other_course
other_pieces q among =
    all_at (λ q. (k : ℕ) × IsTruePiece zeros q k) (pieces other_course) q (
      (0, record { number_is = refl; lines = (0 ∷ 0 ∷ 0 ∷ 0 ∷ []) ∷ []; reads = zeros_read; each = (refl, tt) }),
      (
        (1, record { number_is = refl; lines = (0 ∷ 0 ∷ 0 ∷ 0 ∷ []) ∷ []; reads = zeros_read; each = (refl, tt) }),
        tt,
      ),
    ) among

-- it has the held bytes, and each of its pieces reads as zeros
other_is_true : IsTrueFile zeros mended other
other_is_true =
    let kept = refilled_edits_keep copy (lost line_bytes) (lost hidden) (refl, refl, refl, tt) in record {
      are_bytes = bytes_of_test other refl;
      has_held = kept.0;
      course = other_course;
      is_course = other_is;
      each = other_pieces;
    }

-- the law of held lines without its premise on skeletons
abbrev WithoutSkeletons : Type 0
WithoutSkeletons =
    (files : List MendedFile) (picture : PictureLines) → AreFilesOfBytes files → HaveTrueFilesAsLong picture files
    → (r : Reading) → IsHeld files r → IsPictureLine picture r

only : (P : MendedFile → Type 0) → P mended → (f : MendedFile) → Contains (mended ∷ []) f → P f
only P h f among =
    elim (first_or_rest f mended [] among) [
      | inl e ↦ subst P e h
      | inr later ↦ absurd (none_in f later)
    ]

-- it is false
without_skeletons_is_false : WithoutSkeletons → ⊥
without_skeletons_is_false law =
    let claim : line ≡ 0 ∷ 0 ∷ 0 ∷ 0 ∷ [] = law (mended ∷ []) zeros
    (only (λ f. AllByRecursion (λ b. b < 256) f.bytes) (bytes_of_test mended.bytes refl))
    (only (λ f. (bytes : List ℕ) × (IsTrueFile zeros f bytes) × (length f.bytes ≤ length bytes)) (other, other_is_true, lit≤ tt))
    (reading_of 0 1 line) row_1_is_held in
    let third : 90 ≡ 0 = ap (λ xs. get_or xs 2 0) claim in omega (arith, third)

-- A true file with the skeleton ----------------------------------------------------------------------------

-- a file has its own skeleton
pub own_skeleton : (f : MendedFile) (c : Course) → IsCourseUnder Wide f.bytes c → (p : PieceOf f) → HasHead c f p
own_skeleton f c is p = record {
  piece = p.piece;
  among = subst (λ d. Contains (pieces d) p.piece) (one_course f.bytes p.course c p.is_course is) p.among;
  number = p.number;
  number_is = p.number_is;
  head_is = refl;
}

-- the mended file is a true file of itself, so the premises of the law can be met
mended_is_true : IsTrueFile (λ component row. line) mended mended.bytes
mended_is_true = record {
  are_bytes = bytes_of_test mended.bytes refl;
  has_held = λ offset own. refl;
  course = mended_course;
  is_course = mended_is;
  each = λ q among. all_at (λ q. (k : ℕ) × IsTruePiece (λ component row. line) q k) (pieces mended_course) q (
    (0, record { number_is = refl; lines = line ∷ []; reads = line_reads; each = (refl, tt) }),
    ((1, record { number_is = refl; lines = line ∷ []; reads = line_reads; each = (refl, tt) }), tt),
  ) among;
}

has_its_own_skeleton : HasSkeleton mended_is_true.course mended
unfolding mended_is_true
has_its_own_skeleton = own_skeleton mended mended_course mended_is

-- Strictly held ------------------------------------------------------------------------------------------

-- the whole file, of which a copy has each byte
abbrev intact : MendedFile
intact = record { bytes = mended.bytes; held = replicate 47 true }

abbrev first_piece : FoundPiece
first_piece = record { scan = 0; plan = plan; number = Interval 0; offset = 31; bytes = line_bytes }

abbrev in_first : PieceOf intact
in_first = record {
  course = mended_course;
  is_course = mended_is;
  piece = first_piece;
  among = (0, lit< tt, refl);
  number = 0;
  number_is = refl;
}

abbrev before_first : BeforePiece intact in_first
before_first = record {
  earlier = [];
  later = second_piece ∷ [];
  pieces_are = refl;
  outcomes = [];
  are_outcomes = tt;
  none_faulty = refl;
  outside = λ offset before none. get_or-replicate 47 offset true false (omega (arith, before));
}

-- the line of row 0 is strictly held
row_0_is_strictly_held : IsStrictlyHeld (intact ∷ []) (reading_of 0 0 line)
row_0_is_strictly_held =
    in_file intact (0, lit< tt, refl) in_first [] (line ∷ []) refl line_begins
    (λ place b. let l = b.within in get_or-replicate 47 (31 + place) true false (omega (arith, l))) before_first
    (λ s among. absurd (none_in s among)) (λ s among. absurd (none_in s among)) (reading_of 0 0 line) (0, lit< tt, refl)
