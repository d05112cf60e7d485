-- A picture of two lines, and copies of it as bytes: their courses, their scans, and what their pieces read as.
use Rattle.std.proofs.Common.{ℕ, false, List, [], ◌∷◌, ◌++◌, replicate, refl, lit<, lit≤}
use Rattle.jls_values.specs.Shape.{PictureShape}
use Rattle.jls_values.specs.Params.{CodingParameters, AreCodingParameters, least_from}
use Rattle.jls_bits.specs.Bits.{bits, width_after, bits_read_after, ends_data, is_whole_after}
use Rattle.jls_bits.specs.Golomb.{golomb}
use Rattle.jls_context.specs.Mode.{quantized_gradient, is_negative, context}
use Rattle.jls_context.specs.Errors.{modulo_reduced}
use Rattle.jls_context.specs.Prediction.{corrected_prediction}
use Rattle.jls_context.specs.Regular.{golomb_k, updated}
use Rattle.jls_context.specs.Interruption.{run_updated}
use Rattle.jls_interval.specs.Events.{events_from, events_after}
use Rattle.jls_interval.specs.Cells.{cell_before, run_cell_before}
use Rattle.jls_interval.specs.Runs.{block_columns, full_blocks, blocks, run_index_before}
use Rattle.jls_interval.specs.Code.{event_bits, bits_of_events, code}
use Rattle.jls_interval.specs.Reads.{Reads}
use Rattle.jls_interval.specs.Lines.{interval_shape}
use Rattle.jls_piece.specs.Lines.{piece_shape}
use Rattle.jls_piece.specs.Reads as of_piece
use Rattle.jls_piece.proofs.LinePieces.{reads_from}
use Rattle.jls_marker.specs.ComponentIndex.{index_of}
use Rattle.jls_marker.specs.Headers.{headers_after}
use Rattle.jls_marker.specs.Scan.{Scan}
use Rattle.jls_copy.specs.ScanData.{ClosedPiece}
use Rattle.jls_copy.specs.Course.{by_marker, Course, IsCourse}
use Rattle.jls_write.specs.Picture.{WholePicture}
use Rattle.jls_copy_laws.specs.CopyScans.{ScanPiece, ScanWithData, HasScans}
use Rattle.jls_copy_laws.proofs.CopyScans.{course_has_scans}
use Rattle.jls_copy_laws.proofs.Members.{bytes_of_test}
use Rattle.jls_write.specs.WholePictures.{IsPicture}
pub use Rattle.jls_headline.proofs.ColumnFiles.{bits_8}
use Rattle.jls_headline.proofs.ColumnFiles.{column_shape, column_plan, headers_and, column_course, AreTaken, is_column_course}
use Rattle.jls_headline.proofs.ColumnFiles.{byte_is_piece, column_read}

-- The picture ----------------------------------------------------------------------------------------------------

abbrev pub shape : PictureShape
shape = column_shape 2

-- a column of the samples 0 and 255, and perhaps lines of more components than the shape has
abbrev pub pic_and : List (List (List ℕ)) → WholePicture
pic_and more = record { shape = shape; lines = ((0 ∷ []) ∷ (255 ∷ []) ∷ []) ∷ more }

abbrev pub pic : WholePicture
pic = pic_and []

pub is_picture : IsPicture pic
is_picture = record {
  shape = record {
    precision_at_least = lit≤ tt;
    precision_at_most = lit≤ tt;
    width_at_least = lit≤ tt;
    width_below = lit< tt;
    height_at_least = lit≤ tt;
    height_below = lit< tt;
    ids_at_least = lit≤ tt;
    ids_at_most = lit≤ tt;
    ids_are_bytes = (lit< tt, tt);
    ids_differ = refl;
  };
  components = refl;
  each = ((refl, ((refl, (lit< tt, tt)), ((refl, (lit< tt, tt)), tt))), tt);
}

-- The copies -----------------------------------------------------------------------------------------------------

pub parameters_8 : AreCodingParameters bits_8
parameters_8 = record {
  precision_at_least = lit≤ tt;
  precision_at_most = lit≤ tt;
  maxval_at_least = lit≤ tt;
  maxval_below = lit< tt;
  t1_at_least = lit≤ tt;
  t2_at_least = lit≤ tt;
  t3_at_least = lit≤ tt;
  t3_at_most = lit≤ tt;
  reset_at_least = lit≤ tt;
  reset_at_most = lit≤ tt;
}

-- one scan, with a restart interval for each line
abbrev pub plan : Scan
plan = column_plan 2

-- scan data after the headers, and EOI
abbrev copy_with : List ℕ → List ℕ
copy_with cut = headers_and 2 (cut ++ 0xFF ∷ 0xD9 ∷ [])

-- the first has line 0 alone: the mark and the second interval are lost
abbrev pub first : List ℕ
first = copy_with (0x80 ∷ [])

-- the second has line 1 alone: the first interval's byte is lost
abbrev pub second : List ℕ
second = copy_with (0xFF ∷ 0xD0 ∷ 0x40 ∷ [])

-- the third has another line in place of line 0
abbrev pub third : List ℕ
third = copy_with (0x50 ∷ [])

abbrev pub course_with : List ClosedPiece → List ℕ → ℕ → Course
course_with closed last end = column_course 2 closed last by_marker end

pub two_lines_taken : AreTaken 2
unfolding headers_after index_of
two_lines_taken = record { frame = refl; scan = refl }

abbrev pub lost_first : ClosedPiece
lost_first = record { piece = []; fill = 0; mark = 0 }

-- these copies have these courses
pub first_course : IsCourse first (course_with [] (0x80 ∷ []) 32)
first_course = is_column_course 2 two_lines_taken [] (0x80 ∷ []) by_marker tt (byte_is_piece 0x80 (lit< tt))

pub second_course : IsCourse second (course_with (lost_first ∷ []) (0x40 ∷ []) 34)
second_course =
    is_column_course 2 two_lines_taken (lost_first ∷ []) (0x40 ∷ []) by_marker ((tt, lit< tt), tt) (byte_is_piece 0x40 (lit< tt))

pub third_course : IsCourse third (course_with [] (0x50 ∷ []) 32)
third_course = is_column_course 2 two_lines_taken [] (0x50 ∷ []) by_marker tt (byte_is_piece 0x50 (lit< tt))

-- so they have these scans
abbrev pub piece_of : List ℕ → ScanPiece
piece_of bytes = record { bytes = bytes; ended_by_input = false }

abbrev pub data_of : List ℕ → List ScanPiece → ScanWithData
data_of marks pieces = record { scan = plan; marks = marks; pieces = pieces }

abbrev pub first_data : ScanWithData
first_data = data_of [] (piece_of (0x80 ∷ []) ∷ [])

abbrev pub second_data : ScanWithData
second_data = data_of (0 ∷ []) (piece_of [] ∷ piece_of (0x40 ∷ []) ∷ [])

abbrev pub third_data : ScanWithData
third_data = data_of [] (piece_of (0x50 ∷ []) ∷ [])

pub first_scans : HasScans first shape (first_data ∷ [])
first_scans = course_has_scans first (course_with [] (0x80 ∷ []) 32) shape (bytes_of_test first refl) first_course refl

pub second_scans : HasScans second shape (second_data ∷ [])
second_scans =
    course_has_scans second (course_with (lost_first ∷ []) (0x40 ∷ []) 34) shape (bytes_of_test second refl) second_course refl

pub third_scans : HasScans third shape (third_data ∷ [])
third_scans = course_has_scans third (course_with [] (0x50 ∷ []) 32) shape (bytes_of_test third refl) third_course refl

-- What the pieces read as ----------------------------------------------------------------------------------------

-- samples with MAXVAL 15
abbrev pub small_samples : CodingParameters
small_samples = record { precision = 8; maxval = 15; t1 = 2; t2 = 3; t3 = 4; reset = 64 }

pub record PiecesRead : Type 0 where
  -- 0x80 reads as the sample 0, 0x40 as 255, and 0x50 as 1
  pub zero_read : Reads (interval_shape bits_8 1 1 1) (0x80 ∷ []) ((0 ∷ []) ∷ [])
  pub largest_read : Reads (interval_shape bits_8 1 1 1) (0x40 ∷ []) ((255 ∷ []) ∷ [])
  pub one_read : Reads (interval_shape bits_8 1 1 1) (0x50 ∷ []) ((1 ∷ []) ∷ [])
  -- with 0x80 after it, 0x50 reads as 1 and 9
  pub both_read : Reads (interval_shape bits_8 1 1 2) (0x50 ∷ 0x80 ∷ []) ((1 ∷ []) ∷ (9 ∷ []) ∷ [])
  -- with another MAXVAL, 0x40 reads as 15
  pub fifteen_read : Reads (interval_shape small_samples 1 1 1) (0x40 ∷ []) ((15 ∷ []) ∷ [])

pub pieces_read : PiecesRead
unfolding least_from bits width_after golomb quantized_gradient is_negative context modulo_reduced corrected_prediction golomb_k updated
    run_updated events_from events_after cell_before run_cell_before block_columns full_blocks blocks run_index_before event_bits
    bits_of_events code bits_read_after is_whole_after ends_data
pieces_read = record {
  zero_read = column_read bits_8 (0x80 ∷ []) (0 ∷ []) (replicate 7 false) refl refl refl (record { whole = refl; read = refl });
  largest_read = column_read bits_8 (0x40 ∷ []) (255 ∷ []) (replicate 4 false) refl refl refl (record { whole = refl; read = refl });
  one_read = column_read bits_8 (0x50 ∷ []) (1 ∷ []) (replicate 4 false) refl refl refl (record { whole = refl; read = refl });
  both_read =
      column_read bits_8 (0x50 ∷ 0x80 ∷ []) (1 ∷ 9 ∷ []) (replicate 5 false) refl refl refl (record { whole = refl; read = refl });
  fifteen_read =
      column_read small_samples (0x40 ∷ []) (15 ∷ []) (replicate 5 false) refl refl refl (record { whole = refl; read = refl });
}

-- The same as outcomes of pieces of a course, which may be by line or by sample
pub record OutcomesRead : Type 0 where
  pub zero_read : of_piece.Reads (piece_shape bits_8 1 1 1 false) (0x80 ∷ []) ((0 ∷ []) ∷ [])
  pub largest_read : of_piece.Reads (piece_shape bits_8 1 1 1 false) (0x40 ∷ []) ((255 ∷ []) ∷ [])

pub outcomes_read : OutcomesRead
outcomes_read = record {
  zero_read = reads_from (interval_shape bits_8 1 1 1) (0x80 ∷ []) ((0 ∷ []) ∷ []) pieces_read.zero_read;
  largest_read = reads_from (interval_shape bits_8 1 1 1) (0x40 ∷ []) ((255 ∷ []) ∷ []) pieces_read.largest_read;
}
