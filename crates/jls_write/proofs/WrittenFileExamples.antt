-- Worked examples: the files of small pictures, computed from the definitions alone.
use Rattle.std.proofs.Common.{◌≡◌, ℕ, Bool, true, false, List, [], ◌∷◌, refl}
use Rattle.jls_values.specs.Params.{CodingParameters, least_from}
use Rattle.jls_bits.specs.Bits.{bits, value_of_bits, width_after}
use Rattle.jls_bits.specs.Golomb.{golomb}
use Rattle.jls_bits.specs.Pad.{pad_after}
use Rattle.jls_context.specs.Mode.{quantized_gradient, is_negative, context}
use Rattle.jls_context.specs.Errors.{modulo_reduced}
use Rattle.jls_context.specs.Prediction.{corrected_prediction}
use Rattle.jls_context.specs.Regular.{golomb_k, updated}
use Rattle.jls_context.specs.Interruption.{run_updated}
use Rattle.jls_interval.specs.Events.{events_from, events_after}
use Rattle.jls_interval.specs.Cells.{cell_before, run_cell_before}
use Rattle.jls_interval.specs.Runs.{block_columns, full_blocks, blocks, run_index_before}
use Rattle.jls_interval.specs.Code.{event_bits, bits_of_events, code}
use Rattle.jls_write.specs.Picture.{WholePicture}
use Rattle.jls_write.specs.Options.{WriteOptions}
use Rattle.jls_write.specs.WrittenFile.{written_file}

abbrev bits_8 : CodingParameters
bits_8 = record { precision = 8; maxval = 255; t1 = 3; t2 = 7; t3 = 21; reset = 64 }

-- a picture one sample wide
abbrev column : ℕ → List ℕ → List (List (List ℕ)) → WholePicture
column height ids lines = record { shape = record { precision = 8; width = 1; height = height; ids = ids }; lines = lines }

abbrev options : Bool → ℕ → WriteOptions
options line rows = record { line = line; restart_interval = rows; params = bits_8 }

-- SOI and the frame header of one component, and SOS of it
abbrev prefix : ℕ → List ℕ → List ℕ
prefix height more = 0xFF ∷ 0xD8 ∷ 0xFF ∷ 0xF7 ∷ 0x00 ∷ 0x0B ∷ 0x08 ∷ 0x00 ∷ height ∷ 0x00 ∷ 0x01 ∷ 0x01 ∷ 0x01 ∷ 0x11 ∷ 0x00 ∷ more

abbrev scan_prefix : ℕ → List ℕ → List ℕ
scan_prefix id more = 0xFF ∷ 0xDA ∷ 0x00 ∷ 0x08 ∷ 0x01 ∷ id ∷ 0x00 ∷ 0x00 ∷ 0x00 ∷ 0x00 ∷ more

-- of two components
abbrev two_prefix : List ℕ → List ℕ
two_prefix more =
    0xFF ∷ 0xD8 ∷ 0xFF ∷ 0xF7 ∷ 0x00 ∷ 0x0E ∷ 0x08 ∷ 0x00 ∷ 0x01 ∷ 0x00 ∷ 0x01 ∷ 0x02 ∷ 0x01 ∷ 0x11 ∷ 0x00 ∷ 0x02 ∷ 0x11 ∷ 0x00 ∷ more

record WrittenFileExamples : Type 0 where
  one_sample : written_file (column 1 (1 ∷ []) (((0 ∷ []) ∷ []) ∷ [])) (options false 0)
      ≡ prefix 1 (scan_prefix 1 (0x80 ∷ 0xFF ∷ 0xD9 ∷ []))
  -- the line option of one component changes nothing
  one_by_line : written_file (column 1 (1 ∷ []) (((0 ∷ []) ∷ []) ∷ [])) (options true 0)
      ≡ prefix 1 (scan_prefix 1 (0x80 ∷ 0xFF ∷ 0xD9 ∷ []))
  -- a MAXVAL of 15: LSE has the values in force
  with_lse : written_file (column 1 (1 ∷ []) (((15 ∷ []) ∷ []) ∷ []))
      (record { line = false; restart_interval = 0; params = record { precision = 8; maxval = 15; t1 = 2; t2 = 3; t3 = 4; reset = 64 } })
      ≡ prefix 1 (0xFF ∷ 0xF8 ∷ 0x00 ∷ 0x0D ∷ 0x01 ∷ 0x00 ∷ 0x0F ∷ 0x00 ∷ 0x02 ∷ 0x00 ∷ 0x03 ∷ 0x00 ∷ 0x04 ∷ 0x00 ∷ 0x40
      ∷ scan_prefix 1 (0x40 ∷ 0xFF ∷ 0xD9 ∷ []))
  -- a MAXVAL of 15, in restart intervals of a row: DRI stands after LSE
  with_both : written_file (column 2 (1 ∷ []) (((15 ∷ []) ∷ (15 ∷ []) ∷ []) ∷ []))
      (record { line = false; restart_interval = 1; params = record { precision = 8; maxval = 15; t1 = 2; t2 = 3; t3 = 4; reset = 64 } })
      ≡ prefix 2 (0xFF ∷ 0xF8 ∷ 0x00 ∷ 0x0D ∷ 0x01 ∷ 0x00 ∷ 0x0F ∷ 0x00 ∷ 0x02 ∷ 0x00 ∷ 0x03 ∷ 0x00 ∷ 0x04 ∷ 0x00 ∷ 0x40 ∷ 0xFF ∷ 0xDD
      ∷ 0x00 ∷ 0x04 ∷ 0x00 ∷ 0x01
      ∷ scan_prefix 1 (0x40 ∷ 0xFF ∷ 0xD0 ∷ 0x40 ∷ 0xFF ∷ 0xD9 ∷ []))
  -- two components in one scan, whose second has another k, and in two
  by_line : written_file (column 1 (1 ∷ 2 ∷ []) (((10 ∷ []) ∷ []) ∷ ((10 ∷ []) ∷ []) ∷ [])) (options true 0)
      ≡ two_prefix (0xFF ∷ 0xDA ∷ 0x00 ∷ 0x0A ∷ 0x02 ∷ 0x01 ∷ 0x00 ∷ 0x02 ∷ 0x00 ∷ 0x00 ∷ 0x01 ∷ 0x00 ∷ 0x07 ∷ 0x16 ∷ 0xFF ∷ 0xD9 ∷ [])
  apart : written_file (column 1 (1 ∷ 2 ∷ []) (((10 ∷ []) ∷ []) ∷ ((10 ∷ []) ∷ []) ∷ [])) (options false 0)
      ≡ two_prefix (scan_prefix 1 (0x07 ∷ scan_prefix 2 (0x07 ∷ 0xFF ∷ 0xD9 ∷ [])))
  -- other identifiers than 1 and 2 stand in the frame and in each scan (T.87 C.2.2 and C.2.3)
  other_ids : written_file (column 1 (7 ∷ 200 ∷ []) (((10 ∷ []) ∷ []) ∷ ((0 ∷ []) ∷ []) ∷ [])) (options false 0)
      ≡ 0xFF ∷ 0xD8 ∷ 0xFF ∷ 0xF7 ∷ 0x00 ∷ 0x0E ∷ 0x08 ∷ 0x00 ∷ 0x01 ∷ 0x00 ∷ 0x01 ∷ 0x02 ∷ 0x07 ∷ 0x11 ∷ 0x00 ∷ 0xC8 ∷ 0x11 ∷ 0x00
      ∷ scan_prefix 7 (0x07 ∷ scan_prefix 200 (0x80 ∷ 0xFF ∷ 0xD9 ∷ []))
  -- other identifiers than 1 and 2 stand in the frame and in one scan of both components
  other_ids_by_line : written_file (column 1 (7 ∷ 200 ∷ []) (((10 ∷ []) ∷ []) ∷ ((10 ∷ []) ∷ []) ∷ [])) (options true 0)
      ≡ 0xFF ∷ 0xD8 ∷ 0xFF ∷ 0xF7 ∷ 0x00 ∷ 0x0E ∷ 0x08 ∷ 0x00 ∷ 0x01 ∷ 0x00 ∷ 0x01 ∷ 0x02 ∷ 0x07 ∷ 0x11 ∷ 0x00 ∷ 0xC8 ∷ 0x11 ∷ 0x00
      ∷ 0xFF ∷ 0xDA ∷ 0x00 ∷ 0x0A ∷ 0x02 ∷ 0x07 ∷ 0x00 ∷ 0xC8 ∷ 0x00 ∷ 0x00 ∷ 0x01 ∷ 0x00 ∷ 0x07 ∷ 0x16 ∷ 0xFF ∷ 0xD9 ∷ []
  -- ten intervals of one row: the markers count from 0 to 7 and anew
  ten_intervals : written_file
      (column 10 (1 ∷ []) (((0 ∷ []) ∷ (1 ∷ []) ∷ (2 ∷ []) ∷ (3 ∷ []) ∷ (4 ∷ []) ∷ (5 ∷ []) ∷ (6 ∷ []) ∷ (7 ∷ []) ∷ (8 ∷ []) ∷ (9 ∷ [])
      ∷ []) ∷ []))
      (options false 1)
      ≡ prefix 10 (0xFF ∷ 0xDD ∷ 0x00 ∷ 0x04 ∷ 0x00 ∷ 0x01 ∷ scan_prefix 1
      (0x80 ∷ 0xFF ∷ 0xD0 ∷ 0x50 ∷ 0xFF ∷ 0xD1 ∷ 0x70 ∷ 0xFF ∷ 0xD2 ∷ 0x28 ∷ 0xFF ∷ 0xD3 ∷ 0x38 ∷ 0xFF ∷ 0xD4 ∷ 0x14
      ∷ 0xFF ∷ 0xD5 ∷ 0x1C ∷ 0xFF ∷ 0xD6 ∷ 0x0A ∷ 0xFF ∷ 0xD7 ∷ 0x0E ∷ 0xFF ∷ 0xD0 ∷ 0x05 ∷ 0xFF ∷ 0xD9 ∷ []))

written_file_examples : WrittenFileExamples
unfolding least_from bits value_of_bits width_after golomb pad_after quantized_gradient is_negative context modulo_reduced
    corrected_prediction golomb_k updated run_updated events_from events_after cell_before run_cell_before block_columns full_blocks blocks
    run_index_before event_bits bits_of_events code
written_file_examples = record {
  one_sample = refl;
  one_by_line = refl;
  with_lse = refl;
  with_both = refl;
  by_line = refl;
  apart = refl;
  other_ids = refl;
  other_ids_by_line = refl;
  ten_intervals = refl;
}
