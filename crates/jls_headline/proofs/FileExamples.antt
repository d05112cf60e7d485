-- Options under which the picture of two lines can be written: every premise of `FilesReadAs` is met.
use Rattle.std.proofs.Common.{◌≡◌, ℕ, zero, suc, ◌<◌, ◌≤◌, false, List, [], ◌∷◌, refl, subst, arith, lit≤, lit<}
use Rattle.std.specs.Prelude.{All}
use Rattle.jls_values.specs.Params.{least_from}
use Rattle.jls_bits.specs.Bits.{bits, value_of_bits, width_after}
use Rattle.jls_bits.specs.Golomb.{golomb}
use Rattle.jls_bits.specs.Pad.{pad_after}
use Rattle.jls_context.specs.Mode.{quantized_gradient, is_negative, context}
use Rattle.jls_context.specs.Errors.{modulo_reduced}
use Rattle.jls_context.specs.Prediction.{corrected_prediction}
use Rattle.jls_context.specs.Regular.{golomb_k, updated}
use Rattle.jls_context.specs.Interruption.{run_updated}
use Rattle.jls_interval.specs.Events.{events_from, events_after}
use Rattle.jls_interval.specs.Cells.{cell_before, run_cell_before}
use Rattle.jls_interval.specs.Runs.{block_columns, full_blocks, blocks, run_index_before}
use Rattle.jls_interval.specs.Code.{event_bits, bits_of_events, code}
use Rattle.jls_copy.specs.CopyReads.{CopyReads}
use Rattle.jls_copy.specs.ReadCopy.{ReadCopy}
use Rattle.jls_write.specs.Picture.{line_of, picture_of}
use Rattle.jls_write.specs.Options.{WriteOptions, OptionsFit}
use Rattle.jls_write.specs.WrittenFile.{written_file}
use Rattle.jls_headline.specs.ReadsAs.{ReadsAsOnly}
use Rattle.jls_headline.proofs.WrittenFiles.{files_read_back}
use Rattle.jls_headline.proofs.TwoLineCopies.{pic, is_picture, bits_8, parameters_8, first, second}
use Rattle.jls_headline.proofs.TwoLineExamples.{both_are_damaged, each_line_survives}
use Rattle.jls_headline.proofs.Collected.{collected_holds}
use Rattle.jls_headline.proofs.CollectedExamples.{both_copies, with_both, collected_both}
use Rattle.jls_headline.proofs.StationPictures.{exactly_gives_the_picture}

-- a scan of one component with the defaults of 8 bits, and a restart marker after each row but the last
abbrev pub options : WriteOptions
options = record { line = false; restart_interval = 1; params = bits_8 }

pub one_sample : (sample : ℕ) → sample ≤ 255 → All (λ x. x ≤ 255) (sample ∷ [])
one_sample sample h zero d l = h
one_sample sample h (suc k) d l = absurd (omega (arith, l))

samples_fit : (component : ℕ) → component < 1 → (line : ℕ) → line < 2 → All (λ x. x ≤ 255) (line_of pic component line)
samples_fit zero l zero k = one_sample 0 (lit≤ tt)
samples_fit zero l (suc zero) k = one_sample 255 (lit≤ tt)
samples_fit zero l (suc (suc line)) k = absurd (omega (arith, k))
samples_fit (suc component) l line k = absurd (omega (arith, l))

pub options_fit : OptionsFit pic options
options_fit = record { precision = refl; samples = samples_fit; interval = lit≤ tt }

-- so the file that is written of the picture reads as it: SOI, SOF55, DRI and SOS; line 0, RST0, line 1; EOI
abbrev pub file : List ℕ
file =
    0xFF ∷ 0xD8 ∷ 0xFF ∷ 0xF7 ∷ 0 ∷ 0x0B ∷ 8 ∷ 0 ∷ 2 ∷ 0 ∷ 1 ∷ 1 ∷ 1 ∷ 0x11 ∷ 0 ∷ 0xFF ∷ 0xDD ∷ 0 ∷ 4 ∷ 0 ∷ 1
    ∷ 0xFF ∷ 0xDA ∷ 0 ∷ 8 ∷ 1 ∷ 1 ∷ 0 ∷ 0 ∷ 0 ∷ 0 ∷ 0x80 ∷ 0xFF ∷ 0xD0 ∷ 0x40 ∷ 0xFF ∷ 0xD9 ∷ []

record Written : Type 0 where
  bytes_are : written_file pic options ≡ file

written : Written
unfolding least_from bits value_of_bits width_after golomb pad_after quantized_gradient is_negative context modulo_reduced
    corrected_prediction golomb_k updated run_updated events_from events_after cell_before run_cell_before block_columns full_blocks blocks
    run_index_before event_bits bits_of_events code
written = record { bytes_are = refl }

pub file_reads : ReadsAsOnly file pic
file_reads =
    subst (λ (bytes : List ℕ). ReadsAsOnly bytes pic) written.bytes_are
    (files_read_back pic is_picture options parameters_8 (lit< tt) options_fit)

-- and that of a new station that took what was read of both copies reads as the picture
pub file_comes_back : (a b : ReadCopy) (ra : CopyReads first a) (rb : CopyReads second b)
    → ReadsAsOnly (written_file (picture_of (with_both a b ra rb)) options) pic
file_comes_back a b ra rb =
    (exactly_gives_the_picture pic is_picture (with_both a b ra rb) (first ∷ second ∷ [])
    (collected_holds (with_both a b ra rb) (both_copies a b ra rb) (collected_both a b ra rb)) (both_are_damaged [])
    (each_line_survives [])).1
    options parameters_8 (lit< tt) options_fit
