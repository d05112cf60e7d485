-- An interval's bytes: they are a piece of scan data, and read as the interval's lines and as nothing else.
use Rattle.std.proofs.Common.{◌≡◌, ℕ, zero, suc, ◌+◌, ◌-◌, ◌*◌, ◌<◌, ◌≤◌, false, List, [], ◌∷◌, ◌++◌, length, ap, arith, inl}
use Rattle.std.proofs.Common.{inr}
use Rattle.std.specs.Prelude.{◌==◌, true}
use Rattle.std.proofs.lemmas.Bool.{cases_eq}
use Rattle.std.proofs.lemmas.Bool.Decides.{nat_tests}
use Rattle.std.specs.List.{AllByRecursion, flat_map, range_with_len}
use Rattle.std.proofs.lemmas.List.Elements.{recursion_from_All}
use Rattle.jls_values.specs.Params.{CodingParameters}
use Rattle.jls_values.proofs.Lists.{all_append}
use Rattle.jls_bits.specs.Bits.{BelowMarkers}
use Rattle.jls_bits.specs.Pad.{IsPad}
use Rattle.jls_bits.proofs.Markers.{below_markers}
use Rattle.jls_bits.proofs.Padding.{pad_is_pad}
use Rattle.jls_interval.specs.Code.{code}
use Rattle.jls_interval.specs.Lines.{IsLine, AreLines, interval_shape}
use Rattle.jls_interval.specs.Reads.{packed}
use Rattle.jls_interval.proofs.PackedLines.{packed_reads}
use Rattle.jls_piece.proofs.LinePieces.{reads_from}
use Rattle.jls_piece.proofs.PieceReads.{reads_once, read_not_long}
use Rattle.jls_copy.specs.ScanData.{IsPiece, closes_piece}
use Rattle.jls_marker.specs.Scan.{Scan, row_count, first_row}
use Rattle.jls_copy.specs.Numbers.{Interval}
use Rattle.jls_copy.specs.IntervalOf.{interval_of}
use Rattle.jls_copy.specs.Pieces.{PieceOutcome, Lines, Fault, IsOutcomeAt}
use Rattle.jls_copy.specs.declared.piece.PieceKind.TheVariants as kind
use Rattle.jls_write.specs.Picture.{WholePicture, line_of}
use Rattle.jls_write.specs.Options.{WriteOptions}
use Rattle.jls_write.specs.WrittenFile.{row_lines, interval_lines, interval_code, scan_of}
use Rattle.jls_write.proofs.IntervalLines.{rows_length}
use Rattle.jls_file_laws.specs.FileLaw.{IsWritable}

-- ---- packed bytes are a piece

closes_none : (c : ℕ) → c < 128 → closes_piece c ≡ false
closes_none c h = grind (arith, nat_tests, h)

piece_of : (bytes : List ℕ) → BelowMarkers bytes → ((prefix : List ℕ) → bytes ≡ prefix ++ 0xFF ∷ [] → ⊥) → IsPiece bytes
piece_of [] below last = tt
piece_of (b ∷ []) below last = λ e. last [] (ap (λ x. x ∷ []) e)
piece_of (b ∷ c ∷ more) below last = (
  λ e. closes_none c (below [] more c (ap (λ x. x ∷ c ∷ more) e)),
  piece_of (c ∷ more) (λ prefix back x e. below (b ∷ prefix) back x (ap (λ t. b ∷ t) e))
      (λ prefix e. last (b ∷ prefix) (ap (λ t. b ∷ t) e)),
)

pub packed_is_piece : (p : CodingParameters) (w c : ℕ) (lines : List (List ℕ)) → IsPiece (packed p w c lines)
packed_is_piece p w c lines =
    let i : IsPad (code p w c lines) (packed p w c lines) = pad_is_pad (code p w c lines) in
    piece_of (packed p w c lines) (below_markers (packed p w c lines) i.carries.data_bits.whole) i.carries.last

-- ---- the interval's lines have its number and width

module _ (pic : WholePicture) (o : WriteOptions) (can : IsWritable pic o) where
  line_is : (c row : ℕ) → c < length pic.shape.ids → row < pic.shape.height → IsLine o.params pic.shape.width (line_of pic c row)
  line_is c row h k =
      (can.whole.widths c row h k, recursion_from_All (λ sample. sample ≤ o.params.maxval) (line_of pic c row) (can.fit.samples c h row k))

  row_is : (cs : List ℕ) (row : ℕ) → AllByRecursion (λ c. c < length pic.shape.ids) cs → row < pic.shape.height
      → AllByRecursion (IsLine o.params pic.shape.width) (row_lines pic cs row)
  row_is [] row h k = tt
  row_is (c ∷ cs) row h k = (line_is c row h.0 k, row_is cs row h.1 k)

  rows_are : (cs : List ℕ) (row n : ℕ) → AllByRecursion (λ c. c < length pic.shape.ids) cs → n ≤ pic.shape.height - row
      → AllByRecursion (IsLine o.params pic.shape.width) (flat_map (row_lines pic cs) (range_with_len row n))
  rows_are cs row zero h k = tt
  rows_are cs row (suc n) h k =
      all_append (IsLine o.params pic.shape.width) (row_lines pic cs row) (flat_map (row_lines pic cs) (range_with_len (row + 1) n))
      (row_is cs row h (omega (arith, k)))
      (rows_are cs (row + 1) n h (omega (arith, k)))

rows_within : (s : Scan) (k : ℕ) → row_count s k ≤ s.height - first_row s k
rows_within s k =
    elim (cases_eq s.restart_interval 0) [
      | inl none ↦ (let t : (s.restart_interval == 0) ≡ true = grind (arith, nat_tests, none) in rw (t, none) (omega arith))
      | inr some ↦ (let t : (s.restart_interval == 0) ≡ false = grind (arith, nat_tests, some) in rw t (omega arith))
    ]

-- ---- the piece is judged in one way only

module _ (pic : WholePicture) (o : WriteOptions) (can : IsWritable pic o) (components : List ℕ)
    (inside : AllByRecursion (λ c. c < length pic.shape.ids) components) (k : ℕ) where
  abbrev plan : Scan
  plan = scan_of pic o components

  intervals_fit : AreLines o.params pic.shape.width (row_count plan k * length components) (interval_lines pic plan k)
  intervals_fit = record {
    count_is = rows_length pic components (first_row plan k) (row_count plan k);
    each = rows_are pic o can components (first_row plan k) (row_count plan k) inside (rows_within plan k);
  }

  pub reads_lines : IsOutcomeAt plan (Interval k) (interval_code pic plan k) (Lines (interval_lines pic plan k))
  reads_lines =
      let count = row_count plan k * length components in
      reads_from (interval_shape o.params pic.shape.width (length components) count) (interval_code pic plan k) (interval_lines pic plan k)
      (packed_reads o.params pic.shape.width (length components) count (interval_lines pic plan k) intervals_fit)

  pub only_lines : (out : PieceOutcome) → IsOutcomeAt plan (Interval k) (interval_code pic plan k) out
      → out ≡ Lines (interval_lines pic plan k)
  only_lines (Lines lines) h =
      ap Lines
      (reads_once (interval_of plan k) can.params can.whole.shape.width_at_least (interval_code pic plan k) lines
      (interval_lines pic plan k) h reads_lines)
  only_lines (Fault kind.Long) h =
      absurd (read_not_long (interval_of plan k) can.params can.whole.shape.width_at_least (interval_code pic plan k)
      (interval_lines pic plan k) reads_lines h)
  only_lines (Fault kind.Broken) h = absurd (h.not_read (interval_lines pic plan k) reads_lines)
  only_lines (Fault kind.Beyond) h = absurd h
