-- What a decoder of either kind says of its piece, in the words of pieces.
use Rattle.std.proofs.Common.{◌≡◌, ℕ, ◌<◌, List, Option, Some, None, Result, Ok, Err, refl, sym, ap, ◌∙◌}
use Rattle.std.specs.Prelude.{true, IfSome, IfNone, MatchOption, MatchResult}
use Rattle.std.proofs.lemmas.Option.{IfSome_then}
use Rattle.jls_interval.specs.Lines.{IntervalShape}
use Rattle.jls_interval.specs.Reads as line
use Rattle.jls_interval.specs.PieceFaults as line_fault
use Rattle.jls_interval.specs.IntervalBytes.{IntervalBytes, interval_asked}
use Rattle.jls_interval.specs.declared.decode_piece.PieceFault.{PieceFault}
use Rattle.jls_interval.specs.declared.decode_piece.PieceFault.TheVariants as fault
use Rattle.jls_pixel.specs.Pixels.{PixelShape}
use Rattle.jls_pixel.specs.Reads as pixel
use Rattle.jls_pixel.specs.PieceFaults.{FaultIs}
use Rattle.jls_pixel.specs.PixelBytes.{PixelBytes, pixels_asked}
use Rattle.jls_pixel.specs.declared.decode.PixelFault.{PixelFault}
use Rattle.jls_pixel.specs.declared.decode.PixelFault.TheVariants as pixel_fault
use Rattle.jls_piece.specs.Lines.{line_piece, pixel_piece, lines_of, rows_of}
use Rattle.jls_piece.specs.Reads.{Reads, ReadsNoMore}
use Rattle.jls_piece.specs.PieceFaults.{OutcomeIs, line_fault as fault_of_rows}
use Rattle.jls_piece.specs.PieceBytes.{PieceBytes, piece_asked, bytes_given}
use Rattle.jls_piece.specs.declared.piece_decoder.KindOfDecoder.TheVariants as decoder
use Rattle.jls_piece.proofs.LinePieces as of_line
use Rattle.jls_piece.proofs.PixelPieces as of_pixel

-- what `reads_no_more` says of a decoder
abbrev pub SaysNoMore : PieceBytes → Type 0
SaysNoMore z = IfSome z.bytes (λ bytes. ReadsNoMore (piece_asked z) bytes)

pub line_no_more : (d : IntervalBytes) → IfSome d.bytes (λ bytes. line.ReadsNoMore (interval_asked d) bytes)
    → SaysNoMore (bytes_given (decoder.ByLine d))
line_no_more d h = IfSome_then d.bytes h (λ bytes r. of_line.no_more_from (interval_asked d) bytes r)

-- bytes that read as no rows, whatever follows, read as no lines
pub pixel_no_more : (components : ℕ) (d : PixelBytes) → 0 < d.components
    → IfSome d.bytes (λ bytes. pixel.ReadsNoMore (pixels_asked d) bytes) → SaysNoMore (bytes_given (decoder.BySample components d))
pixel_no_more components d some h = IfSome_then d.bytes h (λ bytes r. of_pixel.no_more_from (pixels_asked d) some bytes r)

-- what `finish` says of a decoder: its outcome, and that lines as which the bytes read are found
abbrev pub Finishes : PieceBytes → Result (List (List ℕ)) PieceFault → Type 0
Finishes z result =
    MatchOption z.bytes (result ≡ Err fault.OutOfMemory) (λ bytes. OutcomeIs (piece_asked z) bytes result)
    × IfSome z.bytes (λ bytes. (lines : List (List ℕ)) → Reads (piece_asked z) bytes lines
    → MatchResult result (λ found. found ≡ lines) (λ f. (z.by_sample ≡ true) × (f ≡ fault.OutOfMemory)))

module _ (i : IntervalShape) where
  -- an outcome of an interval by line is one of the piece
  line_outcome : (bytes : List ℕ) (result : Result (List (List ℕ)) PieceFault) → line_fault.OutcomeIs i bytes result
      → OutcomeIs (line_piece i) bytes result
  line_outcome bytes (Ok lines) h = of_line.reads_from i bytes lines h
  line_outcome bytes (Err fault.Long) h = of_line.long_from i bytes h
  line_outcome bytes (Err fault.Broken) h = of_line.broken_from i bytes h
  line_outcome bytes (Err fault.OutOfMemory) h = absurd h

  -- what a decoder by line answers of an interval it answers of the piece
  line_match : (bytes : Option (List ℕ)) (result : Result (List (List ℕ)) PieceFault)
      → MatchOption bytes (result ≡ Err fault.OutOfMemory) (λ b. line_fault.OutcomeIs i b result)
      → MatchOption bytes (result ≡ Err fault.OutOfMemory) (λ b. OutcomeIs (line_piece i) b result)
  line_match None result h = h
  line_match (Some b) result h = line_outcome b result h

  -- what a decoder by line answers of an interval it answers of the piece by line
  line_found : (bytes : Option (List ℕ)) (result : Result (List (List ℕ)) PieceFault) (by_sample : Type 0)
      → IfSome bytes (λ b. (lines : List (List ℕ)) → line.Reads i b lines → MatchResult result (λ found. found ≡ lines) (λ f. ⊥))
      → IfSome bytes (λ b. (lines : List (List ℕ)) → Reads (line_piece i) b lines
      → MatchResult result (λ found. found ≡ lines) (λ f. by_sample × (f ≡ fault.OutOfMemory)))
  line_found None result by_sample h = h
  line_found (Some b) (Ok found) by_sample h = λ lines r. h lines (of_line.reads_to i b lines r)
  line_found (Some b) (Err f) by_sample h = λ lines r. absurd (h lines (of_line.reads_to i b lines r))

-- what `read_lines` says by sample: the outcome, and that lines as which the bytes read are found
abbrev pub Outcome : PixelShape → Option (List ℕ) → Result (List (List ℕ)) PieceFault → Type 0
Outcome i bytes result = MatchOption bytes (result ≡ Err fault.OutOfMemory) (λ b. OutcomeIs (pixel_piece i) b result)

abbrev pub Found : PixelShape → Option (List ℕ) → Result (List (List ℕ)) PieceFault → Type 0
Found i bytes result = IfSome bytes (λ b. (lines : List (List ℕ)) → Reads (pixel_piece i) b lines
    → MatchResult result (λ found. found ≡ lines) (λ f. f ≡ fault.OutOfMemory))

module _ (i : PixelShape) (some : 0 < i.components) where
  -- rows that were read, as lines
  pub rows_outcome : (bytes : Option (List ℕ)) (rows : List (List (List ℕ))) (lines : List (List ℕ)) → lines ≡ lines_of i.components rows
      → IfNone bytes (◌≡◌ {A = Result (List (List (List ℕ))) PixelFault} (Ok rows) (Err pixel_fault.OutOfMemory))
      → IfSome bytes (λ b. pixel.Reads i b rows) → Outcome i bytes (Ok lines)
  rows_outcome None rows lines e refused h = absurd cc
  rows_outcome (Some b) rows lines e refused h = rw e (of_pixel.reads_from i some b rows h)

  -- the rows that a decoder found are the lines of the piece
  pub rows_found : (bytes : Option (List ℕ)) (rows : List (List (List ℕ))) (lines : List (List ℕ)) → lines ≡ lines_of i.components rows
      → IfSome bytes (λ b. (wanted : List (List (List ℕ))) → pixel.Reads i b wanted → rows ≡ wanted) → Found i bytes (Ok lines)
  rows_found None rows lines e h = h
  rows_found (Some b) rows lines e h = λ wanted r.
      e ∙ ap (λ z. lines_of i.components z) (h (rows_of i.width i.components wanted) (of_pixel.reads_to i some b wanted r))
      ∙ sym (of_pixel.reads_lines i some b wanted r)

  -- memory that was refused
  pub refused_outcome : (bytes : Option (List ℕ)) → Outcome i bytes (Err fault.OutOfMemory)
  refused_outcome None = refl
  refused_outcome (Some b) = refl

  pub refused_found : (bytes : Option (List ℕ)) → Found i bytes (Err fault.OutOfMemory)
  refused_found None = tt
  refused_found (Some b) = λ lines r. refl

  -- a fault of rows
  pub fault_outcome : (bytes : Option (List ℕ)) (f : PixelFault)
      → IfNone bytes (◌≡◌ {A = Result (List (List (List ℕ))) PixelFault} (Err f) (Err pixel_fault.OutOfMemory))
      → IfSome bytes (λ b. FaultIs f i b) → Outcome i bytes (Err (fault_of_rows f))
  fault_outcome None pixel_fault.Long refused h = absurd cc
  fault_outcome None pixel_fault.Broken refused h = absurd cc
  fault_outcome None pixel_fault.OutOfMemory refused h = refl
  fault_outcome (Some b) pixel_fault.Long refused h = of_pixel.long_from i some b h
  fault_outcome (Some b) pixel_fault.Broken refused h = of_pixel.broken_from i some b h
  fault_outcome (Some b) pixel_fault.OutOfMemory refused h = refl

  -- a fault that a decoder by sample found is one of the piece
  pub fault_found : (bytes : Option (List ℕ)) (f : PixelFault)
      → IfSome bytes (λ b. (wanted : List (List (List ℕ))) → pixel.Reads i b wanted → f ≡ pixel_fault.OutOfMemory)
      → Found i bytes (Err (fault_of_rows f))
  fault_found None f h = h
  fault_found (Some b) f h = λ lines r.
      ap (λ z. fault_of_rows z) (h (rows_of i.width i.components lines) (of_pixel.reads_to i some b lines r))

-- what a decoder by line answers at its end is right for the piece
pub line_finishes : (d : IntervalBytes) (result : Result (List (List ℕ)) PieceFault)
    → MatchOption d.bytes (result ≡ Err fault.OutOfMemory) (λ b. line_fault.OutcomeIs (interval_asked d) b result)
    → IfSome d.bytes (λ b. (lines : List (List ℕ)) → line.Reads (interval_asked d) b lines
    → MatchResult result (λ found. found ≡ lines) (λ f. ⊥))
    → Finishes (bytes_given (decoder.ByLine d)) result
line_finishes d result outcome found =
    (line_match (interval_asked d) d.bytes result outcome, line_found (interval_asked d) d.bytes result _ found)

-- an answer is right by sample too, where only memory can be refused
found_with : (bytes : Option (List ℕ)) (result : Result (List (List ℕ)) PieceFault) (P : List ℕ → List (List ℕ) → Type 0)
    → IfSome bytes (λ b. (lines : List (List ℕ)) → P b lines → MatchResult result (λ found. found ≡ lines) (λ f. f ≡ fault.OutOfMemory))
    → IfSome bytes (λ b. (lines : List (List ℕ)) → P b lines
    → MatchResult result (λ found. found ≡ lines) (λ f. (true ≡ true) × (f ≡ fault.OutOfMemory)))
found_with None result P h = h
found_with (Some b) (Ok found) P h = h
found_with (Some b) (Err f) P h = λ lines r. (refl, h lines r)

-- what a decoder by sample answers at its end is right for the piece
pub pixel_finishes : (components : ℕ) (d : PixelBytes) (result : Result (List (List ℕ)) PieceFault)
    → MatchOption d.bytes (result ≡ Err fault.OutOfMemory) (λ b. OutcomeIs (pixel_piece (pixels_asked d)) b result)
    → IfSome d.bytes (λ b. (lines : List (List ℕ)) → Reads (pixel_piece (pixels_asked d)) b lines
    → MatchResult result (λ found. found ≡ lines) (λ f. f ≡ fault.OutOfMemory))
    → Finishes (bytes_given (decoder.BySample components d)) result
pixel_finishes components d result outcome found =
    (outcome, found_with d.bytes result (λ b lines. Reads (pixel_piece (pixels_asked d)) b lines) found)
