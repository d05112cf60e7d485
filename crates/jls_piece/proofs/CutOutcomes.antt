-- What a decoder of either kind says of a piece whose end is cut off, in the words of pieces.
use Rattle.std.proofs.Common.{◌≡◌, ℕ, ◌<◌, List}
use Rattle.std.specs.Prelude.{IfSome}
use Rattle.std.proofs.lemmas.Option.{IfSome_then}
use Rattle.jls_interval.specs.Lines.{IntervalShape}
use Rattle.jls_interval.specs.CutEnds as line_end
use Rattle.jls_interval.specs.IntervalBytes.{IntervalBytes, interval_asked}
use Rattle.jls_interval.specs.declared.cut_end.CutEnd.{CutEnd as LineCutEnd}
use Rattle.jls_interval.specs.declared.cut_end.CutEnd.TheVariants as line
use Rattle.jls_interval.specs.declared.decode_piece.PieceFault.TheVariants as fault
use Rattle.jls_pixel.specs.Pixels.{PixelShape}
use Rattle.jls_pixel.specs.CutEnds.{CutEndIs as PixelCutEndIs}
use Rattle.jls_pixel.specs.PixelBytes.{PixelBytes, pixels_asked}
use Rattle.jls_pixel.specs.declared.cut_end.PixelCutEnd.{PixelCutEnd}
use Rattle.jls_pixel.specs.declared.cut_end.PixelCutEnd.TheVariants as pixel
use Rattle.jls_pixel.specs.declared.decode.PixelFault.{PixelFault}
use Rattle.jls_pixel.specs.declared.decode.PixelFault.TheVariants as pixel_fault
use Rattle.jls_piece.specs.Lines.{line_piece, pixel_piece, lines_of}
use Rattle.jls_piece.specs.CutEnds.{CutEndIs, cut_of_line}
use Rattle.jls_piece.specs.PieceFaults.{line_fault}
use Rattle.jls_piece.specs.PieceBytes.{PieceBytes, piece_asked, bytes_given}
use Rattle.jls_piece.specs.declared.cut_end.PieceCutEnd.{PieceCutEnd}
use Rattle.jls_piece.specs.declared.cut_end.PieceCutEnd.TheVariants.{Whole, Head}
use Rattle.jls_piece.specs.declared.piece_decoder.KindOfDecoder.TheVariants as decoder
use Rattle.jls_piece.proofs.LinePieces as of_line
use Rattle.jls_piece.proofs.PixelPieces as of_pixel

-- what `finish_cut` says of a decoder
abbrev pub CutFinishes : PieceBytes → PieceCutEnd → Type 0
CutFinishes z end = IfSome z.bytes (λ bytes. CutEndIs (piece_asked z) bytes end)

-- how an interval by line ends, where it is cut off, is how the piece does
line_cut : (i : IntervalShape) (bytes : List ℕ) (end : LineCutEnd) → line_end.CutEndIs i bytes end
    → CutEndIs (line_piece i) bytes (cut_of_line end)
line_cut i bytes (line.Whole lines) h = of_line.reads_from i bytes lines h
line_cut i bytes (line.Head lines fault.Long) h = (of_line.long_from i bytes h.0, of_line.piece_head_from i bytes lines h.1)
line_cut i bytes (line.Head lines fault.Broken) h = (of_line.broken_from i bytes h.0, of_line.piece_head_from i bytes lines h.1)
line_cut i bytes (line.Head lines fault.OutOfMemory) h = absurd h

-- what a decoder by line answers at a cut is right for the piece
pub line_cut_finishes : (d : IntervalBytes) (end : LineCutEnd) → IfSome d.bytes (λ b. line_end.CutEndIs (interval_asked d) b end)
    → CutFinishes (bytes_given (decoder.ByLine d)) (cut_of_line end)
line_cut_finishes d end h = IfSome_then d.bytes h (λ b r. line_cut (interval_asked d) b end r)

-- what `cut_lines` says by sample
abbrev pub PixelCutFinishes : PixelBytes → PixelCutEnd → Type 0
PixelCutFinishes d end = IfSome d.bytes (λ b. PixelCutEndIs (pixels_asked d) b end)

module _ (i : PixelShape) (some : 0 < i.components) (rows : List (List (List ℕ))) (lines : List (List ℕ))
    (same : lines ≡ lines_of i.components rows) where
  whole_cut : (bytes : List ℕ) → PixelCutEndIs i bytes (pixel.Whole rows) → CutEndIs (pixel_piece i) bytes (Whole lines)
  whole_cut bytes h = rw same (of_pixel.reads_from i some bytes rows h)

  -- the head of an interval by sample is the head of the piece
  head_cut : (bytes : List ℕ) (f : PixelFault) → PixelCutEndIs i bytes (pixel.Head rows f)
      → CutEndIs (pixel_piece i) bytes (Head lines (line_fault f))
  head_cut bytes pixel_fault.Long h = rw same (of_pixel.long_from i some bytes h.0, of_pixel.piece_head_from i some bytes rows h.1)
  head_cut bytes pixel_fault.Broken h = rw same (of_pixel.broken_from i some bytes h.0, of_pixel.piece_head_from i some bytes rows h.1)
  head_cut bytes pixel_fault.OutOfMemory h = absurd h

module _ (d : PixelBytes) (some : 0 < d.components) (rows : List (List (List ℕ))) (lines : List (List ℕ))
    (same : lines ≡ lines_of d.components rows) where
  pub whole_cut_finishes : PixelCutFinishes d (pixel.Whole rows)
      → IfSome d.bytes (λ b. CutEndIs (pixel_piece (pixels_asked d)) b (Whole lines))
  whole_cut_finishes h = IfSome_then d.bytes h (λ b r. whole_cut (pixels_asked d) some rows lines same b r)

  pub head_cut_finishes : (f : PixelFault) → PixelCutFinishes d (pixel.Head rows f)
      → IfSome d.bytes (λ b. CutEndIs (pixel_piece (pixels_asked d)) b (Head lines (line_fault f)))
  head_cut_finishes f h = IfSome_then d.bytes h (λ b r. head_cut (pixels_asked d) some rows lines same b f r)
