-- What a contract sees of a decoder that is given the bytes of a piece, and what its fields say.
use Rattle.std.specs.Prelude.{◌≡◌, ℕ, ◌*◌, ◌<◌, Bool, true, false, List, [], Option, Some, map}
use Rattle.jls_values.specs.Params.{CodingParameters}
use Rattle.jls_piece.specs.Lines.{PieceShape, piece_shape}
use Rattle.jls_piece.specs.declared.planned_piece.PlannedPiece.{PlannedPiece}
use Rattle.jls_piece.specs.declared.piece_decoder.KindOfDecoder.{KindOfDecoder}
use Rattle.jls_piece.specs.declared.piece_decoder.KindOfDecoder.TheVariants as decoder
use Rattle.jls_piece.specs.declared.finished_lines.KindOfLines.{KindOfLines}
use Rattle.jls_piece.specs.declared.finished_lines.KindOfLines.TheVariants as lines

-- what contracts see of a `PieceDecoder`: the parameters, width, components and rows of the piece, whether it is by sample, and the bytes
-- pushed, or none once memory was refused
pub record PieceBytes : Type 0 where
  pub parameters : CodingParameters
  pub width : ℕ
  pub components : ℕ
  pub rows : ℕ
  pub by_sample : Bool
  pub bytes : Option (List ℕ)

-- the shape of that piece: in each row a line of each component
abbrev pub piece_asked : PieceBytes → PieceShape
piece_asked d = piece_shape d.parameters d.width d.components (d.rows * d.components) d.by_sample

-- the decoder of a planned piece that was given nothing
abbrev pub unfed : PlannedPiece → PieceBytes
unfed p = record {
  parameters = p.params;
  width = p.width;
  components = p.components;
  rows = p.rows;
  by_sample = p.by_sample;
  bytes = Some [];
}

-- Inside the crate -----------------------------------------------------------------------------------

-- what is seen of a decoder of either kind
abbrev pub bytes_given : KindOfDecoder → PieceBytes
bytes_given (decoder.ByLine d) = record {
  parameters = d.parameters;
  width = d.width;
  components = d.components;
  rows = d.rows;
  by_sample = false;
  bytes = d.bytes;
}
bytes_given (decoder.BySample components d) = record {
  parameters = d.parameters;
  width = d.width;
  components = d.components;
  rows = d.rows;
  by_sample = true;
  bytes = d.bytes;
}

-- by sample, the number of components is the decoder's, and not 0
abbrev pub HasComponents : KindOfDecoder → Type 0
HasComponents (decoder.ByLine d) = Unit {0}
HasComponents (decoder.BySample components d) = (components ≡ d.components) × (0 < components)

-- the lines of either kind
abbrev pub lines_held : KindOfLines → List (List ℕ)
lines_held (lines.ByLine held) = held
lines_held (lines.BySample held) = map (λ v. v.items) held.items
