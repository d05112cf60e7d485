-- What a contract sees of the decoder of a piece.
use Rattle.std.specs.Prelude.{Option, Some, None, Box}
use Rattle.std.specs.declared.alloc.Global.{Global}
use Rattle.jls_piece.specs.PieceBytes.{PieceBytes, unfed}
use Rattle.jls_piece.specs.declared.planned_piece.PlannedPiece.{PlannedPiece}

-- the decoder that was made, or one that was fed nothing
abbrev pub made_or_unfed : Option (Box PieceBytes Global) → PlannedPiece → PieceBytes
made_or_unfed None s = unfed s
made_or_unfed (Some made) s = made.value
