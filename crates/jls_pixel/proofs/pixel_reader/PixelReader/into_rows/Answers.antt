use Rattle.std.proofs.Common.{ℕ, List, subst}
use Rattle.std.specs.Prelude.{IfOk, IfErr}
use Rattle.jls_bits.specs.Bits.{bits_read}
use Rattle.jls_pixel.specs.Pixels.{PixelShape, pixel_shape}
use Rattle.jls_pixel.specs.Reads.{Reads}
use Rattle.jls_pixel.specs.PieceFaults.{FaultIs}
use Rattle.jls_pixel.specs.declared.decode.PixelFault.{PixelFault}
use Rattle.jls_pixel.proofs.DecodedPieces.{broken_bits}
use Rattle.jls_pixel.proofs.PixelReading.{shape_same}
use Rattle.jls_pixel.proofs.pixel_reader.PixelReader.into_rows.Goals as goal

pub returns-then-found-clause-rows : goal.returns-then-found-clause-rows
returns-then-found-clause-rows c = λ p bytes are whole r.
    let d = c.args.self in let e = c.read_rest.new.self in
    subst (λ (z : PixelShape). IfOk c.judged.result (λ (rows : List (List (List ℕ))). Reads z bytes rows))
    (shape_same p d e c.read_rest.ensures.shape)
    (c.judged.ensures.rows p bytes are whole (c.in-Ok.ensures.rows c.if-found.true p (bits_read bytes) r))

pub returns-then-found-clause-fault : goal.returns-then-found-clause-fault
returns-then-found-clause-fault c = λ p bytes are whole r.
    let d = c.args.self in let e = c.read_rest.new.self in
    subst (λ (z : PixelShape). IfErr c.judged.result (λ (fault : PixelFault). FaultIs fault z bytes))
    (shape_same p d e c.read_rest.ensures.shape)
    (c.judged.ensures.fault p bytes are whole (c.in-Ok.ensures.rows c.if-found.true p (bits_read bytes) r))

pub returns-else-found-clause-fault : goal.returns-else-found-clause-fault
returns-else-found-clause-fault c = λ p bytes are whole r.
    let d = c.args.self in
    broken_bits (pixel_shape p d.width d.components d.count) bytes
    (c.in-Ok.ensures.none c.if-found.false p (bits_read bytes) r)
