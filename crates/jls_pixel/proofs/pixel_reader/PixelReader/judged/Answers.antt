use Rattle.jls_bits.specs.Bits.{bits_read}
use Rattle.jls_pixel.specs.Pixels.{pixel_shape}
use Rattle.jls_pixel.specs.PixelReading.{BeginsNoCode}
use Rattle.jls_pixel.proofs.DecodedPieces.{broken_bits}
use Rattle.jls_pixel.proofs.PixelReading.{state_of, no_code_here}
use Rattle.jls_pixel.proofs.pixel_reader.PixelReader.judged.Goals as goal

pub returns-in-NoCode-clause-fault : goal.returns-in-NoCode-clause-fault
returns-in-NoCode-clause-fault c = λ p bytes are whole r.
    let d = c.args.self in
    let none : BeginsNoCode p d.width d.components d.count (bits_read bytes) = state_of p d (bits_read bytes) r _ c.in-NoCode.is in
    broken_bits (pixel_shape p d.width d.components d.count) bytes
    (no_code_here p d.width d.components d.count (bits_read bytes) none)
