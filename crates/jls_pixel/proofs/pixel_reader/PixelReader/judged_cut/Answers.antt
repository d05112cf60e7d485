use Rattle.std.proofs.Common.{◌<◌, List, ℕ, sym, subst, inl, arith, length}
use Rattle.jls_bits.specs.Bits.{bits_read}
use Rattle.jls_pixel.specs.Heads.{IsHead}
use Rattle.jls_pixel.specs.PixelReading.{BeginsNoCode, IsComplete}
use Rattle.jls_pixel.specs.PixelReading.{shape_of}
use Rattle.jls_pixel.proofs.DecodedPieces.{broken_bits, piece_is_long}
use Rattle.jls_pixel.proofs.PixelReading.{state_of, no_code_here}
use Rattle.jls_pixel.proofs.CutRows.{in_range, no_code_head, over_head}
use Rattle.jls_pixel.proofs.pixel_reader.PixelReader.judged_cut.Goals as goal

pub returns-in-NoCode : goal.returns-in-NoCode
returns-in-NoCode c = λ p bytes are whole r.
    let d = c.args.self in let given = bits_read bytes in
    let none : BeginsNoCode p d.width d.components d.count given = state_of p d given r _ c.in-NoCode.is in (
      broken_bits (shape_of p d) bytes (no_code_here p d.width d.components d.count given none),
      inl (whole, subst (IsHead (shape_of p d) given) (sym c.new.ensures) (no_code_head p d.width d.components d.count given none)),
    )

pub returns-then-extra-gt7 : goal.returns-then-extra-gt7
returns-then-extra-gt7 c = λ p bytes are whole r.
    let d = c.args.self in let given = bits_read bytes in let rows : List (List (List ℕ)) = d.rows in
    let t : IsComplete p d.width d.components d.count given rows c.in-Complete.extra = state_of p d given r _ c.in-Complete.is in
    let many : 7 < c.in-Complete.extra = c.if-extra-gt7.true in
    let long : 7 < length t.unread = (let k = t.counted in omega (arith, k, many)) in (
      piece_is_long (shape_of p d) bytes are whole rows t.are_rows t.unread t.begins long,
      inl (
        whole,
        subst (IsHead (shape_of p d) given) (sym c.new-then-extra-gt7.ensures)
            (over_head p d.width d.components d.count given (in_range p d given r) r.shape.width_at_least rows c.in-Complete.extra t),
      ),
    )
