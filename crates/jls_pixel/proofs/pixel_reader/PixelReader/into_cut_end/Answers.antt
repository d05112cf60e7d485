use Rattle.std.proofs.Common.{◌<◌, List, ℕ, sym, subst, inl, inr, refl, arith}
use Rattle.jls_bits.specs.Bits.{bits_read}
use Rattle.jls_pixel.specs.Pixels.{PixelShape}
use Rattle.jls_pixel.specs.Heads.{IsHead}
use Rattle.jls_pixel.specs.CutEnds.{CutEndIs}
use Rattle.jls_pixel.specs.PixelReading.{shape_of}
use Rattle.jls_pixel.specs.CutRows.{RestEndIs}
use Rattle.jls_pixel.specs.declared.cut_end.PixelCutEnd.TheVariants.{Head}
use Rattle.jls_pixel.specs.declared.cut_rows.RestEnd.TheVariants.{Complete, Cut, Broken}
use Rattle.jls_pixel.specs.declared.decode.PixelFault.TheVariants.{Broken as IsNoCode}
use Rattle.jls_pixel.proofs.DecodedPieces.{broken_bits}
use Rattle.jls_pixel.proofs.PixelReading.{shape_same}
use Rattle.jls_pixel.proofs.CutRows.{in_range, cut_head, cut_no_rows}
use Rattle.jls_pixel.proofs.pixel_reader.PixelReader.into_cut_end.Goals as goal

pub judged_cut-requires : goal.judged_cut-requires
judged_cut-requires c =
    let e = c.read_to_end.new.self in let h = c.requires in
    let end : RestEndIs h.0 h.1 e Complete =
    subst (RestEndIs h.0 h.1 e) c.in-Complete.is (c.in_ok-read_to_end.ensures.end h.0 h.1 h.2) in end.1

pub returns-in-Complete : goal.returns-in-Complete
returns-in-Complete c = λ p bytes are whole r.
    let d = c.args.self in let e = c.read_to_end.new.self in let given = bits_read bytes in
    let end : RestEndIs p given e Complete =
    subst (RestEndIs p given e) c.in-Complete.is (c.in_ok-read_to_end.ensures.end p given r) in
    subst (λ (z : PixelShape). CutEndIs z bytes c.judged_cut.result) (shape_same p d e c.read_to_end.ensures.shape)
    (c.judged_cut.ensures p bytes are whole end.0)

pub returns-in-Cut : goal.returns-in-Cut
returns-in-Cut c = λ p bytes are whole r.
    let d = c.args.self in let e = c.read_to_end.new.self in let given = bits_read bytes in
    let ok = in_range p d given r in let rows : List (List (List ℕ)) = e.rows in
    let some : 0 < e.width = (let a = r.shape.width_at_least in let b = c.read_to_end.ensures.shape.width in omega arith) in
    let end : RestEndIs p given e Cut = subst (RestEndIs p given e) c.in-Cut.is (c.in_ok-read_to_end.ensures.end p given r) in
    subst (λ (z : PixelShape). CutEndIs z bytes (Head rows IsNoCode)) (shape_same p d e c.read_to_end.ensures.shape)
    (broken_bits (shape_of p e) bytes (cut_no_rows p ok given e some end), inl (whole, cut_head p ok given e some end))

pub returns-in-Broken : goal.returns-in-Broken
returns-in-Broken c = λ p bytes are whole r.
    let d = c.args.self in let e = c.read_to_end.new.self in let given = bits_read bytes in
    let none : List (List (List ℕ)) = c.new.result in
    let end : RestEndIs p given e Broken = subst (RestEndIs p given e) c.in-Broken.is (c.in_ok-read_to_end.ensures.end p given r) in
    subst (λ (z : PixelShape). CutEndIs z bytes (Head none IsNoCode)) (shape_same p d e c.read_to_end.ensures.shape) (
      broken_bits (shape_of p e) bytes end.0,
      inl (whole, subst (IsHead (shape_of p e) given) (sym c.new.ensures) (inr (end.1, refl))),
    )
