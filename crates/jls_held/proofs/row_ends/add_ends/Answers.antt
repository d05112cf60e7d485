use Rattle.std.proofs.Common.{◌≡◌, ◌+◌, length, take, Some, sym, ap, ◌∙◌, subst, arith}
use Rattle.std.proofs.lemmas.List.{length_push}
use Rattle.jls_pixel.specs.PixelBytes.{PixelBytes, pixels_asked}
use Rattle.jls_piece.specs.Lines.{pixel_piece}
use Rattle.jls_held.specs.RowEnds.{HasAtMost, EndsInByte}
use Rattle.jls_held.proofs.WholeRows.{one_more, ends_push, at_most_of, more_of, end_of}
use Rattle.jls_held.proofs.row_ends.add_ends.Goals as goal

-- the first ends are known up to the place
pub find_end-requires-clause-before : goal.find_end-requires-clause-before
find_end-requires-clause-before c =
    let l = c.loop-decoder in let d = c.args.decoder.now in
    let n : c.len-in-loop-decoder.result ≡ length l.ends.items = omega (arith, c.len-in-loop-decoder.ensures) in
    at_most_of d l.decoder c.args.bytes.now l.at c.len-in-loop-decoder.result l.invariant.given
    (subst (HasAtMost (pixel_piece (pixels_asked d)) (take l.at c.args.bytes.now)) (sym n) l.invariant.before)

-- and there is one more before the second place
pub find_end-requires-clause-behind : goal.find_end-requires-clause-behind
find_end-requires-clause-behind c =
    let l = c.loop-decoder in let d = c.args.decoder.now in let t = c.loop-decoder-test.true in
    more_of d l.decoder c.args.bytes.now c.args.to l.at c.len-in-loop-decoder.result l.invariant.given
    (c.args.count, c.requires.behind, omega (arith, t, c.len.ensures, c.len-in-loop-decoder.ensures))

-- one end more
pub loop-decoder-preserved : goal.loop-decoder-preserved
loop-decoder-preserved c =
    let l = c.loop-decoder in let d = c.args.decoder.now in let bytes = c.args.bytes.now in
    let place = c.in_ok-place.place in
    let n : c.len-in-loop-decoder.result ≡ length l.ends.items = omega (arith, c.len-in-loop-decoder.ensures) in
    let own = end_of d l.decoder bytes l.at (length l.ends.items) place l.invariant.given
    (subst (λ m. EndsInByte (pixel_piece (pixels_asked l.decoder)) bytes m place) n c.in_ok-place.ensures.end) in
    let more : length c.push.new.self.items ≡ length l.ends.items + 1 =
    ap length c.in_ok-push.ensures.items ∙ length_push l.ends.items place in
    record {
      order = (let b = c.in_ok-place.ensures.below in omega (arith, b));
      given = c.in_ok-place.ensures.given ∙ ap (λ (z : PixelBytes). record z { bytes = Some (take place bytes) }) l.invariant.given;
      before = subst (HasAtMost (pixel_piece (pixels_asked d)) (take place bytes)) (sym more)
          (one_more (pixel_piece (pixels_asked d)) (take place bytes) (length l.ends.items) own.before);
      known = ends_push (pixel_piece (pixels_asked d)) bytes l.ends.items c.push.new.self.items place l.invariant.known own
          c.in_ok-push.ensures.items;
    }
