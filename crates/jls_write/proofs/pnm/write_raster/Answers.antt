use Rattle.std.proofs.Common.{◌≡◌, ◌≤◌, ◌<◌, ◌+◌, ◌-◌, ◌^◌, ◌∙◌, List, ℕ, Option, length, ap, sym, subst, arith}
use Rattle.std.specs.List.{flat_map, range_with_len}
use Rattle.std.proofs.lemmas.Result.{err_from_is_err_and}
use Rattle.jls_values.specs.Shape.{PictureShape, IsShape}
use Rattle.jls_values.proofs.Lists.{flat_map_more}
use Rattle.jls_io.specs.Event.{History}
use Rattle.jls_write.specs.Picture.{WholePicture}
use Rattle.jls_write.specs.Pnm.{row_bytes, raster}
use Rattle.jls_write.specs.Waiting.{PutAfter}
use Rattle.jls_write.proofs.Handing.{put_on, stopped_after, gone_at_most}
use Rattle.jls_write.proofs.OneMore.{flat_map_one, three_parts, length-flat_map-le}
use Rattle.jls_write.proofs.Sizes.{row_at_most}
use Rattle.jls_write.proofs.pnm.write_raster.Goals as goal

-- few bytes have gone out after rows of a picture
gone_early : (pic : WholePicture) (shape : PictureShape) (old new : History) (held holds : Option (List ℕ)) (w : List ℕ) (m : ℕ)
    (u : List ℕ) (n row end : ℕ) → shape ≡ pic.shape → IsShape shape → end ≡ shape.height → row ≤ end
    → PutAfter old new held holds w m u n (flat_map (row_bytes pic) (range_with_len 0 row)) → m ≡ 0 → length w < 4096 → n < 2 ^ 60
gone_early pic shape old new held holds w m u n row end shape_is ranges end_is below put begun few =
    let fit : IsShape pic.shape = rw shape_is at ranges in
    let low = ranges.height_below in
    let so_far = length-flat_map-le (row_bytes pic) 524280 (λ row. row_at_most pic row fit.ids_at_most fit.width_below) 0 row in
    let gone = gone_at_most old new held holds w m u n (flat_map (row_bytes pic) (range_with_len 0 row)) put in
    omega (arith, so_far, gone, low, end_is, below, begun, few)

pub write_row-requires-clause-early : goal.write_row-requires-clause-early
write_row-requires-clause-early g c =
    gone_early c.args.picture.now _ _ _ _ _ _ _ _ _ c.loop-row.row _ c.shape-2.ensures c.height-row-end.ensures.ranges
    c.height-row-end.ensures.value (omega (arith, c.loop-row-test.true)) c.loop-row.invariant.put c.requires.begun c.requires.few

-- a write failed in a row: a prefix of the rows went out
pub returns-in_err-write_row-clause-prefix : goal.returns-in_err-write_row-clause-prefix
returns-in_err-write_row-clause-prefix g c =
    let history = g.W.Device.history in
    let contents = g.W.Sink.contents in
    let pic = c.args.picture.now in
    let row = c.loop-row.row in
    let height_is = c.height-row-end.ensures.value ∙ ap (λ (s : PictureShape). s.height) c.shape-2.ensures in
    let low : row ≤ row + 1 = omega arith in
    let high : row + 1 ≤ pic.shape.height = omega (arith, height_is, c.loop-row-test.true) in
    let p = err_from_is_err_and c.from_residual.result c.from_residual.ensures.1 in
    rw (p.1, p.2) (stopped_after (history c.args.sink.now) (history c.loop-row.sink) (history c.write_row.new.sink)
    (contents c.args.sink.now) (contents c.loop-row.sink) (contents c.write_row.new.sink)
    c.in_err-write_row.field-0.0 c.args.waiting.now.bytes.items c.args.waiting.now.gone c.loop-row.waiting.bytes.items
    c.loop-row.waiting.gone
    (flat_map (row_bytes pic) (range_with_len 0 row)) (row_bytes pic row)
    (flat_map (row_bytes pic) (range_with_len (row + 1) (pic.shape.height - (row + 1)))) (raster pic)
    (three_parts (row_bytes pic) row (row + 1) pic.shape.height (row_bytes pic row) low high (sym (flat_map_one (row_bytes pic) row)))
    c.loop-row.invariant.put c.in_err-write_row.ensures.prefix)

-- one row more is put
pub loop-row-preserved : goal.loop-row-preserved
loop-row-preserved g c =
    let history = g.W.Device.history in
    let contents = g.W.Sink.contents in
    let pic = c.args.picture.now in
    let row = c.loop-row.row in
    record {
      few = c.in_ok-write_row.ensures.few;
      put = subst (λ (t : List ℕ). PutAfter (history c.args.sink.now) (history c.write_row.new.sink) (contents c.args.sink.now)
          (contents c.write_row.new.sink)
          c.args.waiting.now.bytes.items c.args.waiting.now.gone c.write_row.new.waiting.bytes.items c.write_row.new.waiting.gone t)
          (sym (flat_map_more (row_bytes pic) row))
          (put_on (history c.args.sink.now) (history c.loop-row.sink) (history c.write_row.new.sink) (contents c.args.sink.now)
          (contents c.loop-row.sink) (contents c.write_row.new.sink)
          c.args.waiting.now.bytes.items c.args.waiting.now.gone c.loop-row.waiting.bytes.items c.loop-row.waiting.gone
          c.write_row.new.waiting.bytes.items c.write_row.new.waiting.gone
          (flat_map (row_bytes pic) (range_with_len 0 row)) (row_bytes pic row) c.loop-row.invariant.put c.in_ok-write_row.ensures.all);
    }

pub returns-clause-early : goal.returns-clause-early
returns-clause-early g c =
    gone_early c.args.picture.now _ _ _ _ _ _ _ _ _ c.loop-row.row _ c.shape-2.ensures c.height-row-end.ensures.ranges
    c.height-row-end.ensures.value (omega (arith, c.loop-row.auto.row-end)) c.loop-row.invariant.put c.requires.begun c.requires.few
