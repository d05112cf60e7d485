use Rattle.std.proofs.Common.{◌≡◌, ◌≤◌, ◌<◌, ◌+◌, ◌-◌, ◌^◌, ◌++◌, ◌∙◌, List, ℕ, [], Option, length, refl, ap, subst, arith}
use Rattle.std.specs.List.{flat_map, range_with_len}
use Rattle.std.proofs.lemmas.Result.{err_from_is_err_and}
use Rattle.jls_values.specs.Shape.{PictureShape}
use Rattle.jls_io.specs.Event.{History}
use Rattle.jls_write.specs.Outcomes.{HandedPrefix, StoppedBy}
use Rattle.jls_write.specs.Picture.{WholePicture}
use Rattle.jls_write.specs.declared.output.OutputFault.{OutputFault}
use Rattle.jls_write.specs.Pnm.{pixel_bytes, row_bytes}
use Rattle.jls_write.specs.Waiting.{PutAfter}
use Rattle.jls_write.proofs.Columns.{put_pixels}
use Rattle.jls_write.proofs.Handing.{put_first, put_on, stopped_after, gone_at_most}
use Rattle.jls_write.proofs.OneMore.{two_parts, three_parts, length-flat_map-le}
use Rattle.jls_write.proofs.Sizes.{pixel_at_most}
use Rattle.jls_write.proofs.pnm.write_row.Goals as goal

-- Columns of a row were put after what waited before a sink
module _ (pic : WholePicture) (row start end : ℕ) (low : start ≤ end) (old mid new : History) (held keeps holds : Option (List ℕ))
    (w : List ℕ) (m : ℕ) (v : List ℕ) (n : ℕ) (items : List ℕ)
    (is : items ≡ v ++ flat_map (pixel_bytes pic row) (range_with_len start (end - start)))
    (put : PutAfter old mid held keeps w m v n (flat_map (pixel_bytes pic row) (range_with_len 0 start))) where
  abbrev pixels : ℕ → ℕ → List ℕ
  pixels from to = flat_map (pixel_bytes pic row) (range_with_len from (to - from))

  -- where handing out a part of a row stops, a prefix of the row went out
  row_stops : (fault : OutputFault) → end ≤ pic.shape.width → StoppedBy fault n (HandedPrefix mid new keeps holds items)
      → StoppedBy fault m (HandedPrefix old new held holds (w ++ row_bytes pic row))
  row_stops fault high stopped =
      stopped_after old mid new held keeps holds fault w m v n (flat_map (pixel_bytes pic row) (range_with_len 0 start)) (pixels start end)
      (pixels end pic.shape.width) (row_bytes pic row)
      (three_parts (pixel_bytes pic row) start end pic.shape.width (pixels start end) low high refl) put
      (subst (λ (t : List ℕ). StoppedBy fault n (HandedPrefix mid new keeps holds t)) is stopped)

  -- a part of a row that was put is put after what waited before
  row_goes_on : (u : List ℕ) (o : ℕ) → PutAfter mid new keeps holds items n u o []
      → PutAfter old new held holds w m u o (flat_map (pixel_bytes pic row) (range_with_len 0 end))
  row_goes_on u o p =
      rw (two_parts (pixel_bytes pic row) start end low) (put_on old mid new held keeps holds w m v n u o
      (flat_map (pixel_bytes pic row) (range_with_len 0 start)) (pixels start end) put
      (put_first mid new keeps holds v items n u o (pixels start end) is p))

-- so few bytes have gone out that they can be counted
pub make_room-requires : goal.make_room-requires
make_room-requires g c =
    let history = g.W.Device.history in
    let contents = g.W.Sink.contents in
    let pic = c.args.picture.now in
    let px : ℕ → List ℕ = pixel_bytes pic c.args.row in
    let start = c.loop-start.start in
    let few = subst (λ (s : PictureShape). length s.ids ≤ 4) c.shape.ensures c.width-width.ensures.ranges.ids_at_most in
    let narrow = subst (λ (s : PictureShape). s.width < 2 ^ 16) c.shape.ensures c.width-width.ensures.ranges.width_below in
    let so_far = length-flat_map-le px 8 (λ column. pixel_at_most pic c.args.row column few) 0 start in
    let within = c.loop-start.invariant.within in
    let gone = gone_at_most (history c.args.sink.now) (history c.loop-start.sink) (contents c.args.sink.now) (contents c.loop-start.sink)
    c.args.waiting.now.bytes.items c.args.waiting.now.gone c.loop-start.waiting.bytes.items c.loop-start.waiting.gone
    (flat_map px (range_with_len 0 start)) c.loop-start.invariant.put in
    omega (arith, so_far, gone, within, narrow, c.requires.early, c.requires.few)

-- a write failed: a prefix of the row went out
pub returns-in_err-make_room-clause-prefix : goal.returns-in_err-make_room-clause-prefix
returns-in_err-make_room-clause-prefix g c =
    let start = c.loop-start.start in
    let width_is = c.width-width.ensures.value ∙ ap (λ (s : PictureShape). s.width) c.shape.ensures in
    let put_is = c.put_columns.ensures.items ∙ ap (λ (t : List ℕ). c.loop-start.waiting.bytes.items ++ t)
    (put_pixels c.args.picture.now c.args.row c.args.wide c.lines_of_row-lines.result.items c.deref.result.now
    (range_with_len start (start + c.min.result - start)) c.requires.is_wide c.deref.ensures.0 c.lines_of_row-lines.ensures.lines) in
    let p = err_from_is_err_and c.from_residual.result c.from_residual.ensures.1 in
    rw (p.1, p.2) (row_stops c.args.picture.now c.args.row start (start + c.min.result) (omega arith) _ _
    (g.W.Device.history c.make_room.new.sink) _ _ (g.W.Sink.contents c.make_room.new.sink) _ _ _ _ _ put_is
    c.loop-start.invariant.put c.in_err-make_room.field-0.0 (omega (arith, width_is, c.min.ensures, c.loop-start-test.true))
    c.in_err-make_room.ensures.prefix)

-- some columns more are put
pub loop-start-preserved : goal.loop-start-preserved
loop-start-preserved g c =
    let start = c.loop-start.start in
    let width_is = c.width-width.ensures.value ∙ ap (λ (s : PictureShape). s.width) c.shape.ensures in
    let put_is = c.put_columns.ensures.items ∙ ap (λ (t : List ℕ). c.loop-start.waiting.bytes.items ++ t)
    (put_pixels c.args.picture.now c.args.row c.args.wide c.lines_of_row-lines.result.items c.deref.result.now
    (range_with_len start (start + c.min.result - start)) c.requires.is_wide c.deref.ensures.0 c.lines_of_row-lines.ensures.lines) in
    record {
      within = omega (arith, width_is, c.min.ensures, c.loop-start-test.true);
      few = c.in_ok-make_room.ensures.few;
      put = row_goes_on c.args.picture.now c.args.row start (start + c.min.result) (omega arith) _ _ _ _ _ _ _ _ _ _ _ put_is
          c.loop-start.invariant.put _ _ c.in_ok-make_room.ensures.all;
    }
