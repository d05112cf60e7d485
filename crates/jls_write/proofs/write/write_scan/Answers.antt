use Rattle.std.proofs.Common.{◌^◌, ℕ, List, refl, arith}
use Rattle.std.proofs.lemmas.Result.{err_from_is_err_and}
use Rattle.jls_marker.specs.Scan.{intervals}
use Rattle.jls_write.proofs.OneMore.{length-flat_map-le}
use Rattle.jls_write.specs.Parts.{scan_from}
use Rattle.jls_write.specs.WrittenFile.{marked_interval, scan_bytes}
use Rattle.jls_write.proofs.FileLength.{marked_at_most}
use Rattle.jls_write.proofs.FileHanding.{part_out, part_counted, part_stops}
use Rattle.jls_write.proofs.write.write_scan.Goals as goal

-- so few bytes have gone out that they can be counted
pub write_interval-requires-clause-early : goal.write_interval-requires-clause-early
write_interval-requires-clause-early g c =
    let part = c.args.part.now in
    let s = scan_from part.picture.now part.options part.first part.count in
    let so_far = length-flat_map-le (marked_interval part.picture.now s) (2 ^ 39)
    (λ k. marked_at_most part.picture.now part.options part.first part.count k c.requires.part.fit c.requires.part.shape
    c.requires.part.params c.requires.part.of_scan) 0 c.loop-interval.interval in
    let counted = c.loop-interval.invariant.counted in
    let few = c.intervals-interval-end.ensures.few in
    omega (arith, so_far, counted, few, c.loop-interval-test.true, c.requires.early)

-- an interval was not handed out whole
pub returns-in_err-count-clause-stops : goal.returns-in_err-count-clause-stops
returns-in_err-count-clause-stops g c =
    let pic = c.args.part.now.picture.now in
    let s = scan_from pic c.args.part.now.options c.args.part.now.first c.args.part.now.count in
    let value = c.intervals-interval-end.ensures.value in
    let p = err_from_is_err_and c.from_residual.result c.from_residual.ensures.1 in
    rw (p.1, p.2) (part_stops (marked_interval pic s) c.loop-interval.interval _ _ (g.W.Device.history c.write_interval.new.sink)
    _ _ (g.W.Sink.contents c.write_interval.new.sink) c.in_err-count.field-0.0 c.args.before _ (intervals s) (scan_bytes pic s)
    c.loop-interval.invariant.counted c.loop-interval.invariant.out c.in_err-count.ensures.stops
    (omega (arith, value, c.loop-interval-test.true)) refl)

-- one interval more went out
pub loop-interval-preserved : goal.loop-interval-preserved
loop-interval-preserved g c =
    let part = c.args.part.now in
    let f : ℕ → List ℕ = marked_interval part.picture.now (scan_from part.picture.now part.options part.first part.count) in
    record {
      counted = part_counted f c.loop-interval.interval _ _ _ c.loop-interval.invariant.counted c.in_ok-count.ensures.count;
      out = part_out f c.loop-interval.interval c.loop-interval.invariant.out c.in_ok-count.ensures.all;
    }
