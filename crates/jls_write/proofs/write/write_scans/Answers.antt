use Rattle.std.proofs.Common.{◌≡◌, ℕ, ◌+◌, List, length, sym, ap, subst, ◌∙◌, arith}
use Rattle.std.specs.List.{flat_map, range_with_len}
use Rattle.std.proofs.lemmas.Result.{err_from_is_err_and}
use Rattle.jls_write.specs.Picture.{WholePicture}
use Rattle.jls_write.specs.Options.{WriteOptions, components_of_scan}
use Rattle.jls_write.specs.Parts.{scan_from, scan_count}
use Rattle.jls_write.specs.Stops.{StopsIn}
use Rattle.jls_write.specs.WrittenFile.{scan_bytes, scans_bytes}
use Rattle.jls_write.proofs.Handing.{handed_as}
use Rattle.jls_write.proofs.FileLength.{scans_at_most, scan_count_at_most}
use Rattle.jls_write.proofs.FileHanding.{part_out, part_counted, part_stops}
use Rattle.jls_write.proofs.Scans.{scans_are, part_fits}
use Rattle.jls_write.proofs.write.write_scans.Goals as goal

-- the scan from this component on
abbrev scan_at : WholePicture → WriteOptions → ℕ → List ℕ
scan_at pic o first = scan_bytes pic (scan_from pic o first (components_of_scan pic.shape o))

pub write_scan-requires-clause-part : goal.write_scan-requires-clause-part
write_scan-requires-clause-part g c = part_fits _ _ _ _ _ c.requires.fit c.scan_count-first-end.ensures.ranges c.requires.params
    c.scan_count-first-end.ensures.value c.loop-first-test.true c.components_of_scan-components.ensures

-- the bytes so far leave room for one scan more
pub write_scan-requires-clause-early : goal.write_scan-requires-clause-early
write_scan-requires-clause-early g c =
    let so_far = scans_at_most c.args.picture.now c.args.options.now c.loop-first.first c.requires.fit c.scan_count-first-end.ensures.ranges
    c.requires.params in
    let few = scan_count_at_most c.args.picture.now c.args.options.now c.scan_count-first-end.ensures.ranges in
    let counted = c.loop-first.invariant.counted in
    let end = c.scan_count-first-end.ensures.value in
    omega (arith, so_far, counted, few, end, c.loop-first-test.true, c.requires.early)

-- a scan was not handed out whole
pub returns-in_err-done-clause-stops : goal.returns-in_err-done-clause-stops
returns-in_err-done-clause-stops g c =
    let history = g.W.Device.history in
    let contents = g.W.Sink.contents in
    let pic = c.args.picture.now in
    let o = c.args.options.now in
    let k = c.loop-first.first in
    let end = c.scan_count-first-end.ensures.value in
    let p = err_from_is_err_and c.from_residual.result c.from_residual.ensures.1 in
    let stopped = subst (λ n. StopsIn c.in_err-done.field-0.0 c.loop-first.done (history c.loop-first.sink) (history c.write_scan.new.sink)
    (contents c.loop-first.sink) (contents c.write_scan.new.sink) (scan_bytes pic (scan_from pic o k n)))
    c.components_of_scan-components.ensures c.in_err-done.ensures.stops in
    rw (p.1, p.2) (part_stops (scan_at pic o) k _ _ (history c.write_scan.new.sink) _ _ (contents c.write_scan.new.sink)
    c.in_err-done.field-0.0 c.args.before _ (scan_count pic o) (scans_bytes pic o) c.loop-first.invariant.counted
    c.loop-first.invariant.out stopped (omega (arith, end, c.loop-first-test.true)) (scans_are pic o))

-- one scan more went out
pub loop-first-preserved : goal.loop-first-preserved
loop-first-preserved g c =
    let pic = c.args.picture.now in
    let o = c.args.options.now in
    let k = c.loop-first.first in
    let count_is = c.components_of_scan-components.ensures in
    let scans : ℕ → List ℕ = λ n. scan_bytes pic (scan_from pic o k n) in
    record {
      counted = part_counted (scan_at pic o) k _ _ _ c.loop-first.invariant.counted
          (c.in_ok-done.ensures.count ∙ ap (λ n. c.loop-first.done + length (scans n)) count_is);
      out = part_out (scan_at pic o) k c.loop-first.invariant.out (handed_as _ _ (ap scans count_is) c.in_ok-done.ensures.all);
    }

-- all scans are so many
scans_to : (pic : WholePicture) (o : WriteOptions) (first : ℕ) → first ≡ scan_count pic o
    → flat_map (scan_at pic o) (range_with_len 0 first) ≡ scans_bytes pic o
scans_to pic o first at_end = ap (λ n. flat_map (scan_at pic o) (range_with_len 0 n)) at_end ∙ sym (scans_are pic o)

-- as many bytes are counted as the scans have
pub returns-clause-count : goal.returns-clause-count
returns-clause-count g c =
    let end = c.scan_count-first-end.ensures.value in
    c.loop-first.invariant.counted ∙ ap (λ (t : List ℕ). c.args.before + length t)
    (scans_to c.args.picture.now c.args.options.now c.loop-first.first (omega (arith, end, c.loop-first-test.false)))

-- the scans that went out are all scans of the file
pub returns-clause-all : goal.returns-clause-all
returns-clause-all g c =
    let end = c.scan_count-first-end.ensures.value in
    handed_as _ _ (scans_to c.args.picture.now c.args.options.now c.loop-first.first (omega (arith, end, c.loop-first-test.false)))
    c.loop-first.invariant.out
