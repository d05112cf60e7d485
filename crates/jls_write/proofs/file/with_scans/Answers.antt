use Rattle.std.proofs.Common.{◌≡◌, ℕ, ◌++◌, List, ap, sym, subst, ◌∙◌, arith}
use Rattle.std.specs.List.{flat_map, range_with_len}
use Rattle.jls_write.specs.Options.{components_of_scan}
use Rattle.jls_write.specs.Parts.{scan_from, scan_count}
use Rattle.jls_write.specs.WrittenFile.{scan_of, scan_bytes}
use Rattle.jls_write.proofs.Joining.{joined_more}
use Rattle.jls_write.proofs.Scans.{made_of_scans, part_fits}
use Rattle.jls_write.proofs.file.with_scans.Goals as goal

pub with_scan-requires : goal.with_scan-requires
with_scan-requires c = part_fits _ _ _ _ _ c.requires.fit c.scan_count-first-end.ensures.ranges c.requires.params
    c.scan_count-first-end.ensures.value c.loop-first-test.true c.components_of_scan-count.ensures

-- one scan more is in the file
pub loop-first-preserved : goal.loop-first-preserved
loop-first-preserved c =
    let pic = c.args.picture.now in
    let o = c.args.options.now in
    let before = c.loop-first.file.front.items ++ c.loop-first.file.back.items in
    let after = c.in_ok-file.file.front.items ++ c.in_ok-file.file.back.items in
    let more = subst (λ n. after ≡ before ++ scan_bytes pic (scan_from pic o c.loop-first.first n)) c.components_of_scan-count.ensures
    c.in_ok-file.ensures in
    joined_more (λ first. scan_bytes pic (scan_from pic o first (components_of_scan pic.shape o))) c.loop-first.first
    (c.args.begun.front.items ++ c.args.begun.back.items) before after c.loop-first.invariant more

-- all scans are in the file
pub returns : goal.returns
returns c =
    let pic = c.args.picture.now in
    let o = c.args.options.now in
    let begun = c.args.begun.front.items ++ c.args.begun.back.items in
    let f : ℕ → List ℕ = λ first. scan_bytes pic (scan_from pic o first (components_of_scan pic.shape o)) in
    let end = c.scan_count-first-end.ensures.value in
    let at : c.loop-first.first ≡ scan_count pic o = omega (arith, end) in
    c.loop-first.invariant ∙ (ap (λ n. begun ++ flat_map f (range_with_len 0 n)) at
    ∙ ap (λ t. begun ++ t) (sym (made_of_scans (λ components. scan_bytes pic (scan_of pic o components)) pic o)))
