use Rattle.std.proofs.Common.{◌≡◌, ◌≤◌, length, rules, arith, ap, ◌∙◌}
use Rattle.std.proofs.lemmas.Grind.{common_steps}
use Rattle.jls_partial.specs.Partial.{PartialPicture}
use Rattle.jls_c.specs.Info.{sample_count}
use Rattle.jls_c.specs.Lines.{line_statuses, shown_picture}
use Rattle.jls_c.proofs.Fitting.{is_shown}
use Rattle.jls_c.proofs.read.show.Goals as goal

pub returns-clause-done : goal.returns-clause-done
returns-clause-done c = λ done.
    let same = ap line_statuses c.partial.ensures in
    let found_is : c.copy_from_slice.new.self ≡ line_statuses c.args.read.now.partial =
    c.copy_from_slice.ensures.after ∙ c.deref-2.ensures.value ∙ c.in-Ok.ensures ∙ same in
    let many : c.len-lines.result ≡ length c.copy_from_slice.new.self =
    first_of (cc, omega arith, search rules, grind (arith, common_steps)) in
    let samples_fit : c.info_of.result.samples ≤ length c.args.samples.now =
    first_of (omega arith, search rules, grind (arith, common_steps)) in
    let statuses_fit : c.len-lines.result ≤ length c.args.statuses.now =
    first_of (omega arith, search rules, grind (arith, common_steps)) in
    is_shown c.args.read.now c.info_of.result c.len-lines.result c.args.samples.now c.put_samples.new.out c.args.statuses.now
    c.copy_from_slice.new.self c.info_of.ensures (c.put_samples.ensures.shown ∙ ap shown_picture c.partial-2.ensures)
    (c.put_samples.ensures.long ∙ ap (λ (p : PartialPicture). sample_count p.shape) c.partial-2.ensures)
    found_is many samples_fit statuses_fit
