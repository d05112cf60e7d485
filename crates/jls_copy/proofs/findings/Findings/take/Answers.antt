use Rattle.std.proofs.Common.{◌≡◌, sym, ap, ◌∙◌}
use Rattle.jls_copy.proofs.Fitting.{lines_fit}
use Rattle.jls_copy.proofs.findings.Findings.take.Goals as goal
use Rattle.jls_copy.proofs.findings.Findings.take.Goals.{in-None, in-Some}

-- the lines fit the picture from the interval's first row on
pub take_lines-requires : goal.take_lines-requires
take_lines-requires c =
    let fit = lines_fit c.args.shape.now c.args.plan.now c.args.interval c.requires.lines.0 _ c.components.ensures.ranges c.requires.scan
    c.requires.interval c.requires.lines.1 c.requires.lines.2 in
    let same : c.match-take.partial.shape ≡ c.args.shape.now = elim c.match-take.branch [
      | in-None w ↦ (let a = w.partial-is in let b = w.empty-partial.ensures in let d = w.to_owned.ensures in cc)
      | in-Some w ↦ ap (λ p. p.shape) w.partial-is ∙ c.requires.held _ (sym c.take.ensures.value ∙ w.in-Some.is)
    ] in
    let kept : c.reserve.new.self.shape ≡ c.args.shape.now = ap (λ p. p.shape) c.reserve.ensures ∙ same in
    rw (c.in_ok-into_vecs.ensures, kept, c.components.ensures.value, c.rows-first_row.ensures.first) fit
