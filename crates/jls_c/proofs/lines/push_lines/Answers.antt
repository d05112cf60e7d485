use Rattle.std.proofs.Common.{[], ◌∷◌}
use Rattle.std.proofs.lemmas.Slice.{pushed}
use Rattle.jls_c.specs.Lines.{line_of}
use Rattle.jls_c.proofs.Rows.{numbers_pushed}
use Rattle.jls_c.proofs.lines.push_lines.Goals as goal

pub loop-line-preserved : goal.loop-line-preserved
loop-line-preserved c =
    numbers_pushed (line_of c.args.partial.now c.args.component)
    c.loop-line.line c.args.lines.now.items c.push.new.self.items c.line_of.result
    (pushed (c.line_of.result ∷ []) c.loop-line.invariant c.in_ok-push.was c.push.ensures.items) c.line_of.ensures
