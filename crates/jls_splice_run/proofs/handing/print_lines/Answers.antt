use Rattle.std.proofs.Common.{refl}
use Rattle.jls_io.specs.Writing.{WrotePrefix}
use Rattle.jls_io.proofs.Growing.{grew_as}
use Rattle.jls_splice_run.specs.Handing.{StopsAtReport}
use Rattle.jls_splice_run.proofs.handing.print_lines.Goals as goal

pub returns-in-Err-clause-stopped : goal.returns-in-Err-clause-stopped
returns-in-Err-clause-stopped g c =
    let history = g.W.Device.history in
    grew_as (WrotePrefix c.args.lines.now c.in-Err.count) (StopsAtReport c.args.lines.now _) (history c.args.report.now)
    (history c.write_all.new.sink)
    (λ events h. record { count = c.in-Err.count; wrote = h; name_is = refl; cause_is = refl }) c.in-Err.ensures.stopped
