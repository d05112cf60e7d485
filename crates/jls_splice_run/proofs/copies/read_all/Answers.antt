use Rattle.jls_io.proofs.Growing.{grew_as}
use Rattle.jls_station.specs.CopyFiles.{StopsAmongCopies}
use Rattle.jls_splice_run.specs.Copies.{StopsAtCopies}
use Rattle.jls_splice_run.specs.Tasks.{texts_of}
use Rattle.jls_splice_run.proofs.copies.read_all.Goals as goal

pub returns-in-Err-clause-stopped : goal.returns-in-Err-clause-stopped
returns-in-Err-clause-stopped g c =
    let history = g.D.Device.history in
    let names = texts_of c.args.names.now in
    grew_as (StopsAmongCopies names c.in-Err.refusal) (StopsAtCopies names c.refusal_of.result) (history c.args.desk.now)
    (history c.read_copies.new.desk)
    (λ events h. record {
      refusal = c.in-Err.refusal;
      stops = h;
      name_is = c.refusal_of.ensures.name;
      cause_is =
          c.refusal_of.ensures.cause;
    })
    c.in-Err.ensures.stopped
