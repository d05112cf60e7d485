use Rattle.std.proofs.Common.{ℕ, List, ap, ◌∙◌, subst}
use Rattle.jls_io.specs.FaultLines.{out_of_memory_line}
use Rattle.jls_io.specs.Writing.{Printed}
use Rattle.jls_cli.specs.SpliceAsking.{Asked, asked_of, options_in}
use Rattle.jls_splice_run.specs.FaultLines.{program}
use Rattle.jls_splice_run.specs.Runs.{GrewAll, Performs, Splices, no_names}
use Rattle.jls_splice_run.specs.Tasks.{texts_of}
use Rattle.jls_splice_run.proofs.Running.{faults_alone, performs}
use Rattle.jls_splice_run.proofs.program.perform.Goals as goal

pub returns-in-Err : goal.returns-in-Err
returns-in-Err g c =
    faults_alone (Performs (asked_of c.args.asked.now) 5) (Printed (out_of_memory_line program)) (λ events line. no_names events line)
    c.print_out_of_memory.ensures

pub returns : goal.returns
returns g c =
    let desk = g.D.Device.history in
    let report = g.W.Device.history in
    let faults = g.E.Device.history in
    let asked = c.args.asked.now in
    let bad = texts_of asked.bad.now in
    let witnesses = texts_of asked.witnesses.now in
    let same = ap (λ (names : List (List ℕ)). record {
      options = options_in asked.options;
      out = asked.out.now;
      copies = names;
      bad = bad;
      witnesses = witnesses;
    })
    (ap texts_of c.deref.ensures.value ∙ c.in-Ok.ensures) in
    performs (asked_of asked) c.exit_status.result c.splice-outcome.result c.exit_status.ensures
    (subst (λ (a : Asked). GrewAll (Splices a c.splice-outcome.result) (desk c.args.desk.now) (desk c.splice-outcome.new.desk)
    (report c.args.report.now) (report c.splice-outcome.new.report)
    (faults c.args.faults.now) (faults c.splice-outcome.new.faults)) same c.splice-outcome.ensures)
    c.print_outcome.ensures
