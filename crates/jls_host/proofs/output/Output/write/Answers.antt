use Rattle.std.proofs.Common.{take}
use Rattle.std.proofs.lemmas.Result.{IfOk-weaker}
use Rattle.jls_host.specs.Recorded.{calls_of, number_of}
use Rattle.jls_host.proofs.Runs.{written}
use Rattle.jls_host.proofs.Steps.{written_stays, written_has}
use Rattle.jls_host.proofs.output.Output.write.Goals as goal

pub returns-clause-written : goal.returns-clause-written
returns-clause-written g c = IfOk-weaker c.write.result _ _ (λ n e had. written_has (number_of c.args.self.now.held) had
    (take n c.args.bytes.now) e) c.write.ensures.noted

pub returns-clause-stays : goal.returns-clause-stays
returns-clause-stays g c = λ name own x.
    let made = written c.write.result (number_of c.args.self.now.held) c.args.bytes.now (calls_of c.args.machine.now)
    (calls_of c.write.new.self) c.write.ensures.noted c.write.ensures.failed in
    written_stays name own (number_of c.args.self.now.held) x made.0 made.1 made.2
