use Rattle.std.proofs.Common.{◌∙◌, sym, ap}
use Rattle.clap.specs.Words.{kind_of}
use Rattle.jls_cli.specs.Answers.{is_help, is_want_of_memory}
use Rattle.jls_cli.proofs.RefusedWords.{answer_memory, answer_usage, answer_help, answer_cut}
use Rattle.jls_cli.proofs.answering.answer.Goals as goal

pub returns-then-is_memory : goal.returns-then-is_memory
returns-then-is_memory g c =
    let report = g.W.Device.history c.args.report.now in
    let history = g.E.Device.history in
    answer_memory c.args.program.now (kind_of c.args.error.now) report report (history c.args.faults.now)
    (history c.print_out_of_memory.new.faults) c.print_out_of_memory.ensures

pub returns-in-Err : goal.returns-in-Err
returns-in-Err g c =
    let report = g.W.Device.history c.args.report.now in
    let history = g.E.Device.history in
    answer_memory c.args.program.now (kind_of c.args.error.now) report report (history c.args.faults.now)
    (history c.print_out_of_memory-in-Err.new.faults) c.print_out_of_memory-in-Err.ensures

pub returns-then-not-is_help : goal.returns-then-not-is_help
returns-then-not-is_help g c =
    let report = g.W.Device.history c.args.report.now in
    let history = g.E.Device.history in
    answer_usage c.args.program.now (kind_of c.args.error.now) report report (history c.args.faults.now) (history c.print_text.new.faults)
    c.deref.result.now
    (ap is_want_of_memory (sym c.kind-kind.ensures) ∙ (sym c.is_memory.ensures ∙ c.if-is_memory.false))
    (ap is_help (sym c.kind-kind.ensures) ∙ (sym c.is_help.ensures ∙ c.if-not-is_help.true)) c.print_text.ensures

pub returns-in-Ok-write_all : goal.returns-in-Ok-write_all
returns-in-Ok-write_all g c =
    let faults = g.E.Device.history c.args.faults.now in
    answer_help c.args.program.now (kind_of c.args.error.now) (g.W.Device.history c.args.report.now)
    (g.W.Device.history c.write_all.new.sink) faults faults c.as_bytes.result.now
    (ap is_help (sym c.kind-kind.ensures) ∙ (sym c.is_help.ensures ∙ c.if-not-is_help.false)) c.in-Ok-write_all.ensures.written

pub returns : goal.returns
returns g c =
    answer_cut c.args.program.now (kind_of c.args.error.now) (g.W.Device.history c.args.report.now)
    (g.W.Device.history c.write_all.new.sink) (g.E.Device.history c.args.faults.now) (g.E.Device.history c.print_not_written.new.faults)
    c.as_bytes.result.now c.in-Err-write_all.count (ap is_help (sym c.kind-kind.ensures) ∙ (sym c.is_help.ensures ∙ c.if-not-is_help.false))
    c.in-Err-write_all.ensures.stopped c.print_not_written.ensures
