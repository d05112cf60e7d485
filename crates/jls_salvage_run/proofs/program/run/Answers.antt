use Rattle.std.proofs.Common.{◌∙◌, Bool, List, map, sym, subst, ap}
use Rattle.std.specs.String.{string_bytes}
use Rattle.std.specs.Prelude.{option_and_then}
use Rattle.clap.specs.Words.{Row, Text}
use Rattle.jls_io.specs.Event.{GrewBy}
use Rattle.jls_io.specs.Writing.{Printed}
use Rattle.jls_cli.specs.SalvageAsking.{asked_by, asked_of, format_is_known_by}
use Rattle.jls_salvage_run.specs.FaultLines.{unknown_value_line}
use Rattle.jls_salvage_run.proofs.Running.{ran, ran_refused, ran_nothing}
use Rattle.jls_salvage_run.proofs.program.run.Goals as goal

pub returns-in-Err : goal.returns-in-Err
returns-in-Err g c =
    let desk = g.D.Device.history c.args.desk.now in
    ran_refused (map string_bytes c.args.words.now) desk desk (g.W.Device.history c.args.report.now)
    (g.W.Device.history c.answer.new.report)
    (g.E.Device.history c.args.faults.now) (g.E.Device.history c.answer.new.faults) _ c.answer.result c.in-Err.ensures.refused
    c.answer.ensures

pub returns-in-None : goal.returns-in-None
returns-in-None g c =
    let words = map string_bytes c.args.words.now in
    let desk = g.D.Device.history c.args.desk.now in
    let report = g.W.Device.history c.args.report.now in
    let faults = g.E.Device.history c.args.faults.now in
    let faults' = g.E.Device.history c.print_unknown_value.new.faults in
    let by_words = ap (option_and_then (λ (p : Text × List Row). asked_by p.0 p.1)) c.in-Ok.ensures.rows in
    let known = c.knows_format.ensures ∙ ap format_is_known_by c.in-Ok.ensures.rows in
    ran_nothing words desk desk report report faults faults'
    (record { taken = c.in-Ok.ensures.taken; asks = sym by_words ∙ sym c.in-None.ensures })
    (subst (λ (known : Bool). GrewBy (Printed (unknown_value_line known)) faults faults') known c.print_unknown_value.ensures)

pub returns : goal.returns
returns g c =
    let by_words = ap (option_and_then (λ (p : Text × List Row). asked_by p.0 p.1)) c.in-Ok.ensures.rows in
    ran (map string_bytes c.args.words.now) (g.D.Device.history c.args.desk.now) (g.D.Device.history c.perform-outcome.new.desk)
    (g.W.Device.history c.args.report.now) (g.W.Device.history c.perform-outcome.new.report) (g.E.Device.history c.args.faults.now)
    (g.E.Device.history c.print_outcome.new.faults)
    c.exit_status.result (asked_of c.in-Some.asked) c.perform-outcome.result c.exit_status.ensures
    (record { taken = c.in-Ok.ensures.taken; asks = sym by_words ∙ sym c.in-Some.ensures }) c.perform-outcome.ensures
    c.print_outcome.ensures
