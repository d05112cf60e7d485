use Rattle.std.proofs.Common.{◌∷◌, ℕ, List, map, sym, subst}
use Rattle.std.specs.Borrow.{Bor}
use Rattle.jls_io.specs.Event.{GrewBoth}
use Rattle.jls_salvage_run.specs.WritingFiles.{WritesFile}
use Rattle.jls_salvage_run.specs.declared.writing.Format.TheVariants.{Pnm, Jls}
use Rattle.jls_salvage_run.specs.Joining.{Joins}
use Rattle.jls_cli.specs.SalvageAsking.{asked_of}
use Rattle.jls_cli.specs.declared.salvage.asked.Asked.{Asked}
use Rattle.jls_salvage_run.specs.Runs.{CameOf}
use Rattle.jls_salvage_run.proofs.Running.{desk_alone}
use Rattle.jls_salvage_run.proofs.performing.perform.Goals as goal

pub returns-in-Join : goal.returns-in-Join
returns-in-Join g c =
    let desk = g.D.Device.history c.args.desk.now in
    let desk' = g.D.Device.history c.join.new.desk in
    let report = g.W.Device.history c.args.report.now in
    let names : List (List ℕ) = c.in-Join.first.now ∷ map (λ (f : Bor (List ℕ)). f.now) c.in-Join.others.now in
    subst (λ (a : Asked). GrewBoth (CameOf (asked_of a) c.join.result) desk desk' report report) (sym c.in-Join.is)
    (desk_alone (Joins c.in-Join.source c.in-Join.out.now names c.join.result) desk desk' report c.join.ensures)

pub returns-in-Check : goal.returns-in-Check
returns-in-Check g c =
    let desk = g.D.Device.history in
    let report = g.W.Device.history in
    subst (λ (a : Asked). GrewBoth (CameOf (asked_of a) c.print_report.result) (desk c.args.desk.now) (desk c.print_report.new.desk)
    (report c.args.report.now) (report c.print_report.new.report))
    (sym c.in-Check.is) c.print_report.ensures

pub returns-in-Show : goal.returns-in-Show
returns-in-Show g c =
    let desk = g.D.Device.history in
    let report = g.W.Device.history in
    subst (λ (a : Asked). GrewBoth (CameOf (asked_of a) c.print_report-in-Show.result) (desk c.args.desk.now)
    (desk c.print_report-in-Show.new.desk) (report c.args.report.now) (report c.print_report-in-Show.new.report))
    (sym c.in-Show.is) c.print_report-in-Show.ensures

pub returns-in-WritePnm : goal.returns-in-WritePnm
returns-in-WritePnm g c =
    let desk = g.D.Device.history c.args.desk.now in
    let desk' = g.D.Device.history c.write.new.desk in
    let report = g.W.Device.history c.args.report.now in
    subst (λ (a : Asked). GrewBoth (CameOf (asked_of a) c.write.result) desk desk' report report) (sym c.in-WritePnm.is)
    (desk_alone (WritesFile Pnm c.in-WritePnm.out.now c.in-WritePnm.file.now c.write.result) desk desk' report c.write.ensures)

pub returns-in-WriteJls : goal.returns-in-WriteJls
returns-in-WriteJls g c =
    let desk = g.D.Device.history c.args.desk.now in
    let desk' = g.D.Device.history c.write-in-WriteJls.new.desk in
    let report = g.W.Device.history c.args.report.now in
    let format = Jls c.in-WriteJls.line c.in-WriteJls.ri in
    subst (λ (a : Asked). GrewBoth (CameOf (asked_of a) c.write-in-WriteJls.result) desk desk' report report) (sym c.in-WriteJls.is)
    (desk_alone (WritesFile format c.in-WriteJls.out.now c.in-WriteJls.file.now c.write-in-WriteJls.result) desk desk' report
    c.write-in-WriteJls.ensures)
