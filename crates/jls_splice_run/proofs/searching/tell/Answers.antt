use Rattle.std.proofs.Common.{◌≡◌, Bool, List, ℕ, sym, ◌∙◌, subst}
use Rattle.jls_io.specs.Event.{GrewBy}
use Rattle.jls_io.specs.Writing.{Printed}
use Rattle.jls_splice_run.specs.Lines.{progress_line}
use Rattle.jls_splice_run.specs.Telling.{IsTold}
use Rattle.jls_splice_run.proofs.Told.{tells_line, tells_none}
use Rattle.jls_splice_run.proofs.searching.tell.Goals as goal

pub returns-then-not-tells : goal.returns-then-not-tells
returns-then-not-tells g c = tells_none c.args.tells (g.E.Device.history c.args.faults.now)

pub returns-in_err-line : goal.returns-in_err-line
returns-in_err-line g c = tells_none c.args.tells (g.E.Device.history c.args.faults.now)

pub returns : goal.returns
returns g c =
    let history = g.E.Device.history in
    let h = history c.args.faults.now in
    let h' = history c.print_line.new.faults in
    let line : c.deref.result.now ≡ progress_line c.args.tries c.args.files = c.deref.ensures.value ∙ c.in_ok-line.ensures in
    subst (λ (tells : Bool). GrewBy (IsTold tells) h h') (sym c.if-not-tells.false)
    (tells_line c.args.tries c.args.files (subst (λ (text : List ℕ). GrewBy (Printed text) h h') line c.print_line.ensures))
