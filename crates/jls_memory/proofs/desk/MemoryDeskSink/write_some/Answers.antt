use Rattle.std.proofs.Common.{◌≡◌, false, sym, subst, map}
use Rattle.std.specs.List.{list_any}
use Rattle.jls_io.specs.Event.{History, is_creation}
use Rattle.jls_memory.specs.Desks.{AtDesk, IsKept}
use Rattle.jls_memory.specs.Held.{input_file, output_files}
use Rattle.jls_memory.proofs.Kept.{kept_unwritten, kept_write, some_output}
use Rattle.jls_memory.proofs.desk.MemoryDeskSink.write_some.Goals as goal

pub invariant_of-self : goal.invariant_of-self
invariant_of-self c =
    let inputs = map input_file c.self.inside.inputs.now in
    let rest = c.self.inside.rest.now in
    let outputs = output_files c.self.inside.outputs.items in
    let outputs' = output_files c.lengthen.new.outputs.items in
    subst (λ (h : History). IsKept inputs rest outputs' h) (sym c.note.ensures)
    (kept_write inputs rest outputs c.self.inside.ledger c.self.invariant c.args.bytes.now outputs' c.in-Ok.ensures.longer)

pub invariant_of-self-in-Err : goal.invariant_of-self-in-Err
invariant_of-self-in-Err c =
    let inputs = map input_file c.self.inside.inputs.now in
    let rest = c.self.inside.rest.now in
    let outputs = output_files c.self.inside.outputs.items in
    let outputs' = output_files c.lengthen.new.outputs.items in
    subst (λ (h : History). IsKept inputs rest outputs' h) (sym c.note-in-Err.ensures)
    (kept_unwritten inputs rest outputs c.self.inside.ledger c.self.invariant outputs' c.in-Err.ensures.same)

pub returns-in-Ok-clause-nothing_open : goal.returns-in-Ok-clause-nothing_open
returns-in-Ok-clause-nothing_open c = λ e.
    absurd (some_output (map input_file c.self.inside.inputs.now) c.self.inside.rest.now (output_files c.self.inside.outputs.items)
    c.self.inside.ledger c.self.invariant c.args.bytes.now (output_files c.lengthen.new.outputs.items) c.in-Ok.ensures.longer
    (subst (λ (d : AtDesk). list_any is_creation d.events ≡ false) (sym c.self.view_is) e))
