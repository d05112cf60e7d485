use Rattle.std.proofs.Common.{sym, subst, map}
use Rattle.jls_io.specs.Event.{History}
use Rattle.jls_memory.specs.Desks.{IsKept}
use Rattle.jls_memory.specs.Held.{input_file, output_files}
use Rattle.jls_memory.proofs.Kept.{kept_creation, kept_uncreated}
use Rattle.jls_memory.proofs.desk.MemoryDeskDesk.create_output.Goals as goal

pub invariant_of-self : goal.invariant_of-self
invariant_of-self c =
    let inputs = map input_file c.self.inside.inputs.now in
    let rest = c.self.inside.rest.now in
    let outputs = output_files c.self.inside.outputs.items in
    let outputs' = output_files c.add_output.new.outputs.items in
    subst (λ (h : History). IsKept inputs rest outputs' h) (sym c.note.ensures)
    (kept_creation inputs rest outputs c.self.inside.ledger c.self.invariant c.args.name.now outputs' c.in-Ok.ensures.added)

pub invariant_of-self-in-Err : goal.invariant_of-self-in-Err
invariant_of-self-in-Err c =
    let inputs = map input_file c.self.inside.inputs.now in
    let rest = c.self.inside.rest.now in
    let outputs = output_files c.self.inside.outputs.items in
    let outputs' = output_files c.add_output.new.outputs.items in
    subst (λ (h : History). IsKept inputs rest outputs' h) (sym c.note-in-Err.ensures)
    (kept_uncreated inputs rest outputs c.self.inside.ledger c.self.invariant c.args.name.now outputs' c.in-Err.ensures.same)
