use Rattle.std.proofs.Common.{sym, subst, map}
use Rattle.jls_io.specs.Event.{History}
use Rattle.jls_memory.specs.Desks.{IsKept}
use Rattle.jls_memory.specs.Held.{input_file, output_files}
use Rattle.jls_memory.proofs.Kept.{kept_open, kept_unopened}
use Rattle.jls_memory.proofs.desk.MemoryDeskDesk.open_input.Goals as goal

pub invariant_of-self : goal.invariant_of-self
invariant_of-self c =
    let inputs = map input_file c.self.inside.inputs.now in
    let rest = c.self.inside.rest.now in
    let outputs = output_files c.self.inside.outputs.items in
    subst (λ (h : History). IsKept inputs c.in-Some.bytes.now outputs h) (sym c.note.ensures)
    (kept_open inputs rest outputs c.self.inside.ledger c.self.invariant c.args.name.now c.in-Some.bytes.now (sym c.in-Some.ensures))

pub invariant_of-self-in-None : goal.invariant_of-self-in-None
invariant_of-self-in-None c =
    let inputs = map input_file c.self.inside.inputs.now in
    let rest = c.self.inside.rest.now in
    let outputs = output_files c.self.inside.outputs.items in
    subst (λ (h : History). IsKept inputs rest outputs h) (sym c.note-in-None.ensures)
    (kept_unopened inputs rest outputs c.self.inside.ledger c.self.invariant c.args.name.now (sym c.in-None.ensures))
