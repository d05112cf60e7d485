use Rattle.std.proofs.Common.{[], subst}
use Rattle.jls_memory.specs.Desks.{AtDesk}
use Rattle.jls_memory.specs.Inputs.{Reads}
use Rattle.jls_memory.proofs.desk.MemoryDesk.into_outputs.Goals as goal

pub returns-clause-reads : goal.returns-clause-reads
returns-clause-reads c =
    let rest = c.self.inside.rest.now in
    (rest, subst (λ (d : AtDesk). Reads d.inputs [] rest d.events) c.self.view_is c.self.invariant.reads)
