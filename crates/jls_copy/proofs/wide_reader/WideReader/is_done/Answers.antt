use Rattle.jls_copy.specs.CopyReads.{IsDoneUnder}
use Rattle.jls_copy.proofs.WideReaders.{widely}
use Rattle.jls_copy.proofs.wide_reader.WideReader.is_done.Goals as goal

pub returns : goal.returns
returns c = widely _ _ (λ p bytes. IsDoneUnder p bytes c.is_done.result) c.self.invariant c.self.view_is c.is_done.ensures
