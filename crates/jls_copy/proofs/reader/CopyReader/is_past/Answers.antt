use Rattle.jls_copy.specs.Prefixes.{IsPastUnder}
use Rattle.jls_copy.proofs.StrictReaders.{strictly}
use Rattle.jls_copy.proofs.reader.CopyReader.is_past.Goals as goal

pub returns : goal.returns
returns c = λ yes. strictly _ _ (λ p bytes. IsPastUnder p c.args.offset bytes) c.self.invariant c.self.view_is (c.is_past.ensures yes)
