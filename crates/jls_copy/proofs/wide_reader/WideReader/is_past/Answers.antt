use Rattle.jls_copy.specs.Prefixes.{IsPastUnder}
use Rattle.jls_copy.proofs.WideReaders.{widely}
use Rattle.jls_copy.proofs.wide_reader.WideReader.is_past.Goals as goal

pub returns : goal.returns
returns c = λ yes. widely _ _ (λ p bytes. IsPastUnder p c.args.offset bytes) c.self.invariant c.self.view_is (c.is_past.ensures yes)
