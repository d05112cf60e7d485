use Rattle.jls_copy.specs.Prefixes.{StaysFaultyUnder}
use Rattle.jls_copy.proofs.WideReaders.{widely}
use Rattle.jls_copy.proofs.wide_reader.WideReader.has_faulty_piece.Goals as goal

pub returns : goal.returns
returns c = λ yes. widely _ _ (λ p bytes. StaysFaultyUnder p bytes) c.self.invariant c.self.view_is (c.has_faulty_piece.ensures yes)
