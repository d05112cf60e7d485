use Rattle.jls_copy.specs.Prefixes.{IsPieceBrokenUnder}
use Rattle.jls_copy.proofs.StrictReaders.{strictly}
use Rattle.jls_copy.proofs.reader.CopyReader.is_piece_broken.Goals as goal

pub returns : goal.returns
returns c = λ yes. strictly _ _ (λ p bytes. IsPieceBrokenUnder p bytes) c.self.invariant c.self.view_is (c.is_piece_broken.ensures yes)
