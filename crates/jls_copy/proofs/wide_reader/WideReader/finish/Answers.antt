use Rattle.jls_copy.specs.CopyReads.{CopyReadsUnder, CopyGivesNoneUnder}
use Rattle.jls_copy.proofs.Gathering.{if_ok, if_err}
use Rattle.jls_copy.proofs.WideReaders.{widely}
use Rattle.jls_copy.proofs.wide_reader.WideReader.finish.Goals as goal

pub returns-clause-read : goal.returns-clause-read
returns-clause-read c =
    if_ok c.finish.result (λ read said. widely _ _ (λ p bytes. CopyReadsUnder p bytes read) c.self.invariant c.self.view_is said)
    c.finish.ensures.read

pub returns-clause-none : goal.returns-clause-none
returns-clause-none c =
    if_err c.finish.result (λ f said. widely _ _ (λ p bytes. CopyGivesNoneUnder p bytes f) c.self.invariant c.self.view_is said)
    c.finish.ensures.none
