use Rattle.jls_splice_laws.proofs.SplicedCopies.{spliced_copies_give_no_other}
use Rattle.jls_splice_laws.proofs.splicing.spliced_copies_give_no_other.Goals as goal

pub returns : goal.returns
returns c = spliced_copies_give_no_other c.splices_give_no_other.ensures.searched
