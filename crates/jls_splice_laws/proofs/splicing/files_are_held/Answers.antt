use Rattle.jls_splice_laws.proofs.HeldFiles.{files_are_held}
use Rattle.jls_splice_laws.proofs.splicing.files_are_held.Goals as goal

pub returns : goal.returns
returns c = files_are_held
