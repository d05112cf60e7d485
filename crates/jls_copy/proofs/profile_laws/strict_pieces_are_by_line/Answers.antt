use Rattle.jls_copy.proofs.ByLine.{strict_pieces_are_by_line}
use Rattle.jls_copy.proofs.profile_laws.strict_pieces_are_by_line.Goals as goal

pub returns : goal.returns
returns c = strict_pieces_are_by_line
