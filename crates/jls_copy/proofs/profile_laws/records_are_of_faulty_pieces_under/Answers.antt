use Rattle.jls_copy.proofs.TellingLaws.{records_are_of_faulty_pieces}
use Rattle.jls_copy.proofs.profile_laws.records_are_of_faulty_pieces_under.Goals as goal

pub returns : goal.returns
returns c = records_are_of_faulty_pieces
