use Rattle.jls_marker.specs.declared.profile.Profile.TheVariants.{Strict}
use Rattle.jls_copy.proofs.TellingLaws.{records_are_of_faulty_pieces}
use Rattle.jls_copy.proofs.copy_laws.records_are_of_faulty_pieces.Goals as goal

pub returns : goal.returns
returns c = records_are_of_faulty_pieces Strict
