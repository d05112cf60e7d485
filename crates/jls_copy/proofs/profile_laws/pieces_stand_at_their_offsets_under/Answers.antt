use Rattle.jls_copy.proofs.TellingLaws.{pieces_stand_at_their_offsets}
use Rattle.jls_copy.proofs.profile_laws.pieces_stand_at_their_offsets_under.Goals as goal

pub returns : goal.returns
returns c = pieces_stand_at_their_offsets
