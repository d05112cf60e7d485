use Rattle.jls_copy.proofs.TellingLaws.{ends_stand_at_their_offsets}
use Rattle.jls_copy.proofs.profile_laws.ends_stand_at_their_offsets_under.Goals as goal

pub returns : goal.returns
returns c = ends_stand_at_their_offsets
