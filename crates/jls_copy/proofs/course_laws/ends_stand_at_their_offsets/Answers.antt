use Rattle.jls_marker.specs.declared.profile.Profile.TheVariants.{Strict}
use Rattle.jls_copy.proofs.TellingLaws.{ends_stand_at_their_offsets}
use Rattle.jls_copy.proofs.course_laws.ends_stand_at_their_offsets.Goals as goal

pub returns : goal.returns
returns c = ends_stand_at_their_offsets Strict
