use Rattle.jls_carry_laws.proofs.HeldLines as held_lines
use Rattle.jls_marker.specs.declared.profile.Profile.TheVariants.{Wide}
use Rattle.jls_carry_laws.proofs.laws.held_lines_are_the_picture.Goals as goal

pub returns : goal.returns
returns c = held_lines.held_lines_are_the_picture (c.pieces_stand_at_their_offsets_under.ensures Wide)
