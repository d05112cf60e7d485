use Rattle.jls_carry_laws.proofs.SettledPictures as settled_pictures
use Rattle.jls_carry_laws.proofs.laws.settled_held_lines_are_the_picture.Goals as goal

pub returns-clause-held : goal.returns-clause-held
returns-clause-held c = settled_pictures.settled_held_lines_are_the_picture c.held_lines_are_the_picture.ensures

pub returns-clause-strictly : goal.returns-clause-strictly
returns-clause-strictly c = settled_pictures.settled_strictly_held_lines_are_the_picture c.strictly_held_lines_are_the_picture.ensures
