use Rattle.jls_marker.specs.declared.profile.Profile.TheVariants.{Wide}
use Rattle.jls_splice_laws.proofs.CutFiles.{cut_lines_are_the_picture, cuts_are_held, sought_files_begin_with_the_cut}
use Rattle.jls_splice_laws.proofs.CutFiles.{whole_files_begin_with_their_lines}
use Rattle.jls_splice_laws.proofs.cut.cut_lines_are_the_picture.Goals as goal

pub returns-clause-begins : goal.returns-clause-begins
returns-clause-begins c = sought_files_begin_with_the_cut

pub returns-clause-lines : goal.returns-clause-lines
returns-clause-lines c =
    whole_files_begin_with_their_lines c.whole_files_survive.ensures.faultless (c.prefixes_keep_readings_under.ensures Wide)

pub returns-clause-held : goal.returns-clause-held
returns-clause-held c = cuts_are_held

pub returns-clause-all : goal.returns-clause-all
returns-clause-all c =
    cut_lines_are_the_picture c.whole_files_survive.ensures.faultless (c.prefixes_keep_readings_under.ensures Wide)
