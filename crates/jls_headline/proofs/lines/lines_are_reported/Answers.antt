use Rattle.jls_headline.proofs.OneLine.{stations_tell_of_lines, unnamed_lines_have_one_reading}
use Rattle.jls_headline.proofs.OneLine.{unnamed_lines_are_the_picture}
use Rattle.jls_headline.proofs.lines.lines_are_reported.Goals as goal

pub returns-clause-stations : goal.returns-clause-stations
returns-clause-stations c = stations_tell_of_lines

pub returns-clause-unnamed : goal.returns-clause-unnamed
returns-clause-unnamed c = unnamed_lines_have_one_reading

pub returns-clause-unnamed_survives : goal.returns-clause-unnamed_survives
returns-clause-unnamed_survives c = unnamed_lines_are_the_picture
