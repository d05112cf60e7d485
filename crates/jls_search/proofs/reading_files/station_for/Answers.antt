use Rattle.std.proofs.Common.{subst}
use Rattle.jls_search.specs.Reading.{HasTakenFiles}
use Rattle.jls_search.proofs.ReadFiles.{begins_late}
use Rattle.jls_search.proofs.reading_files.station_for.Goals as goal

pub returns-in-Some : goal.returns-in-Some
returns-in-Some c = λ source files taken. subst (HasTakenFiles source files) c.in-Some.is taken

pub returns-in-None : goal.returns-in-None
returns-in-None c = λ source files none.
    begins_late source files c.to_owned.result c.new.result c.new.ensures (subst (HasTakenFiles source files) c.in-None.is none)
