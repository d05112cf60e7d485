use Rattle.jls_headline.specs.TookFiles.{no_file_taken}
use Rattle.jls_callers.proofs.files.station_without_files.Goals as goal

pub returns-clause-none_taken : goal.returns-clause-none_taken
returns-clause-none_taken c = λ profile. no_file_taken c.args.shape c.new.result c.new.ensures
