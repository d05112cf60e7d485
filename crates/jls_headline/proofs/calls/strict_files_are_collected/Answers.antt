use Rattle.jls_headline.proofs.TookFiles.{strict_files_are_collected}
use Rattle.jls_headline.proofs.calls.strict_files_are_collected.Goals as goal

pub returns : goal.returns
returns c = strict_files_are_collected
