use Rattle.jls_cli.proofs.SimpleCommands.{salvage_faultless, splice_faultless}
use Rattle.jls_cli.proofs.laws.faultless_words_are_taken.Goals as goal

pub returns : goal.returns
returns c = record { salvage = salvage_faultless; splice = splice_faultless }
