use Rattle.jls_salvage_run.proofs.WantOfMemory.{memory_reported}
use Rattle.jls_salvage_run.proofs.run_laws.want_of_memory_is_reported.Goals as goal

pub returns : goal.returns
returns c = memory_reported
