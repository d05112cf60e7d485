use Rattle.jls_splice_laws.proofs.WideReadings.{wide_gives_what_strict_gives}
use Rattle.jls_splice_laws.proofs.by_line.wide_gives_what_strict_gives.Goals as goal

pub returns : goal.returns
returns c = wide_gives_what_strict_gives
