use Rattle.jls_copy.proofs.Prefixes.{prefixes_stay_broken}
use Rattle.jls_copy.proofs.profile_laws.prefixes_stay_broken_under.Goals as goal

pub returns : goal.returns
returns c = prefixes_stay_broken
