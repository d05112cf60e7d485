use Rattle.jls_marker.specs.declared.profile.Profile.TheVariants.{Strict}
use Rattle.jls_copy.proofs.Prefixes.{prefixes_stay_broken}
use Rattle.jls_copy.proofs.copy_laws.prefixes_stay_broken.Goals as goal

pub returns : goal.returns
returns c = prefixes_stay_broken Strict
