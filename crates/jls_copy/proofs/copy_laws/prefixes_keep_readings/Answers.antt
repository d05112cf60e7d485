use Rattle.jls_marker.specs.declared.profile.Profile.TheVariants.{Strict}
use Rattle.jls_copy.proofs.PrefixReadings.{prefixes_keep_readings}
use Rattle.jls_copy.proofs.copy_laws.prefixes_keep_readings.Goals as goal

pub returns : goal.returns
returns c = prefixes_keep_readings Strict
