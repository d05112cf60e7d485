use Rattle.jls_copy.proofs.PrefixReadings.{prefixes_keep_readings}
use Rattle.jls_copy.proofs.profile_laws.prefixes_keep_readings_under.Goals as goal

pub returns : goal.returns
returns c = prefixes_keep_readings
