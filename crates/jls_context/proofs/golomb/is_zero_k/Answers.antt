use Rattle.std.proofs.Common.{sym}
use Rattle.jls_context.proofs.GolombLaws.{golomb_k_is_zero}
use Rattle.jls_context.proofs.golomb.is_zero_k.Goals as goal

pub returns : goal.returns
returns c = sym (golomb_k_is_zero c.args.occurrences c.args.magnitudes)
