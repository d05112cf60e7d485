use Rattle.jls_bits.proofs.Codes.{small_has_code}
use Rattle.jls_bits.proofs.golomb.write_golomb.Goals as goal

pub returns-clause-has_code : goal.returns-clause-has_code
returns-clause-has_code c = small_has_code c.args.k c.args.g c.args.qbpp c.args.mapped c.requires.g.0 c.requires.mapped
