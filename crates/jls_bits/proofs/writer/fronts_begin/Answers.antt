use Rattle.jls_bits.proofs.Fronts.{fronts_begin_bytes, fronts_grow, fronts_are_one}
use Rattle.jls_bits.proofs.writer.fronts_begin.Goals as goal

pub returns-clause-bytes : goal.returns-clause-bytes
returns-clause-bytes c = fronts_begin_bytes

pub returns-clause-grow : goal.returns-clause-grow
returns-clause-grow c = fronts_grow

pub returns-clause-one : goal.returns-clause-one
returns-clause-one c = fronts_are_one
