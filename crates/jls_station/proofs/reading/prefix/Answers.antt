use Rattle.std.proofs.Common.{arith}
use Rattle.jls_station.proofs.OneInput.{prefix_of_buffer}
use Rattle.jls_station.proofs.reading.prefix.Goals as goal

pub returns-clause-bytes : goal.returns-clause-bytes
returns-clause-bytes c = prefix_of_buffer c.args.count c.args.buffer.now (λ k. omega (arith, c.type_inv.buffer k))
