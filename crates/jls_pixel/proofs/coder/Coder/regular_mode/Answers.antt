use Rattle.std.proofs.Common.{sym}
use Rattle.jls_pixel.proofs.ContextZero.{zero_context}
use Rattle.jls_pixel.proofs.coder.Coder.regular_mode.Goals as goal

pub returns-in-Run-clause-sign : goal.returns-in-Run-clause-sign
returns-in-Run-clause-sign c = sym (zero_context c.args.self.now.cells.parameters c.args.near c.in-Run.ensures).1
