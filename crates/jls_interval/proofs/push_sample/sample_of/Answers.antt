use Rattle.jls_context.specs.Variables.{cell_at}
use Rattle.jls_interval.proofs.SamplesRead.{regular_wrong}
use Rattle.jls_interval.proofs.push_sample.sample_of.Goals as goal

pub returns-in-None-clause-none : goal.returns-in-None-clause-none
returns-in-None-clause-none c = λ given unread e.
    regular_wrong c.args.coder.now.cells.parameters c.args.coder.now.in_range (cell_at c.args.coder.now.cells c.args.mode.context)
    c.args.neighbours given c.args.mapped unread c.requires.code e c.in-None.ensures.none
