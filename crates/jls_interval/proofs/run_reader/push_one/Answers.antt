use Rattle.std.proofs.Common.{true, [], ◌∷◌, ◌++◌, ◌-◌, ◌<◌, sym, ◌∙◌, subst}
use Rattle.jls_interval.specs.Reading.{Taken}
use Rattle.jls_interval.proofs.RunSteps.{one_taken, short_end, full_end, next_block}
use Rattle.jls_interval.proofs.run_reader.push_one.Goals as goal

pub returns-then-columns-block-clause-step : goal.returns-then-columns-block-clause-step
returns-then-columns-block-clause-step c = λ r0 given t.
    short_end r0 c.args.width (given ++ true ∷ []) c.args.run_index c.args.columns
    (one_taken r0 c.args.width given c.args.run_index c.args.columns t) c.requires.1
    (subst (λ z. c.args.columns < z) c.block_columns-block.ensures c.if-columns-block.true)

pub returns-then-columns-block-2-clause-step : goal.returns-then-columns-block-2-clause-step
returns-then-columns-block-2-clause-step c = λ r0 given t.
    let e = full_end r0 c.args.width (given ++ true ∷ []) c.args.run_index c.args.columns
    (one_taken r0 c.args.width given c.args.run_index c.args.columns t) (c.if-columns-block-2.true ∙ c.block_columns-block.ensures) in
    (e.0, e.1 ∙ sym c.raised-run_index.ensures.value)

pub returns-else-columns-block-2-clause-step : goal.returns-else-columns-block-2-clause-step
returns-else-columns-block-2-clause-step c = λ r0 given t.
    subst (λ z. Taken r0 c.args.width (given ++ true ∷ []) z (c.args.columns - c.block_columns-block.result) [])
    (sym c.raised-run_index.ensures.value)
    (next_block r0 c.args.width (given ++ true ∷ []) c.args.run_index c.args.columns c.block_columns-block.result
    (one_taken r0 c.args.width given c.args.run_index c.args.columns t) c.block_columns-block.ensures c.if-columns-block.false)
