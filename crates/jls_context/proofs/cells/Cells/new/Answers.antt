use Rattle.std.proofs.Common.{sym, subst}
use Rattle.std.proofs.lemmas.List.{get_or-replicate, length-replicate}
use Rattle.jls_context.specs.declared.regular.Cell.{Cell}
use Rattle.jls_context.specs.Bounds.{IsCell}
use Rattle.jls_context.proofs.Writes.{cell_at-start, codes_alike}
use Rattle.jls_context.proofs.Sizes.{maxval_small, reset_small}
use Rattle.jls_context.proofs.cells.Cells.new.Goals as goal

-- cells at the start are in their ranges, each with the code that it says
pub invariant_of-result : goal.invariant_of-result
invariant_of-result c = record {
  variables = record {
    ranges = c.initial-cell.ensures.ranges;
    maxval_below = maxval_small c.args.params.now c.initial-cell.ensures.ranges;
    reset_below = reset_small c.args.params.now c.initial-cell.ensures.ranges;
    length_is = length-replicate 365 c.initial-cell.result;
    regular = λ k d within. subst (λ (cell : Cell). IsCell c.args.params.now.reset cell)
        (sym (get_or-replicate 365 k c.initial-cell.result d within)) c.initial-cell.ensures.cell;
    run_other = c.initial.ensures.cell;
    run_same = c.initial-2.ensures.cell;
  };
  codes_are = codes_alike 365 c.initial-cell.result c.code.result c.code.ensures.value;
}

pub code-requires : goal.code-requires
code-requires c = record {
  cell =
      (c.args.params.now.reset, reset_small c.args.params.now c.initial-cell.ensures.ranges, c.initial-cell.ensures.cell);
}

pub returns-clause-cells : goal.returns-clause-cells
returns-clause-cells c = λ cell. cell_at-start c.args.params.now c.initial-cell.result c.initial.result c.initial-2.result cell
    c.initial-cell.ensures.value
