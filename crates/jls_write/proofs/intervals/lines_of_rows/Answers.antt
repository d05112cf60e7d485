use Rattle.std.proofs.Common.{ℕ, List, ◌++◌, ◌≤◌, sym, ap, ◌∙◌, arith}
use Rattle.std.specs.List.{range_with_len}
use Rattle.jls_write.proofs.OneMore.{flat_map_from_more}
use Rattle.jls_write.specs.WrittenFile as spec
use Rattle.jls_write.proofs.intervals.lines_of_rows.Goals as goal

-- the lines of one row more are there
pub loop-row-preserved : goal.loop-row-preserved
loop-row-preserved c =
    let part = c.args.part.now in
    let row = c.loop-row.row in
    let components = range_with_len part.first part.count in
    let low : c.args.first ≤ row = omega arith in
    record {
      lines = c.in_ok-push_row.ensures.lines
          ∙ ap (λ (t : List (List ℕ)). t ++ spec.row_lines part.picture.now components row) c.loop-row.invariant.lines
          ∙ sym (flat_map_from_more (spec.row_lines part.picture.now components) c.args.first row low);
      each = c.in_ok-push_row.ensures.each c.loop-row.invariant.each;
    }
