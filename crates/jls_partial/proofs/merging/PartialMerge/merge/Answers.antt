use Rattle.std.proofs.Common.{◌∙◌}
use Rattle.jls_partial.proofs.Growth.{all_is_union, prefix_between}
use Rattle.jls_partial.proofs.merging.PartialMerge.merge.Goals as goal

pub returns-in-Ok-clause-ok : goal.returns-in-Ok-clause-ok
returns-in-Ok-clause-ok c = c.in-Ok.ensures.ok ∙ all_is_union c.args.self.now c.args.other.now c.shape-2.ensures.marks_held

pub returns-in-Err-clause-out_of_memory : goal.returns-in-Err-clause-out_of_memory
returns-in-Err-clause-out_of_memory c =
    λ _. prefix_between c.args.self.now c.args.other.now c.merge_entries.new.into c.shape-2.ensures.marks_held c.in-Err.ensures.err
