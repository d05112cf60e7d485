use Rattle.std.proofs.Common.{◌∙◌, ap, map}
use Rattle.jls_cli.specs.BadValues.{list_of}
use Rattle.jls_cli.specs.declared.splice.bad.BadList.{BadList}
use Rattle.std.proofs.Common.{Vec, Global}
use Rattle.jls_splice_run.proofs.ListedCopies.{list_more, no_list_more}
use Rattle.jls_splice_run.proofs.bad_lists.lists_in.Goals.{in-Some+in_ok-push, in_default}
use Rattle.jls_splice_run.proofs.bad_lists.lists_in.Goals as goal

pub loop-value-preserved : goal.loop-value-preserved
loop-value-preserved c = elim c.match-of.branch [
  | in-Some+in_ok-push w ↦
      ap (λ (v : Vec BadList Global). map list_of v.items) w.lists-is ∙ ap (map list_of) w.in_ok-push.ensures.items
      ∙ list_more _ c.args.values.now c.loop-value.value-index c.loop-value.lists.items w.in-Some.list c.of.result c.loop-value-test.true
      c.of.ensures w.in-Some.is c.loop-value.invariant
  | in_default w ↦
      ap (λ (v : Vec BadList Global). map list_of v.items) w.lists-is
      ∙ no_list_more _ c.args.values.now c.loop-value.value-index c.loop-value.lists.items c.of.result c.loop-value-test.true c.of.ensures
      w.in_default.is c.loop-value.invariant
]
