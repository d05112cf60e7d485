use Rattle.std.proofs.Common.{[], ◌∷◌, ◌++◌, get_or, take, ap, sym, subst, ◌∙◌, arith}
use Rattle.std.specs.Ordering.{nat_cmp}
use Rattle.std.proofs.lemmas.List.{take_more}
use Rattle.jls_values.specs.OrderedSet as set
use Rattle.jls_values.specs.OrderedSetLaws.{insert_all-append}
use Rattle.jls_values.specs.SourceList.{IsSourceList}
use Rattle.jls_values.proofs.SourceMerges.{sources-left, from_list-insert-before}
use Rattle.jls_values.proofs.source_set.put_all.Goals as goal

pub put-requires-clause-sources : goal.put-requires-clause-sources
put-requires-clause-sources c =
    sources-left c.move_up_to-left.new.numbers.items c.move_up_to-left.result.now
    (subst IsSourceList (sym c.move_up_to-left.ensures.moved) c.loop-number.invariant.sources)

-- one number more is put in, and those above stay above
pub loop-number-preserved : goal.loop-number-preserved
loop-number-preserved c =
    let others = c.args.others.now in
    let k = c.loop-number.number-index in
    let x = get_or others k 0 in
    let left = c.move_up_to-left.result.now in
    let old = set.from_list {R = nat_cmp} (c.args.numbers.now.items ++ c.args.above.now) in
    record {
      sources = c.put.ensures.sources left (subst IsSourceList (sym c.move_up_to-left.ensures.moved) c.loop-number.invariant.sources)
          c.move_up_to-left.ensures.above;
      held = from_list-insert-before c.move_up_to-left.new.numbers.items c.put.new.numbers.items left x c.put.ensures.held
          ∙ ap (λ (s : set.OrderedSet nat_cmp). set.insert s x)
          (ap set.from_list c.move_up_to-left.ensures.moved ∙ c.loop-number.invariant.held)
          ∙ sym (insert_all-append old (take k others) (x ∷ []))
          ∙ ap (set.insert_all old) (sym (take_more others k 0 c.loop-number-test.true));
      room = omega arith;
    }
