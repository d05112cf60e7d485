use Rattle.std.proofs.Common.{◌≡◌, ◌-◌, ◌++◌, ℕ, List, length, take, drop, ap, sym, subst, ◌∙◌}
use Rattle.std.specs.Ordering.{nat_cmp}
use Rattle.jls_values.specs.OrderedSet as set
use Rattle.jls_values.specs.SourceList.{IsSourceList}
use Rattle.jls_values.proofs.SourceMerges.{cut_again}
use Rattle.jls_values.proofs.source_set.SourceSet.add_all.Goals.{After-deref-3}
use Rattle.jls_values.proofs.source_set.SourceSet.add_all.Goals as goal

-- what stays and what was above are all its numbers
whole : (c : After-deref-3) → c.truncate.new.self.items ++ c.deref-3.result.now ≡ c.self.inside.numbers.items
whole c =
    let n = c.match-binary_search.below in
    cut_again c.self.inside.numbers.items c.truncate.new.self.items c.deref-3.result.now n
    (c.truncate.ensures.items ∙ ap (take n) c.in_ok-reserve.ensures.items)
    (c.deref-3.ensures.value ∙ c.in_ok-above.ensures.items
    ∙ ap (λ (xs : List ℕ). take (length xs - n) (drop n xs)) c.deref-2.ensures.value)

pub put_all-requires-clause-sources : goal.put_all-requires-clause-sources
put_all-requires-clause-sources c =
    subst IsSourceList (sym (whole (goal.at.put_all-requires-clause-sources c).After-deref-3)) c.self.invariant

-- all numbers are in the set
pub returns-clause-held : goal.returns-clause-held
returns-clause-held c =
    c.put_all.ensures.held
    ∙ ap (λ (xs : List ℕ). set.insert_all (set.from_list {R = nat_cmp} xs) c.args.sources.now)
    (whole (goal.at.returns-clause-held c).After-deref-3)
    ∙ ap (λ (s : set.OrderedSet nat_cmp). set.insert_all s c.args.sources.now) c.self.view_is
