use Rattle.std.proofs.Common.{ap, sym, subst, ◌∙◌}
use Rattle.std.proofs.lemmas.Cmp.{nat_cmp_total}
use Rattle.jls_values.specs.OrderedSet as set
use Rattle.jls_values.specs.OrderedSetLaws.{items-from_list}
use Rattle.jls_values.specs.SourceList.{IsSourceList}
use Rattle.jls_values.proofs.source_set.SourceSet.as_slice.Goals as goal

pub returns-clause-value : goal.returns-clause-value
returns-clause-value c = c.deref.ensures.value ∙ sym (items-from_list nat_cmp_total c.self.inside.numbers.items c.self.invariant.sorted)
    ∙ ap set.items c.self.view_is

pub returns-clause-sources : goal.returns-clause-sources
returns-clause-sources c = subst IsSourceList (sym c.deref.ensures.value) c.self.invariant
