use Rattle.std.proofs.Common.{ℕ, List, ◌++◌, ◌<◌, ◌^◌, ap, sym, subst, ◌∙◌, refl, arith}
use Rattle.jls_values.specs.OrderedSet as set
use Rattle.jls_values.specs.SourceList.{IsSourceList}
use Rattle.jls_values.proofs.SourceLists.{found, gap, from_list-insert, insert-there}
use Rattle.jls_values.proofs.SourceMerges.{sources-insert-before}
use Rattle.jls_values.proofs.source_set.put.Goals as goal

-- the number is there already
pub returns-in-Ok-clause-held : goal.returns-in-Ok-clause-held
returns-in-Ok-clause-held c =
    let xs = c.args.numbers.now.items in
    sym (insert-there (set.from_list xs) c.args.number
    (found xs c.deref.result.now c.in-Ok.field-0 c.args.number (set.from_list xs) c.requires.sources refl c.deref.ensures.value
    c.in-Ok.ensures.position))

-- the numbers rise with the new one
pub returns-in-Ok-insert-clause-sources : goal.returns-in-Ok-insert-clause-sources
returns-in-Ok-insert-clause-sources c = λ above h all.
    let xs = c.args.numbers.now.items in
    let fits : c.args.number < 2 ^ 32 = omega arith in
    let g = gap xs c.deref.result.now c.in-Err.at c.args.number c.requires.sources c.deref.ensures.value c.in-Err.ensures.position in
    subst (λ (zs : List ℕ). IsSourceList (zs ++ above)) (sym c.in-Ok-insert.ensures.items)
    (sources-insert-before xs above c.in-Err.at c.args.number fits g all h)

pub returns-in-Ok-insert-clause-held : goal.returns-in-Ok-insert-clause-held
returns-in-Ok-insert-clause-held c =
    let xs = c.args.numbers.now.items in
    let g = gap xs c.deref.result.now c.in-Err.at c.args.number c.requires.sources c.deref.ensures.value c.in-Err.ensures.position in
    ap set.from_list c.in-Ok-insert.ensures.items ∙ from_list-insert xs c.in-Err.at c.args.number g.within
