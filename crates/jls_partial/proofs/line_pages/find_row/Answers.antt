use Rattle.std.proofs.Common.{rules, ap, sym, ◌∙◌}
use Rattle.std.specs.Ordering.{is_lt}
use Rattle.std.proofs.lemmas.List.Sorted.{answers_always}
use Rattle.jls_partial.proofs.PageRows.{after_last, searched}
use Rattle.jls_partial.proofs.line_pages.find_row.Goals as goal

pub returns-in_default-last-clause-same : goal.returns-in_default-last-clause-same
returns-in_default-last-clause-same c =
    let facts = c.binary_search_by_key.ensures in
    (searched c.args.rows.now c.requires c.args.at c.binary_search_by_key.result facts.bound
    (facts.position (λ r. r.0) (answers_always _ _ _ (λ f a r g called. search rules)))).0

pub returns-in_default-last-clause-gap : goal.returns-in_default-last-clause-gap
returns-in_default-last-clause-gap c =
    let facts = c.binary_search_by_key.ensures in
    (searched c.args.rows.now c.requires c.args.at c.binary_search_by_key.result facts.bound
    (facts.position (λ r. r.0) (answers_always _ _ _ (λ f a r g called. search rules)))).1

pub returns-in-Some-last-clause-gap : goal.returns-in-Some-last-clause-gap
returns-in-Some-last-clause-gap c =
    after_last c.args.rows.now c.args.at c.in-Some-last.row.now c.requires (sym c.in-Some-last.ensures.value)
    (ap is_lt (sym c.cmp.ensures) ∙ sym c.is_lt.ensures ∙ c.if-is_lt.true)
