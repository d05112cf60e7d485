use Rattle.std.proofs.Common.{ℕ, ◌^◌, List, get_or, sym, ap, ◌∙◌, ◌||◌}
use Rattle.std.specs.Prelude.{nat_le}
use Rattle.std.proofs.lemmas.List.Folds.{list_any_more}
use Rattle.jls_partial.proofs.LargeSamples.{large_union}
use Rattle.jls_partial.proofs.insert_fault.has_large_sample.Goals as goal

pub loop-x-preserved : goal.loop-x-preserved
loop-x-preserved c =
    let xs : List ℕ = c.args.samples.now in let i : ℕ = c.loop-x.x-index in let p : ℕ = c.args.precision in
    large_union p c.loop-x.union (get_or xs i 0) ∙ ap (λ z. z || nat_le (2 ^ p) (get_or xs i 0)) c.loop-x.invariant
    ∙ sym (list_any_more (λ x. nat_le (2 ^ p) x) xs i 0 c.loop-x-test.true)
