use Rattle.std.proofs.Common.{◌≡◌, ◌∙◌, true, ap, sym, subst}
use Rattle.std.specs.Cmp.{both_ways}
use Rattle.jls_partial.specs.Entries.{partial_of}
use Rattle.jls_partial.specs.Equality.{are_same_pictures, are_same_pictures-itself, one_partial}
use Rattle.jls_partial.specs.Partial.{PartialPicture}
use Rattle.jls_partial.specs.Text.{entries}
use Rattle.jls_partial.proofs.KeptEntries.{partial_again}
use Rattle.jls_partial.proofs.SameEntries.{shapes_from_test}
use Rattle.jls_partial.proofs.equality.PartialPartialEq.eq.Goals as goal

-- the two are one exactly if their shapes and their entries are
pub returns-clause-exactly : goal.returns-clause-exactly
returns-clause-exactly c =
    let p = c.args.self.now in
    let q = c.args.other.now in
    let shape : p.shape ≡ q.shape = sym c.shape.ensures.value
    ∙ shapes_from_test c.shape.result.now c.shape-2.result.now c.ne.result c.ne.ensures c.if-ne.false ∙ c.shape-2.ensures.value in (
      λ e. sym (partial_again p c.shape.ensures.marks_held) ∙ (λ i. partial_of (shape i) (c.same_entries.ensures.0 e i))
          ∙ partial_again q c.shape-2.ensures.marks_held,
      λ same. c.same_entries.ensures.1 (ap entries same),
    )

-- the test of the two is that of equality
pub returns-clause-test : goal.returns-clause-test
returns-clause-test c =
    let p = c.args.self.now in
    let exactly = returns-clause-exactly c in
    both_ways c.same_entries.result (are_same_pictures p c.args.other.now)
    (λ e. subst (λ (z : PartialPicture). are_same_pictures p z ≡ true) (exactly.0 e) (are_same_pictures-itself p))
    (λ e. exactly.1 (one_partial p c.args.other.now e))
