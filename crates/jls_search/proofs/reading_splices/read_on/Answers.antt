use Rattle.std.proofs.Common.{◌≤◌, List, ℕ, length, sym, ◌∙◌, subst, arith}
use Rattle.jls_search.specs.Choices.{IsPath, prefix_of}
use Rattle.jls_search.proofs.LevelPaths.{first_choices}
use Rattle.jls_search.proofs.Prefixes.{prefix_at_most}
use Rattle.jls_search.proofs.reading_splices.read_on.Goals as goal

pub fed_on-requires-clause-begun : goal.fed_on-requires-clause-begun
fed_on-requires-clause-begun c = c.in_ok-begun.ensures.begun c.args.parts.now c.requires.kept

pub fed_on-requires-2-clause-path : goal.fed_on-requires-2-clause-path
fed_on-requires-2-clause-path c =
    subst (IsPath c.args.parts.now) (sym c.split_at.ensures.front)
    (first_choices c.args.parts.now c.args.path.now c.args.shared c.requires.path)

pub fed_on-requires-2-clause-few : goal.fed_on-requires-2-clause-few
fed_on-requires-2-clause-few c =
    let ps = c.args.parts.now in
    let at_most = prefix_at_most ps c.args.path.now c.args.shared c.requires.path in
    subst (λ (path : List ℕ). length (prefix_of ps path) ≤ 9223372036854775807) (sym c.split_at.ensures.front)
    (let few = c.requires.few in omega (arith, at_most, few))

pub returns-then-begun-shared-clause-kept : goal.returns-then-begun-shared-clause-kept
returns-then-begun-shared-clause-kept c = c.in_ok-begun.ensures.kept c.args.parts.now c.requires.kept

pub returns-clause-kept : goal.returns-clause-kept
returns-clause-kept c =
    let ps = c.args.parts.now in
    let kept = c.in_ok-begun.ensures.kept ps c.requires.kept in
    c.in_ok-keep_more.ensures ps kept (c.in_ok-try_clone.ensures ∙ c.in_ok-reader-2.ensures)
