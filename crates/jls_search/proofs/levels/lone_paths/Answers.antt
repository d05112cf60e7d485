use Rattle.std.proofs.Common.{ℕ, Option, inr, subst}
use Rattle.std.specs.List.{AllByRecursion}
use Rattle.jls_search.specs.Faultless.{IsSought}
use Rattle.jls_search.specs.Levels.{IsLone}
use Rattle.jls_search.specs.Search.{lists_of}
use Rattle.jls_search.proofs.levels.lone_paths.Goals as goal

pub returns-clause-lone : goal.returns-clause-lone
returns-clause-lone c =
    subst (λ (ceiling : Option ℕ). AllByRecursion (IsLone (IsSought ceiling) c.args.parts.now) (lists_of c.levels.lone.items))
    c.levels.invariant.ceiling c.levels.invariant.lone

pub returns-clause-some : goal.returns-clause-some
returns-clause-some c = inr (inr c.levels.invariant.some)
