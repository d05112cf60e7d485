use Rattle.std.proofs.Common.{List, ℕ, Option, Some, refl, sym, subst}
use Rattle.jls_search.specs.Search.{Keeps}
use Rattle.jls_search.proofs.kept.keep.Goals as goal

pub returns-in_ok-kept_reader : goal.returns-in_ok-kept_reader
returns-in_ok-kept_reader c =
    let k = c.in_ok-kept_reader.field-0 in
    let is = c.in_ok-kept_reader.ensures in
    subst (λ (reader : Option (Option (List ℕ))). Keeps c.args.kept.now reader c.args.path.now (Some k)) (sym c.in-Some.is)
    (k, refl, is.0, is.1)
