use Rattle.std.proofs.Common.{◌≡◌, true, sym, subst}
use Rattle.std.specs.Prelude.{IfSome}
use Rattle.jls_search.specs.Search.{IsFedEnough}
use Rattle.jls_search.proofs.early.is_enough.Goals as goal

pub returns-in-Dead : goal.returns-in-Dead
returns-in-Dead c = subst (λ u. c.is_broken.result ≡ true → IfSome c.args.reader.now (IsFedEnough u)) (sym c.in-Dead.is) c.is_broken.ensures

pub returns-in-Past : goal.returns-in-Past
returns-in-Past c = subst (λ u. c.is_past.result ≡ true → IfSome c.args.reader.now (IsFedEnough u)) (sym c.in-Past.is) c.is_past.ensures

pub returns-in-End : goal.returns-in-End
returns-in-End c = λ e. absurd cc
