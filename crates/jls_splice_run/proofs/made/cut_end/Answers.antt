use Rattle.std.proofs.Common.{ℕ, Vec, Global, Option, subst, arith}
use Rattle.std.specs.Prelude.{IfSome}
use Rattle.jls_search.specs.Choices.{IsPath}
use Rattle.jls_search.proofs.Paths.{path_len}
use Rattle.jls_splice_run.proofs.made.cut_end.Goals as goal

pub offset_at-requires-clause-within : goal.offset_at-requires-clause-within
offset_at-requires-clause-within c =
    let parts = c.args.found.now.splices.parts in
    let path = c.in-Some.path in
    let is : IsPath parts path.items =
    subst (λ (o : Option (Vec ℕ Global)). IfSome o (λ p. IsPath parts p.items)) c.in-Some.is c.requires.path in
    let within = path_len parts path.items is in
    let held = path.ok.0 in
    omega (arith, within, held, c.len.ensures)
