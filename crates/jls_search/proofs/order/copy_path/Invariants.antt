use Rattle.std.proofs.Common.{◌≡◌, length}
use Rattle.jls_search.specs.Choices.{IsPath}
use Rattle.jls_search.proofs.order.copy_path.Given as goal

abbrev pub invariant-loop-place : goal.invariant-loop-place
invariant-loop-place l = IsPath l.parts l.path.items × (length l.path.items ≡ l.place)
