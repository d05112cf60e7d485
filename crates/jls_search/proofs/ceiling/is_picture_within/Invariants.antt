use Rattle.std.proofs.Common.{◌<◌, ℕ}
use Rattle.jls_search.specs.Faultless.{IsComponentWithin}
use Rattle.jls_search.proofs.ceiling.is_picture_within.Given as goal

abbrev pub invariant-loop-component : goal.invariant-loop-component
invariant-loop-component l = (component : ℕ) → component < l.component → IsComponentWithin l.ceiling l.partial component
