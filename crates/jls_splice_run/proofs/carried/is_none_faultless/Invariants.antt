use Rattle.std.proofs.Common.{◌≡◌, Bool, false, take}
use Rattle.std.specs.List.{AllByRecursion}
use Rattle.jls_splice_run.proofs.carried.is_none_faultless.Given as goal

abbrev pub invariant-loop-verdict : goal.invariant-loop-verdict
invariant-loop-verdict l = AllByRecursion (λ (v : Bool). v ≡ false) (take l.verdict-index l.verdicts)
