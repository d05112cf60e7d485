use Rattle.std.proofs.Common.{ℕ, ◌<◌}
use Rattle.jls_pixel.specs.OpenEvents.{IsNot}
use Rattle.jls_pixel.specs.OpenSamples.{IsNotCut}
use Rattle.jls_pixel.proofs.cut_sample.some_sample_begins.Given as goal

-- the smaller samples were tried
abbrev pub invariant-loop-sample : goal.invariant-loop-sample
invariant-loop-sample l = (s : ℕ) → s < l.sample → IsNot l.except s → IsNotCut l.coder.cells l.begun s
