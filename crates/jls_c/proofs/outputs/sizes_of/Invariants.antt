use Rattle.std.proofs.Common.{◌≡◌, length, map, take}
use Rattle.jls_c.proofs.outputs.sizes_of.Given as goal

abbrev pub invariant-loop-output : goal.invariant-loop-output
invariant-loop-output l = l.sizes.items ≡ map (λ o. length o.bytes.items) (take l.output-index l.mended.outputs.items)
