use Rattle.std.proofs.Common.{◌≡◌, take}
use Rattle.std.specs.List.{flat_map}
use Rattle.jls_c.proofs.outputs.bytes_of.Given as goal

abbrev pub invariant-loop-output : goal.invariant-loop-output
invariant-loop-output l = l.bytes.items ≡ flat_map (λ o. o.bytes.items) (take l.output-index l.mended.outputs.items)
