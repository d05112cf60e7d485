use Rattle.std.proofs.Common.{List, ℕ, ap, refl, vec_len, ◌<◌}
use Rattle.jls_memory.specs.Held.{output_file}
use Rattle.jls_memory.proofs.Lengthening.{is_longer, is_same}
use Rattle.jls_memory.proofs.files.lengthen.Goals as goal

pub returns-in-Ok-clause-longer : goal.returns-in-Ok-clause-longer
returns-in-Ok-clause-longer c =
    let some : 0 < vec_len c.args.outputs.now = c.in-Some.ensures.variant.0 refl in
    is_longer c.args.outputs.now.items (vec_len c.args.outputs.now) c.args.outputs.now.ok.0 some c.in-Some.output.now c.in-Some.ensures.value
    (record { name = c.in-Some.output.now.name; bytes = c.extend_from_slice.new.self }) c.args.bytes.now
    (ap (λ (b : List ℕ). record { name = (output_file c.in-Some.output.now).name; bytes = b }) c.in-Ok.ensures.items)

pub returns-in-Err-clause-same : goal.returns-in-Err-clause-same
returns-in-Err-clause-same c =
    let some : 0 < vec_len c.args.outputs.now = c.in-Some.ensures.variant.0 refl in
    is_same c.args.outputs.now.items (vec_len c.args.outputs.now) c.args.outputs.now.ok.0 some c.in-Some.output.now c.in-Some.ensures.value
    (record { name = c.in-Some.output.now.name; bytes = c.extend_from_slice.new.self })
    (ap (λ (b : List ℕ). record { name = (output_file c.in-Some.output.now).name; bytes = b }) c.in-Err.ensures.items)
