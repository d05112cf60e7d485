use Rattle.std.proofs.Common.{arith}
use Rattle.jls_search.proofs.BorderOffsets.{border_fits}
use Rattle.jls_search.proofs.offsets.border_offset.Goals as goal

pub overflow_add-result : goal.overflow_add-result
overflow_add-result c =
    let m = border_fits c.args.parts.now c.args.path.now c.args.border 9223372036854775807 c.requires.path c.requires.within
    c.requires.border
    c.requires.few in
    omega (arith, m, c.prefix_length.ensures)
