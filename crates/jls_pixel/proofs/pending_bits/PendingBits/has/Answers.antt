use Rattle.std.proofs.Common.{List, Bool, length, ap, arith, length-append}
use Rattle.std.proofs.lemmas.Bool.{leb-true}
use Rattle.jls_pixel.specs.PendingBits.{bits_of_all}
use Rattle.jls_pixel.proofs.PendingSteps.{seven_each}
use Rattle.jls_pixel.proofs.pending_bits.PendingBits.has.Goals as goal

pub returns : goal.returns
returns c = λ h.
    let i = c.self.inside in let first : List Bool = i.first in let le = leb-true c.args.count c.saturating_add.result h in
    let a = c.len.ensures in let b = c.from.ensures in let d = c.len-2.ensures in let m = c.saturating_mul.ensures in
    let s = c.saturating_add.ensures in let l = i.after.ok.0 in let each = seven_each i.after.items in
    let all = length-append first (bits_of_all i.after.items) in let v = ap length c.self.view_is in
    omega (arith, le, a, b, d, m, s, l, each, all, v)
