use Rattle.std.proofs.Common.{◌≤◌, ◌*◌, arith}
use Rattle.jls_write.proofs.Sizes.{product_at_most}
use Rattle.jls_write.proofs.options.Options.samples_of_interval.Goals as goal

-- a row has few enough samples
pub overflow_mul-row : goal.overflow_mul-row
overflow_mul-row c =
    let row = product_at_most c.from.result c.from-2.result 65535 4
    (omega (arith, c.from.ensures, c.width.ensures.value, c.width.ensures.ranges.width_below))
    (omega (arith, c.from-2.ensures, c.components_of_scan.ensures.few)) in
    omega (arith, row)

-- an interval has few enough samples
pub overflow_mul-result : goal.overflow_mul-result
overflow_mul-result c =
    let row = product_at_most c.from.result c.from-2.result 65535 4
    (omega (arith, c.from.ensures, c.width.ensures.value, c.width.ensures.ranges.width_below))
    (omega (arith, c.from-2.ensures, c.components_of_scan.ensures.few)) in
    let rows : c.from-3.result ≤ 65535 = omega (arith, c.from-3.ensures, c.rows_of_interval.type_inv) in
    let all = product_at_most (c.from.result * c.from-2.result) c.from-3.result 262140 65535 row rows in
    omega (arith, all)
