use Rattle.std.proofs.Common.{◌≡◌, ℕ, w32, to_z, of_z, arith}
use Rattle.std.specs.Prelude.{min, max, pos, ◌+ℤ◌, ◌-ℤ◌}
use Rattle.std.specs.Int.{int_max, int_min}
use Rattle.std.proofs.lemmas.Int.{ints}
use Rattle.jls_context.proofs.Predictions.{median_of}
use Rattle.jls_context.proofs.prediction.edge_detecting_predictor.Goals as goal

-- the prediction, by whether Rc is above, below or between Ra and Rb
pub returns : goal.returns
returns c =
    let a : ℕ = c.args.ra in let b : ℕ = c.args.rb in let d : ℕ = c.args.rc in
    let of_a : to_z w32 (of_z w32 c.from.result) ≡ pos a = omega (arith, ints, c.from.ensures) in
    let of_b : to_z w32 (of_z w32 c.from-2.result) ≡ pos b = omega (arith, ints, c.from-2.ensures) in
    let of_d : to_z w32 (of_z w32 c.from-3.result) ≡ pos d = omega (arith, ints, c.from-3.ensures) in
    let sum : to_z w32 (of_z w32 (pos a +ℤ pos b)) ≡ pos a +ℤ pos b = omega (arith, ints, c.ranges.ra.fits, c.ranges.rb.fits) in
    let plane : to_z w32 (of_z w32 (pos a +ℤ pos b -ℤ pos d)) ≡ pos a +ℤ pos b -ℤ pos d =
    omega (arith, ints, c.ranges.ra.fits, c.ranges.rb.fits, c.ranges.rc.fits) in
    let least : to_z w32 (of_z w32 c.from-least.result) ≡ pos (min a b) = omega (arith, ints, c.from-least.ensures, c.min.ensures) in
    let most : to_z w32 (of_z w32 c.from-most.result) ≡ pos (max a b) = omega (arith, ints, c.from-most.ensures, c.max.ensures) in
    let m : c.max-2.result ≡ int_max (pos a +ℤ pos b -ℤ pos d) (pos (min a b)) =
    (rw (of_a, of_b, of_d, sum, plane, least) at c.max-2.ensures.value) in
    let same_m : to_z w32 (of_z w32 c.max-2.result) ≡ c.max-2.result = omega (arith, ints) in
    let r : c.min-2.result ≡ int_min c.max-2.result (pos (max a b)) = (rw (same_m, most) at c.min-2.ensures.value) in
    let same_r : to_z w32 (of_z w32 c.min-2.result) ≡ c.min-2.result = omega (arith, ints) in
    rw same_r (median_of a b d c.max-2.result c.min-2.result m r)
