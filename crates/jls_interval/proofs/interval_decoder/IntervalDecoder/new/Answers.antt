use Rattle.std.proofs.Common.{◌≡◌, ◌<◌, ◌≤◌, ◌*◌, ◌^◌, ℕ, true, false, length, [], sym, ap, subst, ◌∙◌, arith}
use Rattle.std.specs.List.{AllByRecursion}
use Rattle.std.proofs.lemmas.Nat.{mul-le}
use Rattle.jls_context.specs.Variables.{Variables}
use Rattle.jls_bits.specs.Bits.{bits_read, is_whole}
use Rattle.jls_bits.proofs.DataBits.{whole_end}
use Rattle.jls_interval.specs.Decoding.{IsWorking, HaveWidth}
use Rattle.jls_interval.specs.declared.line_reader.OpenEvent.TheVariants.{NotBegun}
use Rattle.jls_interval.proofs.Decoding.{working_start}
use Rattle.jls_interval.proofs.interval_decoder.IntervalDecoder.new.Goals as goal

-- a decoder of no byte is in order
pub invariant_of-result-2 : goal.invariant_of-result-2
invariant_of-result-2 c =
    let p = c.args.params.now in let e : c.new.result ≡ [] = c.new.ensures in let coder = c.new-2.result in
    let w : ℕ = c.from.result in let n : ℕ = c.from-2.result in let m : ℕ = c.from-3.result in let count : ℕ = c.args.rows * m in
    let some : 0 < w = omega (arith, c.from.ensures, c.requires.width) in
    let least : 1 ≤ m = omega (arith, c.from-3.ensures, c.requires.components_at_least) in
    let any : 0 < count = (let l = mul-le 1 1 c.args.rows m c.requires.rows least in omega arith) in
    let same : m ≡ n = c.from-3.ensures ∙ sym c.from-2.ensures in
    let start : IsWorking p w n count (bits_read []) [] [] coder.cells coder.run_indices NotBegun =
    working_start p w n count some any coder.cells coder.run_indices c.new-2.ensures.cells c.new-2.ensures.run_indices in
    let lined : IsWorking p w n count (bits_read []) c.new-4.result c.new-3.result.items coder.cells coder.run_indices
    NotBegun = subst (λ z. IsWorking p w n count (bits_read []) z c.new-3.result.items coder.cells coder.run_indices NotBegun)
    (sym c.new-4.ensures) (subst (λ z. IsWorking p w n count (bits_read []) [] z coder.cells coder.run_indices NotBegun)
    (sym c.new-3.ensures.items) start) in
    let none : length c.new-4.result ≡ 0 = ap length c.new-4.ensures in
    let begun : length c.new-3.result.items ≡ 0 = ap length c.new-3.ensures.items in
    let wide : HaveWidth w c.new-4.result = subst (λ z. HaveWidth w z) (sym c.new-4.ensures) tt in
    let samples : w * n * c.args.rows ≤ 2 ^ 28 =
    subst (λ z. z * n * c.args.rows ≤ 2 ^ 28) (sym c.from.ensures)
    (subst (λ z. c.args.width * z * c.args.rows ≤ 2 ^ 28) (sym c.from-2.ensures) c.requires.samples) in
    record {
      in_range = c.maxval-maxval.ensures.ranges;
      width_at_least = some;
      are_bytes = subst (AllByRecursion (λ x. x < 256)) (sym e) tt;
      count_is = ap (λ z. c.args.rows * z) same;
      samples_at_most = samples;
      decoding = λ f. record {
        ended_is = λ o. (let a : false ≡ true = o in cc);
        whole = λ o. ap is_whole e ∙ whole_end 0;
        reading =
            λ o. record {
              parameters = ap (λ (v : Variables). v.parameters) c.new-2.ensures.cells;
              width_at_least = some;
              components_at_least =
                  omega (arith, c.from-2.ensures, c.requires.components_at_least);
              components_at_most =
                  omega (arith, c.from-2.ensures, c.requires.components_at_most);
              lines_at_most = omega arith;
              lines_paid = omega arith;
              lines_wide =
                  wide;
              line_at_most = omega arith;
              state_is =
                  subst (λ z. IsWorking p w n count (bits_read z) c.new-4.result c.new-3.result.items coder.cells
                  coder.run_indices
                  NotBegun) (sym e) lined;
            };
        lines_paid = omega arith;
        lines_at_most = omega arith;
        lines_wide = wide;
        line_at_most = omega arith;
      };
    }
