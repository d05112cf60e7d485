use Rattle.std.proofs.Common.{◌≡◌, ◌<◌, ℕ, Bool, List, true, false, [], sym, ap, subst, ◌∙◌, arith}
use Rattle.std.specs.List.{AllByRecursion}
use Rattle.jls_context.specs.Variables.{Variables}
use Rattle.jls_bits.specs.Bits.{bits_read, is_whole}
use Rattle.jls_bits.proofs.DataBits.{data_end, whole_end}
use Rattle.jls_pixel.proofs.PixelReading.{state_at_start}
use Rattle.jls_pixel.proofs.pixel_decoder.PixelDecoder.new.Goals as goal

pub invariant_of-result : goal.invariant_of-result
invariant_of-result c =
    let p = c.args.params.now in let bytes : List ℕ = c.new.result in let e : bytes ≡ [] = c.new.ensures in
    let cells : Variables = c.new-2.result.cells in let rows : List (List (List ℕ)) = c.new-3.result in
    let pending : List Bool = c.new-5.result in
    let some : 0 < c.args.width = (let h = c.requires.width in omega arith) in
    record {
      in_range = c.maxval-maxval.ensures.ranges;
      width_at_least = some;
      are_bytes = subst (AllByRecursion (λ x. x < 256)) (sym e) tt;
      decoding = λ f. record {
        ended_is = λ o. (let a : false ≡ true = o in cc);
        whole = λ o. ap is_whole e ∙ whole_end 0;
        reading = λ o. record {
          shape = record {
            parameters = ap (λ (v : Variables). v.parameters) c.new-2.ensures;
            width_at_least = some;
            width_below = omega (arith, c.ranges.width.fits);
            components_at_most = c.requires.components;
          };
          state_is = state_at_start p c.args.width c.args.components c.args.rows some cells c.new-2.ensures c.first.result
              c.first.ensures.none c.first.ensures.some (bits_read bytes) rows c.new-4.result.items pending
              (ap bits_read e ∙ data_end 0) c.new-3.ensures c.new-4.ensures.items c.new-5.ensures;
        };
      };
    }
