use Rattle.std.proofs.Common.{◌≡◌, ◌<◌, true, false, ℕ, List, [], ◌∷◌, sym, ◌∙◌, subst, arith}
use Rattle.std.specs.List.{AllByRecursion}
use Rattle.jls_bits.specs.Bits.{bits_read, is_whole}
use Rattle.jls_interval.proofs.Finishing.{goes_on}
use Rattle.jls_pixel.specs.PixelReading.{IsReading}
use Rattle.jls_pixel.proofs.PixelLists.{all_append}
use Rattle.jls_pixel.proofs.pixel_decoder.PixelDecoder.push.Goals as goal

pub push-requires-in-Some : goal.push-requires-in-Some
push-requires-in-Some c =
    let i = c.self.inside in let h = c.self.invariant.decoding c.if-self.false in let bytes : List ℕ = i.unstuffer in
    let open_still : i.ended ≡ false =
    goes_on bytes (c.args.byte ∷ []) i.ended h.ended_is (subst (λ z. is_whole z ≡ true) c.push.ensures.pushed c.in-Some.ensures.whole) in
    (i.params, bits_read bytes, h.reading open_still)

pub invariant_of-self-in-Ok : goal.invariant_of-self-in-Ok
invariant_of-self-in-Ok c =
    let i = c.self.inside in let v = c.self.invariant in let h = v.decoding c.if-self.false in let bytes : List ℕ = i.unstuffer in
    let new = c.push-in-Some.new.self in
    let open_still : i.ended ≡ false =
    goes_on bytes (c.args.byte ∷ []) i.ended h.ended_is (subst (λ z. is_whole z ≡ true) c.push.ensures.pushed c.in-Some.ensures.whole) in
    let small : c.args.byte < 256 = omega (arith, c.ranges.byte.fits) in
    record {
      in_range = v.in_range;
      width_at_least = (let a = v.width_at_least in let b = c.push-in-Some.ensures.shape.width in omega arith);
      are_bytes = subst (AllByRecursion (λ x. x < 256)) (sym c.push.ensures.pushed)
          (all_append (λ x. x < 256) bytes (c.args.byte ∷ []) v.are_bytes (small, tt));
      decoding = λ f. record {
        ended_is = λ e. (let a : true ≡ false = sym e ∙ open_still in cc);
        whole = λ e. c.in-Some.ensures.whole;
        reading = λ e. subst (λ z. IsReading i.params z new) (sym c.in-Some.ensures.bits)
            (c.in-Ok.ensures.reading i.params (bits_read bytes) (h.reading open_still));
      };
    }
