use Rattle.std.proofs.Common.{◌<◌, ◌∙◌, sym, ap, subst, arith}
use Rattle.std.specs.Char.{digit_value}
use Rattle.jls_bad.proofs.DigitLoops.{none_by_product, none_by_sum, value_more, digits_more, some_at_end, positive_by_test}
use Rattle.jls_bad.proofs.numbers.digits_in.Goals as goal

pub returns-in_err-checked_mul : goal.returns-in_err-checked_mul
returns-in_err-checked_mul c =
    c.from_residual-in_err-checked_mul.ensures
    ∙ sym (none_by_product c.args.base c.args.digits.now c.loop-byte.byte-index c.loop-byte.value c.from-in-loop-byte.result (omega arith) (omega arith) c.loop-byte.invariant.value (cc) c.in_err-checked_mul.ensures)

pub returns-in_err-value : goal.returns-in_err-value
returns-in_err-value c =
    c.from_residual-in_err-value.ensures
    ∙ sym (none_by_sum c.args.base c.args.digits.now c.loop-byte.byte-index c.loop-byte.value c.from-in-loop-byte.result c.in_ok-checked_mul.field-0 c.from-in-loop-byte-2.result (omega arith) (omega arith) c.loop-byte.invariant.value (cc) c.in_ok-checked_mul.ensures.1 (c.from-in-loop-byte-2.ensures ∙ (c.in_ok-digit.ensures.value.1 ∙ ap digit_value c.from.ensures)) c.in_err-value.ensures)

pub loop-byte-preserved : goal.loop-byte-preserved
loop-byte-preserved c = record {
  value = value_more c.args.base c.args.digits.now c.loop-byte.byte-index c.loop-byte.value c.from-in-loop-byte.result c.in_ok-checked_mul.field-0 c.from-in-loop-byte-2.result c.in_ok-value.value (omega arith) c.loop-byte.invariant.value (cc) c.in_ok-checked_mul.ensures.1 (c.from-in-loop-byte-2.ensures ∙ (c.in_ok-digit.ensures.value.1 ∙ ap digit_value c.from.ensures)) c.in_ok-value.ensures.1;
  fits = omega (arith, c.in_ok-value.ensures);
  digits = digits_more c.args.base c.args.digits.now c.loop-byte.byte-index (omega arith) c.loop-byte.invariant.digits (subst (λ value. value < c.args.base) (ap digit_value c.from.ensures) c.in_ok-digit.ensures.value.0);
}

pub returns : goal.returns
returns c = some_at_end c.args.base c.args.digits.now c.loop-byte.byte-index c.loop-byte.value (positive_by_test _ c.is_empty.result c.is_empty.ensures c.if-is_empty.false) (omega arith) c.loop-byte.invariant.value c.loop-byte.invariant.digits c.loop-byte.invariant.fits
