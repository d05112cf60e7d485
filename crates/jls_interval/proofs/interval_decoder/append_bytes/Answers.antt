use Rattle.std.proofs.Common.{◌≡◌, ℕ, ◌<◌, true, List, [], ◌∷◌, ◌++◌, take, get_or, sym, ap, subst, ◌∙◌, arith, append_assoc}
use Rattle.std.proofs.lemmas.List.{append-nil, take_more, take_all}
use Rattle.std.specs.List.{AllByRecursion}
use Rattle.jls_bits.specs.Bits.{is_whole}
use Rattle.jls_bits.proofs.Appending.{whole_prefix, bytes_append}
use Rattle.jls_values.proofs.Lists.{all_bytes}
use Rattle.jls_interval.proofs.interval_decoder.append_bytes.Goals as goal

-- before the first byte nothing is appended
pub loop-byte-init : goal.loop-byte-init
loop-byte-init c = record {
  pushed = sym (append-nil c.args.unstuffer.now);
  whole = λ h. absurd (omega arith);
  bits = λ given w e. e;
  few = omega arith;
}

-- the bits of one byte more are in the chunk
pub loop-byte-preserved : goal.loop-byte-preserved
loop-byte-preserved c =
    let u : List ℕ = c.args.unstuffer.now in let now : List ℕ = c.loop-byte.unstuffer in let xs : List ℕ = c.args.bytes.now in
    let i : ℕ = c.loop-byte.byte-index in let b : ℕ = get_or xs i 0 in let v = c.loop-byte.invariant in
    let e = c.append_byte-whole.ensures in
    record {
      pushed = e.pushed ∙ ap (λ z. z ++ b ∷ []) v.pushed ∙ append_assoc u (take i xs) (b ∷ [])
          ∙ ap (λ z. u ++ z) (sym (take_more xs i 0 c.loop-byte-test.true));
      whole = λ h. e.whole;
      bits = λ given w f. e.bits given w (v.bits given (whole_prefix 0 now (b ∷ []) (subst (λ z. is_whole z ≡ true) e.pushed w)).0 f);
      few = (let a = v.few in let n = e.few in omega arith);
    }

pub returns-clause-pushed : goal.returns-clause-pushed
returns-clause-pushed c =
    c.loop-byte.invariant.pushed ∙ ap (λ z. c.args.unstuffer.now ++ z)
    (take_all c.loop-byte.byte-index c.args.bytes.now c.loop-byte-test.false)

pub returns-clause-whole : goal.returns-clause-whole
returns-clause-whole c = c.loop-byte.invariant.whole (let t = c.loop-byte-test.false in let s = c.requires.some in omega arith)

pub returns-clause-are_bytes : goal.returns-clause-are_bytes
returns-clause-are_bytes c = λ h.
    subst (AllByRecursion (λ x. x < 256)) (sym (returns-clause-pushed c))
    (bytes_append c.args.unstuffer.now c.args.bytes.now h (all_bytes c.args.bytes.now (λ k. omega (arith, c.type_inv.bytes k))))
