use Rattle.std.proofs.Common.{◌≡◌, false, get_or, refl, arith}
use Rattle.jls_bits.specs.Bits.{ends_data}
use Rattle.jls_bits.proofs.DataBits.{whole_end}
use Rattle.jls_bits.proofs.Unstuffing.{plain_goes}
use Rattle.jls_held.proofs.WholeRows.{byte_more, below_markers}
use Rattle.jls_held.proofs.code_ends.data_length.Goals as goal
use Rattle.jls_held.proofs.code_ends.data_length.Goals.{else-before-via-then-before+else-byte-ge128, else-before-via-else-before}

pub loop-place-init : goal.loop-place-init
loop-place-init c = record { whole = whole_end 0; before_is = refl }

-- a byte that doesn't end the data is one more
pub loop-place-preserved : goal.loop-place-preserved
loop-place-preserved c =
    let l = c.loop-place in let x = get_or c.args.bytes.now l.place 0 in
    let goes : ends_data l.before x ≡ false =
    elim c.else-before.branch [
      | else-before-via-then-before+else-byte-ge128 w ↦ below_markers l.before x (let t = w.if-byte-ge128.false in omega (arith, t))
      | else-before-via-else-before w ↦ plain_goes l.before x (let t = w.if-before.false in (λ e. omega (arith, e, t)))
    ] in
    let r = byte_more c.args.bytes.now l.place l.before x (let t = c.loop-place-test.true in omega (arith, t)) refl l.invariant.before_is
    l.invariant.whole goes in
    record { whole = r.0; before_is = r.1 }
