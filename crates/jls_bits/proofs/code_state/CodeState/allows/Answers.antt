use Rattle.std.proofs.Common.{◌≡◌, ◌+◌, ◌-◌, ◌*◌, ◌/◌, ◌%◌, ◌^◌, Decides, eqb, leb, sym, ap, subst, arith}
use Rattle.std.proofs.lemmas.Nat.{shl_whole}
use Rattle.jls_bits.specs.Golomb.{BeginsCodeOf}
use Rattle.jls_bits.specs.CodeState.{bits_fed, IsOpen}
use Rattle.jls_bits.proofs.CodesBegun.{zeros_decided, remainder_decided, escape_decided, short_decided}
use Rattle.jls_bits.proofs.code_state.CodeState.allows.Goals as goal

-- zeros alone: the quotient decides
pub returns-in-Zeros : goal.returns-in-Zeros
returns-in-Zeros c =
    let k = c.args.k in let g = c.args.g in let q = c.args.qbpp in let m = c.args.mapped in
    let o = subst (IsOpen k g q) c.in-Zeros.is c.requires.open in
    subst (λ s. Decides (leb c.in-Zeros.zeros (m / 2 ^ k)) (BeginsCodeOf k g q (bits_fed g q s) m)) (sym c.in-Zeros.is)
    (zeros_decided k g q c.requires.g.0 c.in-Zeros.zeros m o.0)

-- the first bits of a remainder: the number shifted decides
pub returns-in-Remainder : goal.returns-in-Remainder
returns-in-Remainder c =
    let k = c.args.k in let g = c.args.g in let q = c.args.qbpp in let m = c.args.mapped in
    let z = c.in-Remainder.quotient in let n = c.in-Remainder.count in let v = c.in-Remainder.value in
    let o = subst (IsOpen k g q) c.in-Remainder.is c.requires.open in
    let w : z * 2 ^ n % 4294967296 ≡ z * 2 ^ n = shl_whole z 6 n 32 (omega (arith, o, c.requires.g)) (omega (arith, o, c.requires.k)) in
    subst (λ s. Decides (eqb (m / 2 ^ (k - n)) (z * 2 ^ n % 4294967296 + v)) (BeginsCodeOf k g q (bits_fed g q s) m))
    (sym c.in-Remainder.is) (remainder_decided k g q c.requires.g.0 z n v m o.0 o.1 o.2 (z * 2 ^ n % 4294967296 + v) (ap (λ x. x + v) w))

-- an escape of a number without a short code: the number shifted decides
pub returns-then-escape-mapped : goal.returns-then-escape-mapped
returns-then-escape-mapped c =
    let k = c.args.k in let g = c.args.g in let q = c.args.qbpp in let m = c.args.mapped in
    let n = c.in-Escape.count in let v = c.in-Escape.value in
    let o = subst (IsOpen k g q) c.in-Escape.is c.requires.open in
    subst (λ s. Decides (eqb ((m - 1) / 2 ^ (q - n)) v) (BeginsCodeOf k g q (bits_fed g q s) m)) (sym c.in-Escape.is)
    (escape_decided k g q c.requires.g.0 n v m o.0 o.1 c.requires.mapped (omega arith))

-- an escape of a number that has a short code: never
pub returns-else-escape-mapped : goal.returns-else-escape-mapped
returns-else-escape-mapped c =
    let k = c.args.k in let g = c.args.g in let q = c.args.qbpp in let m = c.args.mapped in
    let n = c.in-Escape.count in let v = c.in-Escape.value in
    let o = subst (IsOpen k g q) c.in-Escape.is c.requires.open in
    subst (λ s. Decides (leb (g - q - 1) (m / 2 ^ k)) (BeginsCodeOf k g q (bits_fed g q s) m)) (sym c.in-Escape.is)
    (short_decided k g q c.requires.g.0 n v m o.0 o.1 c.requires.mapped (omega arith))
