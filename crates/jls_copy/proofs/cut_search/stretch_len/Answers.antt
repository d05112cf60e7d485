use Rattle.std.proofs.Common.{◌≡◌, ◌-◌, ℕ, get_or, subst, arith}
use Rattle.jls_copy.proofs.StretchEnds.{stretch_of, stretch_before}
use Rattle.jls_copy.proofs.cut_search.stretch_len.Goals as goal
use Rattle.jls_copy.proofs.cut_search.stretch_len.Goals.{else-end-gt0-via-then-end-gt0+else-bytes-end, else-end-gt0-via-else-end-gt0}

pub returns-then-bytes-end-clause-stretch : goal.returns-then-bytes-end-clause-stretch
returns-then-bytes-end-clause-stretch c =
    stretch_before c.args.bytes.now c.uncut_len-end.result c.uncut_len-end.ensures.uncut c.uncut_len-end.ensures.within c.if-end-gt0.true
    c.if-bytes-end.true

-- the bytes before the cut are a stretch
pub returns-else-end-gt0-clause-stretch : goal.returns-else-end-gt0-clause-stretch
returns-else-end-gt0-clause-stretch c =
    stretch_of c.args.bytes.now c.uncut_len-end.result c.uncut_len-end.ensures.uncut c.uncut_len-end.ensures.within
    (λ some. elim c.else-end-gt0.branch [
      | else-end-gt0-via-then-end-gt0+else-bytes-end w ↦ w.if-bytes-end.false
      | else-end-gt0-via-else-end-gt0 w ↦ absurd (omega (arith, some, w.if-end-gt0.false))
    ])

pub returns-then-bytes-end-clause-ff : goal.returns-then-bytes-end-clause-ff
returns-then-bytes-end-clause-ff c = λ none some.
    let zero : c.uncut_len-end.result - 1 ≡ 0 = omega arith in
    subst (λ (k : ℕ). get_or c.args.bytes.now k 0 ≡ 0xFF) zero c.if-bytes-end.true

pub returns-else-end-gt0-clause-ff : goal.returns-else-end-gt0-clause-ff
returns-else-end-gt0-clause-ff c = λ none some.
    let n : ℕ = c.uncut_len-end.result in
    subst (λ (k : ℕ). get_or c.args.bytes.now k 0 ≡ 0xFF) none (c.uncut_len-end.ensures.cut (omega arith)).is_ff
