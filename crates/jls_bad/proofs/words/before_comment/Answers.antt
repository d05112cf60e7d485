use Rattle.std.proofs.Common.{◌==◌, length, take, sym, ap, arith}
use Rattle.std.proofs.lemmas.List.{take_all}
use Rattle.std.proofs.lemmas.List.Sums.{position_or_len_is}
use Rattle.std.proofs.lemmas.Bool.Decides.{nat_tests}
use Rattle.jls_bad.proofs.words.before_comment.Goals as goal

pub returns-then-byte-eq35 : goal.returns-then-byte-eq35
returns-then-byte-eq35 c =
    let line = c.args.line.now in
    ap (λ n. take n line) (sym (position_or_len_is (λ byte. byte == 35) line c.loop-at.at 0 (omega arith) c.loop-at.invariant (λ h. grind (arith, nat_tests))))

pub returns : goal.returns
returns c =
    let line = c.args.line.now in
    sym (take_all _ line (let e = position_or_len_is (λ byte. byte == 35) line (length line) 0 (omega arith) (λ k h. c.loop-at.invariant k (omega (arith, h))) (λ h. absurd (omega (arith, h))) in omega (arith, e)))
