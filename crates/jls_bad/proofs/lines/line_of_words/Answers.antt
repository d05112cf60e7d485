use Rattle.std.proofs.Common.{ℕ, List, map, arith, Bor}
use Rattle.std.proofs.lemmas.List.{length-map}
use Rattle.jls_bad.proofs.ListLines.{fault_by_length}
use Rattle.jls_bad.proofs.lines.line_of_words.Goals as goal

pub returns-in_default : goal.returns-in_default
returns-in_default c =
    let count = length-map c.args.words.now (λ (word : Bor (List ℕ)). word.now) in
    fault_by_length c.args.is_first (map (λ (word : Bor (List ℕ)). word.now) c.args.words.now) (λ e. omega (arith, count, e)) (λ e. omega (arith, count, e)) (λ e. omega (arith, count, e))

pub returns-in_default-2 : goal.returns-in_default-2
returns-in_default-2 c =
    let count = length-map c.args.words.now (λ (word : Bor (List ℕ)). word.now) in
    fault_by_length c.args.is_first (map (λ (word : Bor (List ℕ)). word.now) c.args.words.now) (λ e. omega (arith, count, e)) (λ e. omega (arith, count, e)) (λ e. omega (arith, count, e))
