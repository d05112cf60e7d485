-- One coding more, under the next number.
use Rattle.std.proofs.Common.{◌≡◌, ℕ, ◌+◌, List, [], ◌∷◌, ◌++◌, length, ap, sym, ◌∙◌, arith}
use Rattle.std.proofs.lemmas.List.{append-nil, append_assoc}
use Rattle.jls_held.specs.Judging.{EditedCopy}
use Rattle.jls_carried.specs.CodingLines.{coding_line, coding_lines_from}

-- one coding more
pub coding_more : (n : ℕ) (codings : List (List EditedCopy)) (last : List EditedCopy)
    → coding_lines_from n (codings ++ last ∷ []) ≡ coding_lines_from n codings ++ coding_line (n + length codings) last
coding_more n [] last = append-nil (coding_line n last) ∙ ap (λ k. coding_line k last) (omega arith)
coding_more n (c ∷ codings) last =
    ap (λ t. coding_line n c ++ t) (coding_more (n + 1) codings last)
    ∙ sym (append_assoc (coding_line n c) (coding_lines_from (n + 1) codings) (coding_line (n + 1 + length codings) last))
    ∙ ap (λ k. (coding_line n c ++ coding_lines_from (n + 1) codings) ++ coding_line k last) (omega arith)
