-- Text with words before each of its lines, one byte more at a time.
use Rattle.std.proofs.Common.{◌≡◌, ℕ, true, false, List, [], ◌∷◌, ◌++◌, sym, ap, ◌∙◌}
use Rattle.std.specs.Prelude.{nat_eq}
use Rattle.std.proofs.lemmas.List.{append_assoc}
use Rattle.jls_splice_run.specs.Lines.{in_prefix}

pub line_begins : (words out rest text : List ℕ) (b : ℕ) → text ≡ b ∷ rest
    → ((out ++ words) ++ b ∷ []) ++ in_prefix words (nat_eq b 10) rest ≡ out ++ in_prefix words true text
line_begins words out rest text b is =
    append_assoc (out ++ words) (b ∷ []) (in_prefix words (nat_eq b 10) rest)
    ∙ append_assoc out words (b ∷ in_prefix words (nat_eq b 10) rest)
    ∙ ap (λ (t : List ℕ). out ++ in_prefix words true t) (sym is)

pub line_goes_on : (words out rest text : List ℕ) (b : ℕ) → text ≡ b ∷ rest
    → (out ++ b ∷ []) ++ in_prefix words (nat_eq b 10) rest ≡ out ++ in_prefix words false text
line_goes_on words out rest text b is =
    append_assoc out (b ∷ []) (in_prefix words (nat_eq b 10) rest) ∙ ap (λ (t : List ℕ). out ++ in_prefix words false t) (sym is)
