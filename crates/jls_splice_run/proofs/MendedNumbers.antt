-- One mended file more, under the next number.
use Rattle.std.proofs.Common.{◌≡◌, ℕ, ◌+◌, List, [], ◌∷◌, ◌++◌, length, ap, ◌∙◌, arith}
use Rattle.jls_held.specs.MendedFiles.{MendedFile}
use Rattle.jls_splice_run.specs.Carrying.{numbered_from}
use Rattle.jls_splice_run.specs.Listing.{NamedFile, numbered}

-- one file more
pub file_more : (prefix : List ℕ) (n : ℕ) (files : List MendedFile) (last : MendedFile)
    → numbered_from prefix n (files ++ last ∷ [])
    ≡ numbered_from prefix n files ++ record { name = numbered prefix (n + length files); bytes = last.bytes } ∷ []
file_more prefix n [] last = ap (λ k. record { name = numbered prefix k; bytes = last.bytes } ∷ []) (omega arith)
file_more prefix n (f ∷ files) last =
    ap (λ (t : List NamedFile). record { name = numbered prefix n; bytes = f.bytes } ∷ t) (file_more prefix (n + 1) files last
    ∙ ap (λ k. numbered_from prefix (n + 1) files ++ record { name = numbered prefix k; bytes = last.bytes } ∷ []) (omega arith))
