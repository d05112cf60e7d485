-- Bytes that are given to a decoder one after another.
use Rattle.std.proofs.Common.{◌≡◌, ℕ, List, [], ◌∷◌, ◌++◌, refl, sym, ap, ◌∙◌, append_assoc}
use Rattle.std.specs.Prelude.{Option, Some, None}
use Rattle.std.specs.Option.{option_map}
use Rattle.std.proofs.lemmas.List.{append-nil}
use Rattle.jls_pixel.specs.PixelBytes.{PixelBytes}

-- the decoder after these bytes more
abbrev pub after : PixelBytes → List ℕ → PixelBytes
after d more = record d { bytes = option_map (λ bytes. bytes ++ more) d.bytes }

pub after_none : (d : PixelBytes) → d ≡ after d []
after_none d = ap (λ o. record d { bytes = o }) (same d.bytes)
  where
    same : (o : Option (List ℕ)) → o ≡ option_map (λ bytes. bytes ++ []) o
    same None = refl
    same (Some bytes) = ap (λ z. Some z) (sym (append-nil bytes))

pub after_more : (d e f : PixelBytes) (xs ys : List ℕ) (b : ℕ) → e ≡ after d xs → f ≡ after e (b ∷ []) → ys ≡ xs ++ b ∷ []
    → f ≡ after d ys
after_more d e f xs ys b so_far next all =
    next ∙ ap (λ (z : PixelBytes). after z (b ∷ [])) so_far ∙ ap (λ o. record d { bytes = o }) (joined d.bytes) ∙ ap (after d) (sym all)
  where
    joined : (o : Option (List ℕ)) → option_map (λ bytes. bytes ++ b ∷ []) (option_map (λ bytes. bytes ++ xs) o)
        ≡ option_map (λ bytes. bytes ++ (xs ++ b ∷ [])) o
    joined None = refl
    joined (Some bytes) = ap (λ z. Some z) (append_assoc bytes xs (b ∷ []))
