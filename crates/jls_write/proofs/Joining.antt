-- Bytes that are joined part by part.
use Rattle.std.proofs.Common.{◌≡◌, ℕ, ◌+◌, List, [], ◌++◌, ap, sym, ◌∙◌}
use Rattle.std.specs.List.{flat_map, range_with_len}
use Rattle.std.proofs.lemmas.List.{append-nil, append_assoc}
use Rattle.jls_values.proofs.Lists.{flat_map_more, appended}

-- a part more
pub joined_more : (f : ℕ → List ℕ) (k : ℕ) (start now new : List ℕ) → now ≡ start ++ flat_map f (range_with_len 0 k) → new ≡ now ++ f k
    → new ≡ start ++ flat_map f (range_with_len 0 (k + 1))
joined_more f k start now new so_far more =
    appended start (flat_map f (range_with_len 0 k)) (f k) now new so_far more ∙ ap (λ t. start ++ t) (sym (flat_map_more f k))

-- the end after the back
pub end_joined : (front back ended none header first scans end : List ℕ) → front ++ back ≡ (header ++ none) ++ scans → none ≡ [] → header
    ≡ first
    → ended ≡ back ++ end → front ++ ended ≡ first ++ (scans ++ end)
end_joined front back ended none header first scans end both empty header_is ended_is =
    ap (λ t. front ++ t) ended_is ∙ (sym (append_assoc front back end) ∙ (ap (λ t. t ++ end)
    (both ∙ ap (λ t. t ++ scans) (ap (λ t. header ++ t) empty ∙ (append-nil header ∙ header_is))) ∙ append_assoc first scans end))
