-- Readers that are kept, and fed on.
use Rattle.std.proofs.Common.{◌≡◌, ℕ, suc, ◌+◌, ◌<◌, ◌≤◌, List, [], ◌++◌, length, take, get_or, Option, Some, None, sym, ap, ◌∙◌, subst}
use Rattle.std.proofs.Common.{arith, length-append, append_assoc, zero, refl, drop, ◌∷◌}
use Rattle.std.specs.Prelude.{IfSome}
use Rattle.jls_copy.specs.ReadCopy.{after}
use Rattle.jls_diff.specs.Parts.{Part, Same, way}
use Rattle.jls_search.specs.Choices.{IsPath, prefix_of}
use Rattle.jls_search.specs.Search.{IsKeptReader, Keeps}
use Rattle.jls_search.specs.declared.kept.KeptReader.{KeptReader}
use Rattle.jls_search.proofs.Prefixes.{prefix_more, prefix_at_most}

-- what the first choices make, and what the others make of the other parts
pub prefix_and_rest : (ps : List Part) (cs : List ℕ) (n : ℕ) → IsPath ps cs → prefix_of ps cs ≡ prefix_of ps (take n cs)
    ++ prefix_of (drop n ps) (drop n cs)
prefix_and_rest ps cs zero h = refl
prefix_and_rest ps [] (suc n) h = refl
prefix_and_rest [] (c ∷ cs) (suc n) h = absurd h
prefix_and_rest (p ∷ ps) (c ∷ cs) (suc n) h =
    ap (λ z. way c p ++ z) (prefix_and_rest ps cs n h.1)
    ∙ sym (append_assoc (way c p) (prefix_of ps (take n cs)) (prefix_of (drop n ps) (drop n cs)))

-- a reader that was fed what the first choices make, and then what one choice more takes
module _ (ps : List Part) (path : List ℕ) (i : ℕ) (is : IsPath ps path) (l : i < length path) (reader : Option (List ℕ)) (bytes : List ℕ)
  where
    pub room_for_one : (most : ℕ) → bytes ≡ way (get_or path i 0) (get_or ps i (Same [])) → reader ≡ Some (prefix_of ps (take i path))
        → length (prefix_of ps path) ≤ most → IfSome reader (λ before. length before + length bytes ≤ most)
    room_for_one most here fed few =
        let e : i + 1 ≡ suc i = omega arith in
        let more = ap length (prefix_more ps path i is l)
        ∙ length-append (prefix_of ps (take i path)) (way (get_or path i 0) (get_or ps i (Same []))) in
        let size = ap length here in
        let within = prefix_at_most ps path (suc i) is in
        subst (λ o. IfSome o (λ before. length before + length bytes ≤ most)) (sym fed) (omega (arith, more, size, within, few))

    pub one_fed_on : bytes ≡ way (get_or path i 0) (get_or ps i (Same [])) → reader ≡ Some (prefix_of ps (take i path))
        → after reader bytes ≡ Some (prefix_of ps (take (i + 1) path))
    one_fed_on here fed =
        let e : i + 1 ≡ suc i = omega arith in
        rw e (ap (λ o. after o bytes) fed ∙ ap (λ z. Some (prefix_of ps (take i path) ++ z)) here
        ∙ ap Some (sym (prefix_more ps path i is l)))

-- what is kept then
pub still_kept : (ps : List Part) (old new : Option KeptReader) (reader : Option (Option (List ℕ))) (path : List ℕ)
    → IfSome old (IsKeptReader ps)
    → IfSome reader (λ fed. fed ≡ Some (prefix_of ps path)) → Keeps old reader path new → IfSome new (IsKeptReader ps)
still_kept ps old new None path h fed keeps = subst (λ o. IfSome o (IsKeptReader ps)) (sym keeps) h
still_kept ps old new (Some reader) path h fed (k, e, r, choices) =
    subst (λ o. IfSome o (IsKeptReader ps)) (sym e) (r ∙ fed ∙ ap (λ p. Some (prefix_of ps p)) (sym choices))
