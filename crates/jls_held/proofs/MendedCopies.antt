-- One edit more of a copy: what is put, and what the edits left make of the rest.
use Rattle.std.proofs.Common.{◌≡◌, ℕ, ◌+◌, ◌-◌, ◌<◌, ◌≤◌, Bool, true, false, List, [], ◌∷◌, ◌++◌, length, drop, take, get_or, replicate}
use Rattle.std.proofs.Common.{append_assoc, map, sym, ap, ◌∙◌, arith}
use Rattle.std.proofs.lemmas.List.{drop-drop, drop_more}
use Rattle.jls_held.specs.Edits.{Edit, AreEdits, edited}

-- edits end where they may
pub within : (at end : ℕ) (edits : List Edit) → AreEdits at end edits → at ≤ end
within at end [] a = a
within at end (e ∷ edits) (low, rest) = let r = within (e.offset + e.count) end edits rest in omega (arith, low, r)

-- what is left of a list from one of its elements on, by a function of each
pub left_more : {X Y : Type 0} (f : X → Y) (xs : List X) (i : ℕ) (x : X) → i < length xs → x ≡ get_or xs i x
    → map f (drop i xs) ≡ f x ∷ map f (drop (i + 1) xs)
left_more f xs i x inside is = ap (map f) (drop_more xs i x inside) ∙ ap (λ y. f y ∷ map f (drop (i + 1) xs)) (sym is)

-- behind an edit the copy goes on after the bytes that it replaces
rest_is : (at : ℕ) (copy : List ℕ) (e : Edit) → at ≤ e.offset
    → drop (e.offset - at + e.count) (drop at copy) ≡ drop (e.offset + e.count) copy
rest_is at copy e low =
    let sum : at + (e.offset - at + e.count) ≡ e.offset + e.count = omega (arith, low) in
    drop-drop (e.offset - at + e.count) at copy ∙ ap (λ n. drop n copy) sum

-- three parts, grouped anew
parts : {X : Type 0} (out own fresh rest one two : List X) → one ≡ out ++ own → two ≡ one ++ fresh
    → two ++ rest ≡ out ++ (own ++ (fresh ++ rest))
parts out own fresh rest one two p q =
    ap (λ z. z ++ rest) (q ∙ ap (λ z. z ++ fresh) p) ∙ append_assoc (out ++ own) fresh rest ∙ append_assoc out own (fresh ++ rest)

-- one edit more: the bytes that are put, with what the edits left make, are the whole
pub bytes_put : (at : ℕ) (copy : List ℕ) (e : Edit) (edits : List Edit) → at ≤ e.offset → (out one two total fresh : List ℕ)
    → one ≡ out ++ take (e.offset - at) (drop at copy) → two ≡ one ++ fresh → fresh ≡ e.bytes
    → out ++ (edited at (drop at copy) (e ∷ edits)).bytes ≡ total
    → two ++ (edited (e.offset + e.count) (drop (e.offset + e.count) copy) edits).bytes ≡ total
bytes_put at copy e edits low out one two total fresh p q is all =
    let own = take (e.offset - at) (drop at copy) in
    parts out own e.bytes _ one two p (q ∙ ap (λ xs. one ++ xs) is)
    ∙ ap (λ xs. out ++ (own ++ (e.bytes ++ (edited (e.offset + e.count) xs edits).bytes))) (sym (rest_is at copy e low)) ∙ all

-- one edit more: the marks that are put, with what the edits left make, are the whole
pub held_put : (at : ℕ) (copy : List ℕ) (e : Edit) (edits : List Edit) → at ≤ e.offset → (out one two total : List Bool) (fresh : List ℕ)
    → one ≡ out ++ replicate (length (take (e.offset - at) (drop at copy))) true → two ≡ one ++ replicate (length fresh) false → fresh ≡ e.bytes
    → out ++ (edited at (drop at copy) (e ∷ edits)).held ≡ total
    → two ++ (edited (e.offset + e.count) (drop (e.offset + e.count) copy) edits).held ≡ total
held_put at copy e edits low out one two total fresh p q is all =
    let own = replicate (length (take (e.offset - at) (drop at copy))) true in let lost = replicate (length e.bytes) false in
    parts out own lost _ one two p (q ∙ ap (λ xs. one ++ replicate (length xs) false) is)
    ∙ ap (λ xs. out ++ (own ++ (lost ++ (edited (e.offset + e.count) xs edits).held))) (sym (rest_is at copy e low)) ∙ all
