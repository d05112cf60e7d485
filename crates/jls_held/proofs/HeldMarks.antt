-- Which bytes two copies have together, and how the marks of one are merged into those of the other.
use Rattle.std.proofs.Common.{◌≡◌, ℕ, ◌+◌, ◌<◌, Bool, true, false, ◌||◌, List, [], ◌∷◌, ◌++◌, length, take, drop, get_or, set}
use Rattle.std.proofs.Common.{refl, sym, ap, ◌∙◌, subst, arith, append_assoc}
use Rattle.std.proofs.lemmas.List.{drop_more, take_more_set, drop-set-lt, set-get_or}
use Rattle.jls_values.proofs.Tests.{any_of_three}
use Rattle.jls_held.specs.Edits.{held_by_either}

pub either_none : (ms : List Bool) → held_by_either ms [] ≡ ms
either_none [] = refl
either_none (m ∷ ms) = refl

-- marks of three copies can be merged in either order
pub either_assoc : (ms ns os : List Bool) → held_by_either ms (held_by_either ns os) ≡ held_by_either (held_by_either ms ns) os
either_assoc [] ns os = refl
either_assoc (m ∷ ms) [] os = refl
either_assoc (m ∷ ms) (n ∷ ns) [] = refl
either_assoc (m ∷ ms) (n ∷ ns) (o ∷ os) =
    ap (λ b. b ∷ held_by_either ms (held_by_either ns os)) (any_of_three m n o) ∙ ap (λ bs. ((m || n) || o) ∷ bs) (either_assoc ms ns os)

-- merged marks are as many as before
pub length-either : (ms ns : List Bool) → length ms ≡ length ns → length (held_by_either ms ns) ≡ length ms
length-either [] [] e = refl
length-either [] (n ∷ ns) e = absurd (omega (arith, e))
length-either (m ∷ ms) [] e = refl
length-either (m ∷ ms) (n ∷ ns) e = let more = length-either ms ns (omega (arith, e)) in omega (arith, more)

-- so many first marks are merged with those of another copy, and the whole will be this
abbrev pub IsMergedTo : List Bool → List Bool → ℕ → List Bool → Type 0
IsMergedTo total others i held = take i held ++ held_by_either (drop i held) (drop i others) ≡ total

-- one mark more is merged
pub one_mark_more : (total others held : List Bool) (i : ℕ) (v : Bool) → i < length held → i < length others
    → (get_or held i false || get_or others i false) ≡ v → IsMergedTo total others i held → IsMergedTo total others (i + 1) (set held i v)
one_mark_more total others held i v a b is h =
    let rest = held_by_either (drop (i + 1) held) (drop (i + 1) others) in
    ap (λ xs. take (i + 1) (set held i v) ++ held_by_either xs (drop (i + 1) others)) (drop-set-lt (i + 1) held i v (omega arith))
    ∙ ap (λ xs. xs ++ rest) (take_more_set held i v a) ∙ append_assoc (take i held) (v ∷ []) rest
    ∙ ap (λ w. take i held ++ w ∷ rest) (sym is)
    ∙ ap (λ ys. take i held ++ held_by_either (get_or held i false ∷ drop (i + 1) held) ys) (sym (drop_more others i false b))
    ∙ ap (λ xs. take i held ++ held_by_either xs (drop i others)) (sym (drop_more held i false a)) ∙ h

or_true : (b : Bool) → (b || true) ≡ true
or_true true = refl
or_true false = refl

or_false : (b : Bool) → (b || false) ≡ b
or_false true = refl
or_false false = refl

-- a mark that the other copy has is set
pub mark_set : (total others held : List Bool) (i : ℕ) → i < length held → i < length others → get_or others i false ≡ true
    → IsMergedTo total others i held → IsMergedTo total others (i + 1) (set held i true)
mark_set total others held i a b is h =
    one_mark_more total others held i true a b (ap (λ m. get_or held i false || m) is ∙ or_true (get_or held i false)) h

-- a mark that the other copy does not have stays
pub mark_kept : (total others held : List Bool) (i : ℕ) → i < length held → i < length others → get_or others i false ≡ false
    → IsMergedTo total others i held → IsMergedTo total others (i + 1) held
mark_kept total others held i a b is h =
    subst (IsMergedTo total others (i + 1)) (set-get_or held i false)
    (one_mark_more total others held i (get_or held i false) a b (ap (λ m. get_or held i false || m) is ∙ or_false (get_or held i false)) h)
