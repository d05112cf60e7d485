-- What a search comes to.
use Rattle.std.proofs.Common.{◌≡◌, ℕ, zero, suc, ◌<◌, true, false, Bool, List, [], ◌∷◌, ◌++◌, length, Option, refl, sym, ap}
use Rattle.std.proofs.Common.{◌∙◌, subst, append_assoc, arith, ◌⊎◌, inl, inr, nat_eq}
use Rattle.std.specs.Prelude.{get_or, MatchBool}
use Rattle.std.specs.List.{AllByRecursion, Contains}
use Rattle.std.specs.Cmp.Lexicographic.{pointwise, told_text}
use Rattle.jls_values.proofs.Lists.{in_map}
use Rattle.jls_diff.specs.Parts.{Part, Same, Differ, way, HasWays, IsSplice}
use Rattle.jls_search.specs.Choices.{IsFirstWay, IsPath, prefix_of}
use Rattle.jls_search.specs.Order.{IsToCome, IsLater}
use Rattle.jls_search.specs.Faultless.{IsDead, IsSought}
use Rattle.jls_search.specs.Goals.{IsSeenFor, IsSettledFor, IsSoughtFor}
use Rattle.jls_search.specs.declared.looking.PathVerdict.TheVariants.{Dead}
use Rattle.jls_search.specs.declared.setting.Goal.TheVariants.{Whole}
use Rattle.jls_search.specs.Search.{HasEachSplice, files_of}
use Rattle.jls_search.proofs.Paths.{order}
use Rattle.jls_search.proofs.Sets.{set_whole_of_all}

-- Choices of a splice ----------------------------------------------------------------------------------------------

reported : {P Q : Type 0} (r : Bool) → MatchBool r P Q → P ⊎ Q
reported true h = inl h
reported false h = inr h

pub same : (a b : List ℕ) → (a ≡ b) ⊎ (a ≡ b → ⊥)
same a b = reported (pointwise nat_eq a b) (told_text a b (pointwise nat_eq a b) refl)

none_more : (ways : List (List ℕ)) (x : List ℕ) (n : ℕ) → ((i : ℕ) → i < n → get_or ways i [] ≡ x → ⊥) → (get_or ways n [] ≡ x → ⊥)
    → (i : ℕ) → i < suc n → get_or ways i [] ≡ x → ⊥
none_more ways x n none here i l e =
    elim (order i n) [
      | inl less ↦ none i less e
      | inr r ↦ elim r [ inl at ↦ here (subst (λ k. get_or ways k [] ≡ x) at e) | inr more ↦ omega (arith, l, more) ]
    ]

first_with : (ways : List (List ℕ)) (x : List ℕ) (n : ℕ) → ((i : ℕ) → i < n → get_or ways i [] ≡ x → ⊥)
    ⊎ ((c : ℕ) × (c < n) × (get_or ways c [] ≡ x) × ((i : ℕ) → i < c → get_or ways i [] ≡ x → ⊥))
first_with ways x zero = inl (λ i l e. omega (arith, l))
first_with ways x (suc n) =
    elim (first_with ways x n) [
      | inr r ↦ inr (r.0, omega (arith, r.1), r.2, r.3)
      | inl none ↦ elim (same (get_or ways n []) x)
          [ inl e ↦ inr (n, omega arith, e, none) | inr here ↦ inl (none_more ways x n none here) ]
    ]

first_way : (ways : List (List ℕ)) (j : ℕ) → j < length ways → (c : ℕ) × IsFirstWay (Differ ways) c × (get_or ways c [] ≡ get_or ways j [])
first_way ways j l =
    elim (first_with ways (get_or ways j []) (length ways)) [
      | inl none ↦ absurd (none j l refl)
      | inr r ↦ (r.0, (r.1, λ other less e. r.3 other less (e ∙ r.2)), r.2)
    ]

chosen : (count : ℕ) (parts : List Part) (bytes : List ℕ) → AllByRecursion (HasWays count) parts → IsSplice count parts bytes
    → (choices : List ℕ) × IsPath parts choices × (length choices ≡ length parts) × (bytes ≡ prefix_of parts choices)
chosen count [] bytes h e = ([], tt, refl, e)
chosen count (Same b ∷ parts) bytes h (j, l, rest, e, more) =
    let r = chosen count parts rest h.1 more in
    (0 ∷ r.0, (refl, r.1), ap suc r.2, e ∙ ap (λ z. b ++ z) r.3)
chosen count (Differ ways ∷ parts) bytes h (j, l, rest, e, more) =
    let r = chosen count parts rest h.1 more in
    let f = first_way ways j (subst (λ n. j < n) (sym h.0) l) in
    (f.0 ∷ r.0, (f.1, r.1), ap suc r.2, e ∙ ap (λ w. w ++ rest) (sym f.2) ∙ ap (λ z. get_or ways f.0 [] ++ z) r.3)

-- a search of whole files that is over has come to each splice that is sought
pub has_each_splice : (ceiling : Option ℕ) (parts : List Part) (found : List (List ℕ))
    → ((choices : List ℕ) → IsSoughtFor ceiling parts Whole choices → IsSettledFor parts Whole found choices)
    → HasEachSplice (IsSought ceiling) parts (files_of parts found)
has_each_splice ceiling parts found over count some ways bytes low splice sought =
    let r = chosen count parts bytes ways splice in
    let made : IsSoughtFor ceiling parts Whole r.0 = (
      (set_whole_of_all parts r.0 (r.1, r.2), subst (IsSought ceiling) r.3 sought),
      subst (AllByRecursion (λ b. b < 256)) r.3 low,
    ) in
    elim (over r.0 made) [
      | inl was ↦ subst (Contains (files_of parts found)) (sym r.3) (in_map (prefix_of parts) found r.0 was)
      | inr passed ↦ absurd passed
    ]

-- Choices to come --------------------------------------------------------------------------------------------------

-- they begin with the path, or stand after all that do
begins_or_after : (ps : List Part) (path cs : List ℕ) → IsPath ps path → IsPath ps cs → IsToCome path cs
    → ((rest : List ℕ) × (prefix_of ps cs ≡ prefix_of ps path ++ rest)) ⊎ IsLater path cs
begins_or_after ps [] cs h k t = inl (prefix_of ps cs, refl)
begins_or_after [] (c ∷ path) cs h k t = absurd h
begins_or_after (p ∷ ps) (c ∷ path) [] h k t = absurd t
begins_or_after (p ∷ ps) (c ∷ path) (d ∷ cs) h k (inl less) = inr (inl less)
begins_or_after (p ∷ ps) (c ∷ path) (d ∷ cs) h k (inr (e, t)) =
    elim (begins_or_after ps path cs h.1 k.1 t) [
      | inl r ↦ inl (
        r.0,
        ap (λ z. way z p ++ prefix_of ps cs) (sym e) ∙ ap (λ z. way c p ++ z) r.1
            ∙ sym (append_assoc (way c p) (prefix_of ps path) r.0),
      )
      | inr b ↦ inr (inr (e, b))
    ]

-- where the path has a choice for each part, they are the path
pub equal_or_after : (path cs : List ℕ) → length path ≡ length cs → IsToCome path cs → (path ≡ cs) ⊎ IsLater path cs
equal_or_after [] [] e t = inl refl
equal_or_after [] (d ∷ cs) e t = absurd (omega (arith, e))
equal_or_after (c ∷ path) [] e t = absurd t
equal_or_after (c ∷ path) (d ∷ cs) l (inl less) = inr (inl less)
equal_or_after (c ∷ path) (d ∷ cs) l (inr (e, t)) =
    elim (equal_or_after path cs (omega (arith, l)) t) [
      | inl f ↦ inl (ap (λ x. x ∷ path) e ∙ ap (λ xs. d ∷ xs) f)
      | inr b ↦ inr (inr (e, b))
    ]

pub dead_prefix : (ceiling : Option ℕ) (ps : List Part) (path : List ℕ) → IsPath ps path → IsDead (IsSought ceiling) (prefix_of ps path)
    → IsSeenFor ceiling ps Whole path Dead
dead_prefix ceiling ps path is dead choices file t =
    elim (begins_or_after ps path choices is file.0.0.0.0 t) [
      | inl r ↦ absurd (dead r.0 (subst (AllByRecursion (λ b. b < 256)) r.1 file.1) (subst (IsSought ceiling) r.1 file.0.1))
      | inr b ↦ inr b
    ]

pub faulty_file : (ceiling : Option ℕ) (ps : List Part) (path : List ℕ) → length path ≡ length ps
    → (AllByRecursion (λ b. b < 256) (prefix_of ps path) → IsSought ceiling (prefix_of ps path) → ⊥)
    → IsSeenFor ceiling ps Whole path Dead
faulty_file ceiling ps path l faulty choices file t =
    elim (equal_or_after path choices (l ∙ sym file.0.0.1) t) [
      | inl e ↦
          absurd (faulty (subst (λ p. AllByRecursion (λ b. b < 256) (prefix_of ps p)) (sym e) file.1)
          (subst (λ p. IsSought ceiling (prefix_of ps p)) (sym e) file.0.1))
      | inr b ↦ inr b
    ]
