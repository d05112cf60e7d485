-- What a search of a group sees of a path, and choices that were found.
use Rattle.std.proofs.Common.{◌≡◌, ℕ, zero, suc, ◌<◌, List, [], ◌∷◌, length, take, drop, Option, refl, sym, ap}
use Rattle.std.proofs.Common.{◌∙◌, subst, arith, ◌⊎◌, inl, inr, get_or, Vec, Global}
use Rattle.std.specs.List.{AllByRecursion, Contains}
use Rattle.jls_diff.specs.Groups.{IsInside}
use Rattle.jls_diff.specs.Parts.{Part}
use Rattle.jls_search.specs.Choices.{prefix_of}
use Rattle.jls_search.specs.Goals.{IsSeenFor}
use Rattle.jls_search.specs.OfGroups.{HasManyFaults, IsGivenUp, ReadsInGroup}
use Rattle.jls_search.specs.Order.{IsToCome, IsLater}
use Rattle.jls_search.specs.declared.looking.PathVerdict.TheVariants.{Dead}
use Rattle.jls_search.specs.declared.setting.Goal.TheVariants.{Group}
use Rattle.jls_search.specs.declared.setting.Setting.{Setting}
use Rattle.jls_search.proofs.KeptReaders.{prefix_and_rest}
use Rattle.jls_values.proofs.Lists.{first_or_rest, in_rest, is_first, none_in, all_prefix}
use Rattle.jls_search.specs.Search.{lists_of}
use Rattle.jls_search.proofs.WholeSplices.{equal_or_after}

-- choices to come begin with the path, or stand after all that do
begins_or_after : (path cs : List ℕ) → IsToCome path cs → (take (length path) cs ≡ path) ⊎ IsLater path cs
begins_or_after [] cs t = inl refl
begins_or_after (c ∷ path) [] t = absurd t
begins_or_after (c ∷ path) (d ∷ cs) (inl less) = inr (inl less)
begins_or_after (c ∷ path) (d ∷ cs) (inr (e, t)) =
    elim (begins_or_after path cs t) [
      | inl r ↦ inl (ap (λ xs. d ∷ xs) r ∙ ap (λ x. x ∷ path) (sym e))
      | inr b ↦ inr (inr (e, b))
    ]

module _ (ceiling : Option ℕ) (ps : List Part) (s : Setting) (path : List ℕ) where
  -- a path that is given up at a part of the group
  pub given_up : IsInside s.group (length path) → (AllByRecursion (λ b. b < 256) (prefix_of ps path) → IsGivenUp ps s.group path)
      → IsSeenFor ceiling ps (Group s) path Dead
  given_up inside up choices sought t =
      elim (begins_or_after path choices t) [
        | inr b ↦ inr b
        | inl begins ↦ (
            let low : AllByRecursion (λ b. b < 256) (prefix_of ps (take (length path) choices)) =
            all_prefix (λ b. b < 256) (prefix_of ps (take (length path) choices))
            (prefix_of (drop (length path) ps) (drop (length path) choices))
            (subst (AllByRecursion (λ b. b < 256)) (prefix_and_rest ps choices (length path) sought.0.0.0.0) sought.1) in
            inl (inr (
              length path,
              inside,
              subst (IsGivenUp ps s.group) (sym begins) (up (subst (λ p. AllByRecursion (λ b. b < 256) (prefix_of ps p)) begins low)),
            ))
            )
      ]

  -- a file that doesn't read in the group, or has too many faulty pieces
  pub unread : length path ≡ length ps
      → (AllByRecursion (λ b. b < 256) (prefix_of ps path) → ReadsInGroup ps s.group path → HasManyFaults (prefix_of ps path))
      → IsSeenFor ceiling ps (Group s) path Dead
  unread l many choices sought t =
      elim (equal_or_after path choices (l ∙ sym sought.0.0.1) t) [
        | inr b ↦ inr b
        | inl e ↦ inl (inl (subst (λ p. HasManyFaults (prefix_of ps p)) e (many
            (subst (λ p. AllByRecursion (λ b. b < 256) (prefix_of ps p)) (sym e) sought.1)
            (subst (ReadsInGroup ps s.group) (sym e) sought.0.1))))
      ]

-- Choices that were found ------------------------------------------------------------------------------------------

-- none of these that the code holds are the choices
abbrev pub NoneIs : List ℕ → List (Vec ℕ Global) → Type 0
NoneIs choices vs = AllByRecursion (λ (v : Vec ℕ Global). v.items ≡ choices → ⊥) vs

pub not_found : (choices : List ℕ) (vs : List (Vec ℕ Global)) → NoneIs choices vs → Contains (lists_of vs) choices → ⊥
not_found choices [] none among = none_in choices among
not_found choices (v ∷ vs) none among =
    elim (first_or_rest choices v.items (lists_of vs) among) [ inl e ↦ none.0 e | inr rest ↦ not_found choices vs none.1 rest ]

pub found_at : (choices : List ℕ) (vs : List (Vec ℕ Global)) (i : ℕ) (d : Vec ℕ Global) → i < length vs → (get_or vs i d).items ≡ choices
    → Contains (lists_of vs) choices
found_at choices [] i d l e = absurd (omega (arith, l))
found_at choices (v ∷ vs) zero d l e = subst (Contains (v.items ∷ lists_of vs)) e (is_first v.items (lists_of vs))
found_at choices (v ∷ vs) (suc i) d l e = in_rest choices v.items (lists_of vs) (found_at choices vs i d (omega (arith, l)) e)
