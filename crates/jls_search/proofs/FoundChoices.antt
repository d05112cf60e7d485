-- What a search has found, with one more.
use Rattle.std.proofs.Common.{◌≡◌, ℕ, ◌+◌, ◌<◌, ◌≤◌, List, [], ◌∷◌, ◌++◌, length, Option, refl, sym, ap}
use Rattle.std.proofs.Common.{◌∙◌, subst, arith, ◌⊎◌, inl, inr, append_assoc}
use Rattle.std.specs.List.{AllByRecursion, Contains}
use Rattle.std.proofs.lemmas.List.{append-nil}
use Rattle.std.proofs.lemmas.List.Elements.{Contains-push_cases}
use Rattle.jls_values.proofs.Lists.{all_more, in_rest, is_first, none_in}
use Rattle.jls_diff.specs.Parts.{Part}
use Rattle.jls_search.specs.Choices.{IsWhole, prefix_of}
use Rattle.jls_search.specs.Faultless.{IsSought}
use Rattle.jls_search.specs.Goals.{AddsFor, IsGoal, MakesFor}
use Rattle.jls_search.specs.OfGroups.{AreOfGroups, IsOfGroup, IsOnce, IsSetting, ReadsWith}
use Rattle.jls_search.specs.Search.{AreFilesFor, IsTry, MakeFiles, Tried, lists_of, nothing, one_more}
use Rattle.jls_search.specs.declared.searching.Search.{Search}
use Rattle.jls_search.specs.declared.setting.Goal.{Goal}
use Rattle.jls_search.specs.declared.setting.Goal.TheVariants.{Whole, Group}
use Rattle.jls_search.specs.declared.setting.Setting.{Setting}

once_push : (found : List (List ℕ)) (choices : List ℕ) → IsOnce found → (Contains found choices → ⊥) → IsOnce (found ++ choices ∷ [])
once_push [] choices once new = (none_in choices, tt)
once_push (other ∷ found) choices once new = (
  λ among. elim (Contains-push_cases found choices other among) [
    | inl was ↦ once.0 was
    | inr e ↦ new (subst (Contains (other ∷ found)) (sym e) (is_first other found))
  ],
  once_push found choices once.1 (λ was. new (in_rest choices other found was)),
)

reads_with : (ceiling : Option ℕ) (ps : List Part) (s : Setting) (choices : List ℕ) → MakesFor ceiling ps (Group s) choices
    → ReadsWith ps s.group s.copy choices
reads_with ceiling ps s choices is = record { whole = (is.0.0.0, is.0.1); outside = is.0.0.1; reads = is.1 }

-- the files of a goal
pub files_more : (ceiling : Option ℕ) (ps : List Part) (g : Goal) (path : List ℕ) (before found : List (List ℕ)) → IsGoal ps g
    → AreFilesFor ceiling ps g before → AddsFor ceiling ps g path before found → AreFilesFor ceiling ps g found
files_more ceiling ps g path before found goal files (inl same) = subst (AreFilesFor ceiling ps g) (sym same) files
files_more ceiling ps Whole path before found goal files (inr (is, new, added)) =
    subst (MakeFiles (IsSought ceiling) ps) (sym added)
    (all_more (λ choices. IsWhole ps choices × IsSought ceiling (prefix_of ps choices)) before path files ((is.0.0.0, is.0.1), is.1))
files_more ceiling ps (Group s) path before found goal files (inr (is, new, added)) =
    subst (AreOfGroups ps) (sym added) (
      all_more (IsOfGroup ps) before path files.0
          (record { group = s.group; is_group = goal.0; copy = s.copy; is_copy = goal.1; is = reads_with ceiling ps s path is }),
      once_push before path files.1 new,
    )

-- Groups -----------------------------------------------------------------------------------------------------------

-- these were found with a setting, after those before
abbrev pub Added : List Part → Setting → List (List ℕ) → List (List ℕ) → Type 0
Added ps s before found =
    (more : List (List ℕ)) × (found ≡ before ++ more) × AllByRecursion (ReadsWith ps s.group s.copy) more

added_more : (ceiling : Option ℕ) (ps : List Part) (s : Setting) (path : List ℕ) (first before found : List (List ℕ))
    → Added ps s first before
    → AddsFor ceiling ps (Group s) path before found → Added ps s first found
added_more ceiling ps s path first before found (more, e, each) (inl same) = (more, same ∙ e, each)
added_more ceiling ps s path first before found (more, e, each) (inr (is, new, added)) = (
  more ++ path ∷ [],
  added ∙ ap (λ xs. xs ++ path ∷ []) e ∙ append_assoc first more (path ∷ []),
  all_more (ReadsWith ps s.group s.copy) more path each (reads_with ceiling ps s path is),
)

-- by tries, one after the other
pub added_by : (ps : List Part) (s : Setting) (a b : Search) → Tried ps a b → b.goal ≡ Group s
    → Added ps s (lists_of a.splices.items) (lists_of b.splices.items)
added_by ps s _ _ (nothing a) goal = ([], sym (append-nil (lists_of a.splices.items)), tt)
added_by ps s _ _ (one_more a mid b t one) goal =
    let here : mid.goal ≡ Group s = sym one.alike.0 ∙ goal in
    added_more mid.judge.ceiling ps s mid.path.items (lists_of a.splices.items) (lists_of mid.splices.items) (lists_of b.splices.items)
    (added_by ps s a mid t here)
    (subst (λ g. AddsFor mid.judge.ceiling ps g mid.path.items (lists_of mid.splices.items) (lists_of b.splices.items)) here one.step.0)

-- tries rise
rise : (ps : List Part) (a b : Search) → Tried ps a b → a.tries ≤ b.tries
rise ps _ _ (nothing a) = omega arith
rise ps _ _ (one_more a mid b t one) = (let r = rise ps a mid t in let e = one.counted in omega (arith, r, e))

pub rose : (ps : List Part) (a b : Search) → Tried ps a b → (a.tries < b.tries) ⊎ (b ≡ a)
rose ps _ _ (nothing a) = inr refl
rose ps _ _ (one_more a mid b t one) = (let r = rise ps a mid t in let e = one.counted in inl (omega (arith, r, e)))
