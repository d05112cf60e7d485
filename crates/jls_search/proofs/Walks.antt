-- What a search that stopped has come to.
use Rattle.std.proofs.Common.{◌≡◌, ℕ, ◌≤◌, Bool, true, false, List, length, subst, arith, ◌⊎◌, inl, inr, Option}
use Rattle.std.proofs.lemmas.Bool.{cases_lt}
use Rattle.jls_diff.specs.Parts.{Part}
use Rattle.jls_search.specs.Faultless.{IsSought}
use Rattle.jls_search.specs.Goals.{StandsOrIsSettled}
use Rattle.jls_search.specs.Search.{AreFilesFor, CameTo, CanGoOn, IsSearch, MakeFiles, lists_of}
use Rattle.jls_search.specs.declared.searching.Search.{Search}
use Rattle.jls_search.specs.declared.setting.Goal.TheVariants.{Whole}
use Rattle.jls_search.proofs.WholeSplices.{has_each_splice}

came : (ceiling : Option ℕ) (parts : List Part) (path : List ℕ) (found : List (List ℕ)) (more : Bool)
    → MakeFiles (IsSought ceiling) parts found → StandsOrIsSettled ceiling parts Whole path found more
    → CameTo (IsSought ceiling) parts found more
came ceiling parts path found true files h = record { files = files; all = λ e. absurd cc }
came ceiling parts path found false files h = record { files = files; all = λ e. has_each_splice ceiling parts found h }

pub came_to : (parts : List Part) (s : Search) → IsSearch parts s
    → CameTo (IsSought s.judge.ceiling) parts (lists_of s.splices.items) s.goes_on
came_to parts s h =
    let found = lists_of s.splices.items in
    came s.judge.ceiling parts s.path.items found s.goes_on
    (subst (λ g. AreFilesFor s.judge.ceiling parts g found) h.goal_is h.is_at.files)
    (subst (λ g. StandsOrIsSettled s.judge.ceiling parts g s.path.items found s.goes_on) h.goal_is h.is_at.goes)

-- one that stopped while there was more to try has made all its tries, or found as many files as it finds at most
pub stopped : (s : Search) (most_tries : ℕ) → (CanGoOn s most_tries → ⊥) → s.tries ≤ most_tries
    → length (lists_of s.splices.items) ≤ s.most → s.goes_on ≡ true
    → (s.tries ≡ most_tries) ⊎ (length (lists_of s.splices.items) ≡ s.most)
stopped s most_tries stops within few more =
    elim (cases_lt s.tries most_tries) [
      | inl less ↦ elim (cases_lt (length (lists_of s.splices.items)) s.most) [
        | inl fewer ↦ absurd (stops (more, less, fewer))
        | inr many ↦ inr (omega (arith, many, few))
      ]
      | inr all ↦ inl (omega (arith, all, within))
    ]

-- which are 64 for whole files
pub used_up : (parts : List Part) (s : Search) (most_tries : ℕ) → IsSearch parts s → (CanGoOn s most_tries → ⊥)
    → s.tries ≤ most_tries → s.goes_on ≡ true
    → (s.tries ≡ most_tries) ⊎ (length (lists_of s.splices.items) ≡ 64)
used_up parts s most_tries is stops within more =
    elim (stopped s most_tries stops within is.is_at.few more) [
      | inl all ↦ inl all
      | inr full ↦ inr (let most = is.most_is in omega (arith, full, most))
    ]

pub at_most : (parts : List Part) (s : Search) → IsSearch parts s → length (lists_of s.splices.items) ≤ 64
at_most parts s is = (let few = is.is_at.few in let most = is.most_is in omega (arith, few, most))
