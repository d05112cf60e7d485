-- A search of a group with one copy outside of it, from its begin to where it stops.
use Rattle.std.proofs.Common.{◌≡◌, ℕ, ◌+◌, ◌<◌, ◌≤◌, ◌⊎◌, ◌||◌, Bool, true, false, List, length, min, refl, sym, ap, ◌∙◌, subst, arith}
use Rattle.std.proofs.Common.{inl, inr, None}
use Rattle.std.proofs.Common.{[], ◌∷◌, Vec, Global}
use Rattle.std.specs.List.{AllByRecursion}
use Rattle.jls_diff.specs.Parts.{Part, Same, Differ}
use Rattle.jls_search.specs.Choices.{HasSomeWay}
use Rattle.jls_search.specs.Goals.{StandsOrIsSettled, IsSettledFor, IsSoughtFor}
use Rattle.jls_search.specs.GroupTries.{GoesThrough, IsGroupBegun}
use Rattle.jls_search.specs.OfGroups.{AreOfGroups, HasCopy}
use Rattle.jls_search.specs.Search.{AreFilesFor, CanGoOn, GoesFrom, IsAlike, IsAt, lists_of}
use Rattle.jls_search.specs.declared.searching.Search.{Search}
use Rattle.jls_search.specs.declared.setting.Goal.{Goal}
use Rattle.jls_search.specs.declared.setting.Goal.TheVariants.{Group}
use Rattle.jls_search.specs.declared.setting.Setting.{Setting}
use Rattle.jls_search.specs.declared.whole_search.Searched.{Searched}
use Rattle.jls_search.proofs.FoundChoices.{Added, added_by, rose}
use Rattle.jls_search.proofs.FoundMore.{count_of}
use Rattle.jls_search.proofs.GroupSearches.{went}
use Rattle.jls_search.proofs.Steps.{when_over}
use Rattle.jls_search.proofs.Walks.{stopped}

-- where a copy has something at each part, each part has a way
pub some_way_of_copy : (copy : ℕ) (ps : List Part) → AllByRecursion (HasCopy copy) ps → AllByRecursion HasSomeWay ps
some_way_of_copy copy [] h = tt
some_way_of_copy copy (Same bytes ∷ ps) h = (tt, some_way_of_copy copy ps h.1)
some_way_of_copy copy (Differ ways ∷ ps) h = ((let l = h.0 in omega (arith, l)), some_way_of_copy copy ps h.1)

-- what it came to, as the code has it
abbrev pub searched_of : Search → Bool → Searched
searched_of last was = record {
  ceiling = None;
  splices = last.splices;
  reader = None;
  tries = last.tries;
  is_used_up =
      last.goes_on || was;
}

module _ (most_tries : ℕ) (ps : List Part) (s : Setting) (before : Searched) (begun last : Search) (is : IsGroupBegun s before begun)
    (at : IsAt ps last) (alike : IsAlike begun last) (stops : CanGoOn last most_tries → ⊥) (went_on : GoesFrom ps begun last most_tries)
    (within : before.tries ≤ most_tries)
  where
    goal_is : last.goal ≡ Group s
    goal_is = alike.0 ∙ is.0

    pub of_groups : AreOfGroups ps (lists_of last.splices.items)
    of_groups = subst (λ g. AreFilesFor last.judge.ceiling ps g (lists_of last.splices.items)) goal_is at.files

    no_more_tries : last.tries ≤ most_tries
    no_more_tries = (let w = went_on.within in let t = is.2 in omega (arith, w, t, within))

    tried : last.goes_on ≡ false → before.tries < last.tries
    tried over =
        elim (rose ps begun last went_on.tried) [
          | inl less ↦ (let t = is.2 in omega (arith, less, t))
          | inr same ↦ (let on : last.goes_on ≡ true = ap (λ (x : Search). x.goes_on) same ∙ is.1 in absurd cc)
        ]

    most_is : last.most ≡ min (length before.splices.items + 64) 4096
    most_is = alike.2 ∙ is.4

    full : last.goes_on ≡ true → (last.tries ≡ most_tries) ⊎ (min (length before.splices.items + 64) 4096 ≤ length last.splices.items)
    full on =
        elim (stopped last most_tries stops no_more_tries at.few on) [
          | inl all ↦ inl all
          | inr many ↦ inr (let m = most_is in let n = count_of last.splices.items in omega (arith, many, m, n))
        ]

    added : Added ps s (lists_of before.splices.items) (lists_of last.splices.items)
    added =
        subst (λ (v : Vec (Vec ℕ Global) Global). Added ps s (lists_of v.items) (lists_of last.splices.items)) is.3
        (added_by ps s begun last went_on.tried goal_is)

    settled : last.goes_on ≡ false → (choices : List ℕ) → IsSoughtFor None ps (Group s) choices
        → IsSettledFor ps (Group s) (lists_of last.splices.items) choices
    settled over =
        when_over last.judge.ceiling ps (Group s) last.path.items (lists_of last.splices.items) last.goes_on over
        (subst (λ g. StandsOrIsSettled last.judge.ceiling ps g last.path.items (lists_of last.splices.items) last.goes_on) goal_is at.goes)

    pub went_through : GoesThrough most_tries ps s before (searched_of last before.is_used_up)
    went_through =
        went most_tries ps s before (searched_of last before.is_used_up) last.goes_on
        (let t = is.2 in let r = went_on.tries in omega (arith, t, r))
        no_more_tries added (let few = at.few in let m = most_is in let n = count_of last.splices.items in omega (arith, few, m, n)) tried
        full
        refl settled
