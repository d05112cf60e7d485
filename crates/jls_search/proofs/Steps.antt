-- A search, one try more, whatever its goal is.
use Rattle.std.proofs.Common.{◌≡◌, ℕ, ◌+◌, ◌≤◌, Bool, true, false, List, [], ◌∷◌, ◌++◌, length, Option, Result, Ok, Err, refl, sym, ap}
use Rattle.std.proofs.Common.{◌∙◌, subst, arith, ◌⊎◌, inl, inr, length-append}
use Rattle.std.specs.Prelude.{IfOk}
use Rattle.std.specs.List.{AllByRecursion, Contains}
use Rattle.std.specs.declared.alloc.AllocError.{AllocError}
use Rattle.std.proofs.lemmas.List.Elements.{Contains-append_left, Contains-push}
use Rattle.jls_values.proofs.Lists.{all_more}
use Rattle.jls_diff.specs.Parts.{Part}
use Rattle.jls_search.specs.Choices.{HasSomeWay, IsWhole, prefix_of}
use Rattle.jls_search.specs.Faultless.{IsSought}
use Rattle.jls_search.specs.Goals.{AddsFor, StandsOrIsSettled, IsFileFor, IsGoal, IsSeenFor, IsSettledFor, IsSoughtFor, MakesFor, Stands}
use Rattle.jls_search.specs.OfGroups.{IsAddedOnce}
use Rattle.jls_search.specs.Order.{IsLater, IsToCome}
use Rattle.jls_search.specs.Search.{AreFilesFor, IsStep}
use Rattle.jls_search.specs.Tried.{HasCopyElsewhere, IsSetFor, IsSetWholeFor, IsStop}
use Rattle.jls_search.specs.declared.looking.PathVerdict.TheVariants.{Dead}
use Rattle.jls_search.specs.declared.setting.Goal.{Goal}
use Rattle.jls_search.specs.declared.setting.Goal.TheVariants.{Whole, Group}
use Rattle.jls_search.proofs.WholeSplices.{equal_or_after}

pub copy_of_goal : (ps : List Part) (g : Goal) → IsGoal ps g → HasCopyElsewhere ps g
copy_of_goal ps Whole is = tt
copy_of_goal ps (Group s) is = is.1

module _ (ceiling : Option ℕ) (ps : List Part) (g : Goal) where
  -- at its begin
  pub begun : (empty path : List ℕ) (found : List (List ℕ)) → empty ≡ [] → IsSetFor ps g path → IsStop ps g path
      → ((choices : List ℕ) → IsSetWholeFor ps g choices → IsToCome empty choices → IsToCome path choices) → Stands ceiling ps g path found
  begun empty path found e set stop kept = record {
    is_set = set;
    stop = stop;
    all = λ choices sought. inr (kept choices sought.0.0 (subst (λ p. IsToCome p choices) (sym e) tt));
  }

  -- where it goes on, or is over
  pub when_on : (path : List ℕ) (found : List (List ℕ)) (more : Bool) → more ≡ true → StandsOrIsSettled ceiling ps g path found more
      → Stands ceiling ps g path found
  when_on path found true e h = h
  when_on path found false e h = absurd cc

  pub when_over : (path : List ℕ) (found : List (List ℕ)) (more : Bool) → more ≡ false → StandsOrIsSettled ceiling ps g path found more
      → (choices : List ℕ) → IsSoughtFor ceiling ps g choices → IsSettledFor ps g found choices
  when_over path found true e h = absurd cc
  when_over path found false e h = h

  -- what was found, with one more
  settled_more : (before found : List (List ℕ)) (path choices : List ℕ) → IsAddedOnce before path found → IsSettledFor ps g before choices
      → IsSettledFor ps g found choices
  settled_more before found path choices (inl (was, e)) (inl c) = inl (subst (λ xs. Contains xs choices) (sym e) c)
  settled_more before found path choices (inr (new, e)) (inl c) =
      inl (subst (λ xs. Contains xs choices) (sym e) (Contains-append_left before (path ∷ []) choices c))
  settled_more before found path choices adds (inr passed) = inr passed

  now_found : (before found : List (List ℕ)) (path : List ℕ) → IsAddedOnce before path found → Contains found path
  now_found before found path (inl (was, e)) = subst (λ xs. Contains xs path) (sym e) was
  now_found before found path (inr (new, e)) = subst (λ xs. Contains xs path) (sym e) (Contains-push before path)

  pub adds_for : (path : List ℕ) (before found : List (List ℕ)) → MakesFor ceiling ps g path → IsAddedOnce before path found
      → AddsFor ceiling ps g path before found
  adds_for path before found is (inl (was, e)) = inl e
  adds_for path before found is (inr (new, e)) = inr (is, new, e)

  pub one_at_most : (path : List ℕ) (before found : List (List ℕ)) → AddsFor ceiling ps g path before found
      → (length before ≤ length found) × (length found ≤ length before + 1)
  one_at_most path before found (inl same) = (let a = ap length same in (omega (arith, a), omega (arith, a)))
  one_at_most path before found (inr (is, new, added)) =
      let a = ap length added ∙ length-append before (path ∷ []) in (omega (arith, a), omega (arith, a))

  -- a path that is passed by
  pub turned_step : (r : Result Bool AllocError) (path next : List ℕ) (before found : List (List ℕ))
      → AddsFor ceiling ps g path before found
      → IfOk r (λ more. more ≡ true → IsLater path next) → IfOk r (λ more. IsStep ceiling ps g path before next found more)
  turned_step (Ok more) path next before found adds h = (adds, λ t. inr (h t))
  turned_step (Err e) path next before found adds h = tt

  module _ (path next : List ℕ) (found : List (List ℕ)) (stands : Stands ceiling ps g path found) where
    pub descended : IsSetFor ps g next → IsStop ps g next
        → ((choices : List ℕ) → IsSetWholeFor ps g choices → IsToCome path choices → IsToCome next choices) → Stands ceiling ps g next found
    descended set stop kept = record {
      is_set = set;
      stop = stop;
      all = λ choices sought. elim (stands.all choices sought) [ inl was ↦ inl was | inr t ↦ inr (kept choices sought.0.0 t) ];
    }

    -- all that begin with the path are settled
    module _ (found' : List (List ℕ))
        (settled : (choices : List ℕ) → IsSoughtFor ceiling ps g choices → IsSettledFor ps g found' choices ⊎ IsLater path choices) where
      pub turned_on : (r : Result Bool AllocError) → IfOk r (λ more. more ≡ true → IsSetFor ps g next)
          → IfOk r (λ more. more ≡ true → IsStop ps g next)
          → IfOk r (λ more. more ≡ true → (choices : List ℕ) → IsSetWholeFor ps g choices → IsLater path choices → IsToCome next choices)
          → IfOk r (λ more. more ≡ false → (choices : List ℕ) → IsSetWholeFor ps g choices → IsLater path choices → ⊥)
          → IfOk r (λ more. StandsOrIsSettled ceiling ps g next found' more)
      turned_on (Err e) a f b c = tt
      turned_on (Ok true) a f b c = record {
        is_set = a refl;
        stop = f refl;
        all = λ choices sought. elim (settled choices sought) [ inl was ↦ inl was | inr t ↦ inr (b refl choices sought.0.0 t) ];
      }
      turned_on (Ok false) a f b c = λ choices sought.
          elim (settled choices sought) [ inl was ↦ was | inr t ↦ absurd (c refl choices sought.0.0 t) ]

    -- where it was dead
    pub dead_after : IsSeenFor ceiling ps g path Dead → (choices : List ℕ) → IsSoughtFor ceiling ps g choices
        → IsSettledFor ps g found choices ⊎ IsLater path choices
    dead_after dead choices sought =
        elim (stands.all choices sought) [
          | inl was ↦ inl was
          | inr t ↦ elim (dead choices sought t) [ inl passed ↦ inl (inr passed) | inr b ↦ inr b ]
        ]

    -- where its file is sought
    pub found_after : (found' : List (List ℕ)) → IsAddedOnce found path found' → length path ≡ length ps → (choices : List ℕ)
        → IsSoughtFor ceiling ps g choices → IsSettledFor ps g found' choices ⊎ IsLater path choices
    found_after found' adds l choices sought =
        elim (stands.all choices sought) [
          | inl was ↦ inl (settled_more found found' path choices adds was)
          | inr t ↦ elim (equal_or_after path choices (l ∙ sym sought.0.0.1) t) [
            | inl e ↦ inl (inl (subst (Contains found') e (now_found found found' path adds)))
            | inr b ↦ inr b
          ]
        ]
