-- One try more of a search, from what is seen of its path.
use Rattle.std.proofs.Common.{◌≡◌, ℕ, ◌+◌, ◌<◌, ◌≤◌, Bool, true, List, length, Option, Result, Ok, Err, sym, ◌∙◌, subst, arith}
use Rattle.std.specs.Prelude.{OnOk}
use Rattle.std.specs.declared.alloc.AllocError.{AllocError}
use Rattle.jls_diff.specs.Parts.{Part}
use Rattle.jls_search.specs.Goals.{StandsOrIsSettled, IsGoal}
use Rattle.jls_search.specs.Search.{AreFilesFor, AreKept, IsAlike, IsAt, IsSearch, IsStep, IsTry, lists_of}
use Rattle.jls_search.specs.declared.searching.Search.{Search}
use Rattle.jls_search.specs.declared.setting.Goal.{Goal}
use Rattle.jls_search.proofs.FoundChoices.{files_more}
use Rattle.jls_search.proofs.Steps.{one_at_most}

module _ (ps : List Part) (old new : Search) (at : IsAt ps old) (alike : IsAlike old new) where
  module _ (next : StandsOrIsSettled old.judge.ceiling ps old.goal new.path.items (lists_of new.splices.items) new.goes_on)
      (step : IsStep old.judge.ceiling ps old.goal old.path.items (lists_of old.splices.items) new.path.items (lists_of new.splices.items)
      new.goes_on)
      (kept : AreKept ps new.judge) (room : length (lists_of old.splices.items) < old.most) where
    at_next : IsAt ps new
    at_next = record {
      goal = subst (IsGoal ps) (sym alike.0) at.goal;
      goes =
          subst (λ c. StandsOrIsSettled c ps new.goal new.path.items (lists_of new.splices.items) new.goes_on) (sym alike.1)
          (subst (λ g. StandsOrIsSettled old.judge.ceiling ps g new.path.items (lists_of new.splices.items) new.goes_on)
          (sym alike.0) next);
      files =
          subst (λ c. AreFilesFor c ps new.goal (lists_of new.splices.items)) (sym alike.1)
          (subst (λ g. AreFilesFor old.judge.ceiling ps g (lists_of new.splices.items)) (sym alike.0)
          (files_more old.judge.ceiling ps old.goal old.path.items (lists_of old.splices.items) (lists_of new.splices.items) at.goal
          at.files step.0));
      few =
          (let n = one_at_most old.judge.ceiling ps old.goal old.path.items (lists_of old.splices.items) (lists_of new.splices.items)
          step.0 in
          let m = n.1 in let same = alike.2 in omega (arith, m, same, room));
      kept = kept;
    }

    pub one_try : old.goes_on ≡ true → new.tries ≡ old.tries + 1 → IsTry ps old new
    one_try on counted = record { goes_on = on; stands = at_next; counted = counted; alike = alike; step = step }

-- a search of whole files stays one
pub search_on : (ps : List Part) (old new : Search) → IsSearch ps old → (r : Result (Unit {0}) AllocError) → OnOk r (IsAt ps new)
    → OnOk r (IsAlike old new) → OnOk r (IsSearch ps new)
search_on ps old new is (Ok u) at alike = record { is_at = at; goal_is = alike.0 ∙ is.goal_is; most_is = alike.2 ∙ is.most_is }
search_on ps old new is (Err e) at alike = tt
