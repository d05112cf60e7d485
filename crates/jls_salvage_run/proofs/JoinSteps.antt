-- The steps of `join`, put together.
use Rattle.std.proofs.Common.{◌≡◌, ℕ, Bool, List, ◌++◌, Option, Err, subst, refl}
use Rattle.std.specs.Borrow.{Bor}
use Rattle.std.specs.Prelude.{◌↔◌, IsTrue}
use Rattle.jls_partial.specs.Partial.{PartialPicture}
use Rattle.jls_partial.specs.Status.{IsSettled}
use Rattle.jls_partial.specs.Text.{text}
use Rattle.jls_io.specs.Event.{History, GrewBy}
use Rattle.jls_io.proofs.Growing.{grew_on, grew_as}
use Rattle.jls_salvage_run.specs.AllInputs.{TakesUnion, StopsAtInput}
use Rattle.jls_io.specs.Outputs.{HandsOut}
use Rattle.jls_cli.specs.Outputs.{StopsAtOutput}
use Rattle.jls_salvage_run.specs.Joining.{Joins, done, at_input, no_memory, at_output}
use Rattle.jls_cli.specs.Outcomes.{finished, refusal_at}
use Rattle.jls_cli.specs.declared.outcome.Refusal.{Refusal}
use Rattle.jls_cli.specs.declared.outcome.Cause.TheVariants as cause

module _ (source : Option ℕ) (out : List ℕ) (names : List (List ℕ)) (old mid new : History) where
  pub ends_at_input : (r : Refusal) → GrewBy (StopsAtInput source names r) old mid → GrewBy (Joins source out names (Err r)) old mid
  ends_at_input r = grew_as (StopsAtInput source names r) (Joins source out names (Err r)) old mid
      (λ events h. at_input source out names r events h)

  module _ (joined : PartialPicture) (whole : Bool) (taken : GrewBy (TakesUnion source names joined whole) old mid) where
    pub ends_for_memory : (name : Bor (List ℕ)) → name.now ≡ out
        → GrewBy (Joins source out names (Err (refusal_at name cause.OutOfMemory))) old mid
    ends_for_memory name named =
        grew_as (TakesUnion source names joined whole) (Joins source out names (Err (refusal_at name cause.OutOfMemory))) old mid
        (λ events h. no_memory source out names name joined whole events named h) taken

    pub is_done : (settled : Bool) (written : List ℕ) → written ≡ text joined → (IsTrue settled ↔ IsSettled joined)
        → GrewBy (HandsOut out written) mid new
        → GrewBy (Joins source out names (finished settled whole)) old new
    is_done settled written is s h =
        grew_on (TakesUnion source names joined whole) (HandsOut out written) (Joins source out names (finished settled whole)) old mid new
        (λ a b t w. done source out names joined settled whole (a ++ b) (record {
          reading = a;
          writing = b;
          events_are = refl;
          taken = t;
          handed = subst (λ (bytes : List ℕ). HandsOut out bytes b) is w;
          settled_is = s;
        })) taken h

    pub ends_at_output : (r : Refusal) (written : List ℕ) → written ≡ text joined
        → GrewBy (StopsAtOutput out written r) mid new
        → GrewBy (Joins source out names (Err r)) old new
    ends_at_output r written is h =
        grew_on (TakesUnion source names joined whole) (StopsAtOutput out written r) (Joins source out names (Err r)) old mid new
        (λ a b t w. at_output source out names r joined whole a b t (subst (λ (bytes : List ℕ). StopsAtOutput out bytes r b) is w)) taken h
