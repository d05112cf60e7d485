-- What comes of `join`.
use Rattle.std.specs.Borrow.{Bor}
use Rattle.std.specs.Prelude.{◌≡◌, ◌↔◌, ℕ, Bool, List, ◌++◌, Option, Err, IsTrue}
use Rattle.jls_partial.specs.Partial.{PartialPicture}
use Rattle.jls_partial.specs.Status.{IsSettled}
use Rattle.jls_partial.specs.Text.{text}
use Rattle.jls_io.specs.Event.{Event}
use Rattle.jls_salvage_run.specs.AllInputs.{TakesUnion, StopsAtInput}
use Rattle.jls_io.specs.Outputs.{HandsOut}
use Rattle.jls_cli.specs.Outputs.{StopsAtOutput}
use Rattle.jls_cli.specs.Outcomes.{Outcome, finished, refusal_at}
use Rattle.jls_cli.specs.declared.outcome.Refusal.{Refusal}
use Rattle.jls_cli.specs.declared.outcome.Cause.TheVariants as cause

-- a `join` that is done: the inputs were taken in turn; then the output was created and handed the text of the union of all
-- that they gave
pub record JoinIsDone (source : Option ℕ) (out : List ℕ) (names : List (List ℕ)) (joined : PartialPicture)
    (settled whole : Bool) (events : List Event) : Type 0 where
  pub reading : List Event
  pub writing : List Event
  pub events_are : events ≡ reading ++ writing
  pub taken : TakesUnion source names joined whole reading
  pub handed : HandsOut out (text joined) writing
  pub settled_is : IsTrue settled ↔ IsSettled joined

-- what comes of a `join`, with the names of its output and inputs. It is done, an input stops it, memory runs out for the text when all
-- inputs were taken, or the output stops it
pub data Joins : Option ℕ → List ℕ → List (List ℕ) → Outcome → List Event → Type 0 where
  done : (source : Option ℕ) (out : List ℕ) (names : List (List ℕ)) (joined : PartialPicture) (settled whole : Bool) (events : List Event)
      → JoinIsDone source out names joined settled whole events → Joins source out names (finished settled whole) events
  at_input : (source : Option ℕ) (out : List ℕ) (names : List (List ℕ)) (r : Refusal) (events : List Event)
      → StopsAtInput source names r events → Joins source out names (Err r) events
  no_memory : (source : Option ℕ) (out : List ℕ) (names : List (List ℕ)) (name : Bor (List ℕ))
      (joined : PartialPicture) (whole : Bool) (events : List Event)
      → name.now ≡ out → TakesUnion source names joined whole events
      → Joins source out names (Err (refusal_at name cause.OutOfMemory)) events
  at_output : (source : Option ℕ) (out : List ℕ) (names : List (List ℕ)) (r : Refusal)
      (joined : PartialPicture) (whole : Bool) (reading writing : List Event)
      → TakesUnion source names joined whole reading → StopsAtOutput out (text joined) r writing
      → Joins source out names (Err r) (reading ++ writing)
