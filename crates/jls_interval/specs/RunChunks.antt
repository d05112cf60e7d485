-- A run that is given several bits at once.
use Rattle.std.specs.Prelude.{◌≡◌, ℕ, Bool, List, [], ◌++◌}
use Rattle.jls_interval.specs.RunState.{RunAt, RunStepIs}
use Rattle.jls_interval.specs.declared.run_reader.RunState.{RunState}
use Rattle.jls_interval.specs.declared.run_reader.RunStep.{RunStep}
use Rattle.jls_interval.specs.declared.run_reader.RunStep.TheVariants.{More, Done, Refused}

-- a run that isn't whole has taken all bits
abbrev pub HasTakenAll : RunStep → List Bool → Type 0
HasTakenAll (More state) unread = unread ≡ []
HasTakenAll (Done run) unread = Unit {0}
HasTakenAll Refused unread = Unit {0}

-- the first bits of the chunk were taken, and the step is what the bits fed before and these make of the run
pub record RunPushed (w0 : ℕ) (state : RunState) (chunk unread : List Bool) (step : RunStep) : Type 0 where
  pub taken : List Bool
  pub chunk_is : chunk ≡ taken ++ unread
  pub step_is : (r0 : ℕ) (fed : List Bool) → RunAt r0 w0 fed state → RunStepIs r0 w0 (fed ++ taken) step
  pub all : HasTakenAll step unread
