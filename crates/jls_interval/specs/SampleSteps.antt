-- A sample that is read a few bits at a time.
use Rattle.std.specs.Prelude.{◌≡◌, ◌≢◌, ℕ, ◌-◌, ◌≤◌, Bool, true, pos, List, [], ◌++◌}
use Rattle.jls_values.specs.Params.{CodingParameters, qbpp, limit}
use Rattle.jls_context.specs.declared.mode.Neighbours.{Neighbours}
use Rattle.jls_context.specs.declared.regular.Cell.{Cell}
use Rattle.jls_context.specs.declared.interruption.RunCell.{RunCell}
use Rattle.jls_context.specs.Regular.{regular_k}
use Rattle.jls_context.specs.Interruption.{run_k}
use Rattle.jls_context.specs.Errors.{IsError}
use Rattle.jls_bits.specs.CodeState.{IsOpen, bits_fed}
use Rattle.jls_interval.specs.Cells.{regular_error, is_same, interruption_error}
use Rattle.jls_interval.specs.Code.{regular_bits, interrupting_bits}
use Rattle.jls_interval.specs.Reading.{NoSample, NoInterruption}
use Rattle.jls_interval.specs.declared.push_sample.SampleStep.{SampleStep}
use Rattle.jls_interval.specs.declared.push_sample.SampleStep.TheVariants.{More, Done, Refused}

-- a sample that isn't whole has taken all bits
abbrev pub HasTakenAll : SampleStep → List Bool → Type 0
HasTakenAll (More code) unread = unread ≡ []
HasTakenAll (Done sample) unread = Unit {0}
HasTakenAll Refused unread = Unit {0}

-- what the bits fed make of a sample in regular mode
abbrev pub SampleStepIs : CodingParameters → Cell → Neighbours → List Bool → SampleStep → Type 0
SampleStepIs p cell near fed (More code) =
    IsOpen (regular_k cell) (limit p) (qbpp p) code × (fed ≡ bits_fed (limit p) (qbpp p) code)
SampleStepIs p cell near fed (Done s) =
    (s.value ≤ p.maxval) × (s.error ≡ regular_error p cell near s.value) × IsError p s.error × (fed ≡ regular_bits p cell near s.value)
SampleStepIs p cell near fed Refused = (more : List Bool) → NoSample p cell near (fed ++ more)

-- the same of the sample that interrupts a run, after a count of J bits
abbrev pub InterruptionStepIs : CodingParameters → RunCell → Neighbours → ℕ → List Bool → SampleStep → Type 0
InterruptionStepIs p cell near order fed (More code) =
    IsOpen (run_k (is_same near) cell) (limit p - order - 1) (qbpp p) code × (fed ≡ bits_fed (limit p - order - 1) (qbpp p) code)
InterruptionStepIs p cell near order fed (Done s) =
    (s.value ≤ p.maxval) × (s.value ≢ near.ra) × (s.error ≡ interruption_error p near s.value) × IsError p s.error × (is_same near ≡ true
    → s.error ≢ pos 0) × (fed ≡ interrupting_bits p cell near order s.value)
InterruptionStepIs p cell near order fed Refused =
    (more : List Bool) → NoInterruption p cell near order (fed ++ more)

-- the first bits of the chunk were taken, and the step is what the bits fed before and these make of the sample
pub record SamplePushed (p : CodingParameters) (cell : Cell) (near : Neighbours) (fed chunk unread : List Bool)
    (step : SampleStep) : Type 0 where
  pub taken : List Bool
  pub chunk_is : chunk ≡ taken ++ unread
  pub step_is : SampleStepIs p cell near (fed ++ taken) step
  pub all : HasTakenAll step unread

-- the same of the sample that interrupts a run, after J bits of its count
pub record InterruptionPushed (p : CodingParameters) (cell : RunCell) (near : Neighbours) (order : ℕ) (fed chunk unread : List Bool)
    (step : SampleStep) : Type 0 where
  pub taken : List Bool
  pub chunk_is : chunk ≡ taken ++ unread
  pub step_is : InterruptionStepIs p cell near order (fed ++ taken) step
  pub all : HasTakenAll step unread
