-- What the bits of an event that breaks off can go on to, by the machine in hand. It concerns no caller.
use Rattle.std.specs.Prelude.{ℕ, ◌<◌, ◌≤◌, ◌≡◌, Bool, List}
use Rattle.jls_values.specs.Params.{CodingParameters}
use Rattle.jls_context.specs.declared.mode.Neighbours.{Neighbours}
use Rattle.jls_context.specs.declared.regular.Cell.{Cell}
use Rattle.jls_context.specs.declared.interruption.RunCell.{RunCell}
use Rattle.jls_interval.specs.Events.{Event, Above}
use Rattle.jls_interval.specs.Runs.{blocks}
use Rattle.jls_interval.specs.Code.{regular_bits, interrupting_bits, interrupted_run_bits, event_bits}
use Rattle.jls_interval.specs.Growth.{Fits}
use Rattle.jls_interval.specs.OpenEvents.{now_at}
use Rattle.jls_interval.specs.CutEvents.{IsProperPrefix}

-- the bits fed are a proper prefix of those of a sample of regular mode
pub record BeginsSample (p : CodingParameters) (cell : Cell) (near : Neighbours) (fed : List Bool) : Type 0 where
  pub sample : ℕ
  pub at_most : sample ≤ p.maxval
  pub cut : IsProperPrefix fed (regular_bits p cell near sample)

-- of those of a sample that interrupts a run, after J bits of its count
pub record BeginsInterruption (p : CodingParameters) (cell : RunCell) (near : Neighbours) (order : ℕ) (fed : List Bool) : Type 0 where
  pub sample : ℕ
  pub at_most : sample ≤ p.maxval
  pub another : sample ≡ near.ra → ⊥
  pub cut : IsProperPrefix fed (interrupting_bits p cell near order sample)

-- of those of a run, from RUNindex r0 on where w0 columns were left, that any sample interrupts
pub record BeginsRun (r0 w0 : ℕ) (fed : List Bool) : Type 0 where
  pub count : ℕ
  pub short : count < w0
  pub cut : (sample : List Bool) → IsProperPrefix fed (interrupted_run_bits (blocks r0 count) sample)

-- of those of an event that can come next in a line of a component
pub record BeginsEvent (p : CodingParameters) (w component : ℕ) (up : Above) (line : List ℕ) (fed : List Bool)
    (earlier : List Event) : Type 0 where
  pub event : Event
  pub fits : Fits p w component up line (now_at w up line) event
  pub cut : IsProperPrefix fed (event_bits p earlier event)
