-- How an output stops a command.
use Rattle.std.specs.Prelude.{◌≡◌, ℕ, List, [], ◌∷◌}
use Rattle.jls_io.specs.Event.{Event, created, not_created}
use Rattle.jls_io.specs.Writing.{WrotePrefix}
use Rattle.jls_cli.specs.declared.outcome.Cause.TheVariants as cause
use Rattle.jls_cli.specs.declared.outcome.Refusal.{Refusal}

-- the output of this name stops the command for this refusal, which has its name. It is not created, or it was handed so many of the first
-- bytes when a write failed
pub data StopsAtOutput (name bytes : List ℕ) (r : Refusal) : List Event → Type 0 where
  not_there : r.name.now ≡ name → r.cause ≡ cause.NotCreated → StopsAtOutput name bytes r (not_created name ∷ [])
  cut : (count : ℕ) (writes : List Event) → r.name.now ≡ name → r.cause ≡ cause.NotWritten count → WrotePrefix bytes count writes
      → StopsAtOutput name bytes r (created name ∷ writes)
