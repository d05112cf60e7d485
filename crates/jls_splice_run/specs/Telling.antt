-- What is told of how far searches are.
use Rattle.std.specs.Prelude.{◌≡◌, ℕ, Bool, true, false, List, [], ◌++◌}
use Rattle.jls_io.specs.Event.{Event}
use Rattle.jls_io.specs.Writing.{Printed}
use Rattle.jls_splice_run.specs.Lines.{progress_line}

-- lines of progress, one after the other
pub data AreProgressLines : List Event → Type 0 where
  no_line : AreProgressLines []
  one_line : (tries files : ℕ) (events more : List Event) → AreProgressLines events → Printed (progress_line tries files) more
      → AreProgressLines (events ++ more)

-- such lines are told if they are asked for, and else nothing
abbrev pub IsTold : Bool → List Event → Type 0
IsTold true events = AreProgressLines events
IsTold false events = events ≡ []
