-- A desk in memory, as clauses see it.
use Rattle.std.specs.Prelude.{◌≡◌, ℕ, List, [], ◌∷◌, ◌++◌, length}
use Rattle.std.specs.List.{flat_map}
use Rattle.jls_io.specs.Event.{Event, History, took}
use Rattle.jls_memory.specs.Files.{File}
use Rattle.jls_memory.specs.Inputs.{Reads}
use Rattle.jls_memory.specs.Outputs.{outputs_of}

-- the inputs of a desk, and the events of its life
pub record AtDesk : Type 0 where
  pub inputs : List File
  pub events : History

-- a list behind its length
abbrev pub measured : List ℕ → List ℕ
measured xs = length xs ∷ xs

-- the inputs as one event: a write that took them in order, each name and all bytes of each behind their length
abbrev pub inputs_event : List File → Event
inputs_event inputs = took (flat_map (λ f. measured f.name ++ measured f.bytes) inputs)

-- The history of a desk: the event that stands for its inputs, and then the events of its life. So no run changes the inputs: a history
-- only grows
abbrev pub history_of : AtDesk → History
history_of d = inputs_event d.inputs ∷ d.events

-- what a desk holds is what its events tell: of the input that is open this is left, and the outputs are these
pub record IsKept (inputs : List File) (rest : List ℕ) (outputs : List File) (events : List Event) : Type 0 where
  pub reads : Reads inputs [] rest events
  pub outputs_are : outputs ≡ outputs_of events
