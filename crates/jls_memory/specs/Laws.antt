-- The laws of desks in memory.
use Rattle.std.specs.Prelude.{◌≡◌, ℕ, List, [], ◌∷◌, ◌++◌}
use Rattle.jls_io.specs.Event.{Event, created}
use Rattle.jls_io.specs.Outputs.{HandsOut}
use Rattle.jls_memory.specs.Desks.{AtDesk, history_of}
use Rattle.jls_memory.specs.Outputs.{outputs_of}

-- where the history of a desk grew by events, its inputs are those that it had, and so did its life
abbrev pub GrownDesksKeepTheirInputs : Type 0
GrownDesksKeepTheirInputs =
    (old new : AtDesk) (events : List Event) → history_of new ≡ history_of old ++ events
    → (new.inputs ≡ old.inputs) × (new.events ≡ old.events ++ events)

-- events that create an output, or none at all
abbrev pub BeginsAfresh : List Event → Type 0
BeginsAfresh [] = Unit {0}
BeginsAfresh (created name ∷ more) = Unit {0}
BeginsAfresh (_ ∷ more) = ⊥

-- an output that was created and handed these bytes holds them. What was created before it holds what it held
abbrev pub OutputsHoldWhatIsHandedOut : Type 0
OutputsHoldWhatIsHandedOut =
    ((name bytes : List ℕ) (handing : List Event) → HandsOut name bytes handing
    → outputs_of handing ≡ record { name = name; bytes = bytes } ∷ [])
    × ((before after : List Event) → BeginsAfresh after → outputs_of (before ++ after) ≡ outputs_of before ++ outputs_of after)
