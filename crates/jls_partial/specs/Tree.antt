-- What a tree of slots is seen as: the list of them, in order.
use Rattle.std.specs.declared.alloc.Global.{Global}
use Rattle.std.specs.Prelude.{ℕ, zero, suc, Option, Some, None, List, [], ◌∷◌, ◌++◌, Box}
use Rattle.jls_values.specs.OrderedSet as set
use Rattle.jls_partial.specs.declared.slots.Fork.{Fork}
use Rattle.jls_partial.specs.declared.slots.Slot.{Slot}

-- the slots of a fork, in order
abbrev pub fork_slots : Fork → List Slot
fork_slots fork = fork.left ++ fork.slot ∷ fork.right

-- those of a fork that may be missing
abbrev pub root_slots : Option (Box Fork Global) → List Slot
root_slots None = []
root_slots (Some fork) = fork_slots fork.value

-- the slots, of which the one with so many others before it has these sources too
abbrev pub with_sources_at : List Slot → ℕ → List ℕ → List Slot
with_sources_at [] at sources = []
with_sources_at (s ∷ slots) zero sources = record { start = s.start; sources = set.insert_all s.sources sources } ∷ slots
with_sources_at (s ∷ slots) (suc at) sources = s ∷ with_sources_at slots at sources
