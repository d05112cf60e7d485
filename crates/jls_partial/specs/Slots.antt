-- What slots are seen as: the list of them, in order.
use Rattle.std.specs.Prelude.{ℕ, List, [], ◌∷◌, slice_index_or}
use Rattle.jls_values.specs.OrderedSet as set
use Rattle.jls_partial.specs.declared.slots.Slots.{Slots}
use Rattle.jls_partial.specs.declared.slots.Slots.TheVariants.{Empty, Lone, Many}
use Rattle.jls_partial.specs.declared.slots.Slot.{Slot}

-- what slots are seen as: the list of them, in order
abbrev pub slots_of : Slots → List Slot
slots_of Empty = []
slots_of (Lone start) = record { start = start; sources = set.empty } ∷ []
slots_of (Many tree) = tree.value

-- whether the slot of one more can be put in beside those that are there
abbrev pub HasRoom : Slots → Type 0
HasRoom Empty = ⊥
HasRoom (Lone start) = ⊥
HasRoom (Many tree) = Unit {0}

-- the slot that has so many others before it
abbrev pub no_slot : Slot
no_slot = record { start = 0; sources = set.empty }

-- the slot that has so many others before it, or an empty one
abbrev pub slot_at : List Slot → ℕ → Slot
slot_at slots at = slice_index_or slots at no_slot
