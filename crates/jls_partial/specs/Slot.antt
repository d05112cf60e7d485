-- One slot: its sources, and how the checker's logic stores one.
use Rattle.std.specs.Coded.{Coded, code_by, coded×, coded_ℕ}
use Rattle.std.specs.Ordering.{nat_cmp}
use Rattle.std.specs.Prelude.{ℕ, refl, Option, Some, None, Box}
use Rattle.std.specs.declared.alloc.Global.{Global}
use Rattle.jls_values.specs.OrderedSet as set
use Rattle.jls_partial.specs.declared.slots.Slot.{Slot}

-- the sources of a line, which has none where there is no set of them
abbrev pub own_sources : Option (Box (set.OrderedSet nat_cmp) Global) → set.OrderedSet nat_cmp
own_sources None = set.empty
own_sources (Some own) = own.value

-- how the checker's logic stores a slot
abbrev pub coded_slot : Coded Slot
coded_slot = code_by (ℕ × set.OrderedSet nat_cmp)
    (coded× coded_ℕ (set.code coded_ℕ))
    (λ s. (s.start, s.sources)) (λ p. record { start = p.0; sources = p.1 }) (λ _. refl)
