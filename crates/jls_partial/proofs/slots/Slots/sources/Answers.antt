use Rattle.std.proofs.Common.{◌≡◌, ◌<◌, ℕ, zero, suc, List, [], ◌∷◌, length, ap, sym, subst, ◌∙◌, arith}
use Rattle.jls_values.specs.OrderedSet as set
use Rattle.jls_partial.specs.declared.slots.Slot.{Slot}
use Rattle.jls_partial.specs.Slots.{slots_of, slot_at}
use Rattle.jls_partial.proofs.LineSets.{no_items}
use Rattle.jls_partial.proofs.slots.Slots.sources.Goals as goal

-- a line without sources has none
lone_sources : (start at : ℕ) → at < 1 → [] ≡ set.items (slot_at (record { start = start; sources = set.empty } ∷ []) at).sources
lone_sources start zero lt = sym no_items
lone_sources start (suc at) lt = absurd (omega arith)

pub returns-in-Lone : goal.returns-in-Lone
returns-in-Lone c =
    let lt : c.args.at < 1 = subst (λ (ss : List Slot). c.args.at < length ss) (ap slots_of c.in-Lone.is) c.requires in
    lone_sources _ c.args.at lt ∙ ap (λ (ss : List Slot). set.items (slot_at ss c.args.at).sources) (sym (ap slots_of c.in-Lone.is))
