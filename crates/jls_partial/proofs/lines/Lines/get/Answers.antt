use Rattle.std.proofs.Common.{◌≡◌, ℕ, ◌+◌, ◌<◌, ◌≤◌, List, length, get_or, take, drop, Some, None, refl, ap, sym, subst, ◌∙◌, arith}
use Rattle.std.specs.Prelude.{slice_get}
use Rattle.std.proofs.lemmas.List.{length-map, get_or_default}
use Rattle.std.proofs.lemmas.Option.{slice_get_read}
use Rattle.jls_partial.specs.Slots.{slots_of, no_slot, slot_at}
use Rattle.jls_partial.specs.declared.slots.Slot.{Slot}
use Rattle.jls_partial.specs.InsertFaults.{samples_fault}
use Rattle.jls_partial.specs.LineSet.{PictureLines}
use Rattle.jls_partial.specs.Packed.{lines_of}
use Rattle.jls_partial.proofs.LineSets.{lines_kept, length_kept}
use Rattle.jls_partial.proofs.PackedLines.{inside_at, line_at}
use Rattle.jls_partial.proofs.Views.{all-slice_get}
use Rattle.jls_partial.proofs.lines.Lines.get.Goals as goal

-- the line is one of the slots
pub start-requires : goal.start-requires
start-requires c =
    let packed = c.self.inside.packed.now in
    let many = length_kept packed.precision packed.width packed.samples.items (slots_of c.self.inside.slots.now) c.args.self.now
    c.self.invariant c.self.view_is in
    let below = c.requires in
    omega (arith, many, below)

-- the line is the one of its slot
read : (precision width : ℕ) (packed : List ℕ) (slots : List Slot) (i : ℕ) (s : Slot) (x : List ℕ) → i < length slots → s ≡ get_or slots i s
    → x ≡ take width (drop s.start packed) → slice_get (lines_of width packed slots) i ≡ Some x
read precision width packed slots i s x lt is e =
    let many : length (lines_of width packed slots) ≡ length slots = length-map slots (λ (t : Slot). take width (drop t.start packed)) in
    slice_get_read (lines_of width packed slots) (length (lines_of width packed slots)) i x refl (omega (arith, many, lt))
    (e ∙ sym (line_at width packed slots i s x lt is))

itself : (slots : List Slot) (i : ℕ) → i < length slots → slot_at slots i ≡ get_or slots i (slot_at slots i)
itself slots i lt = get_or_default slots i no_slot (slot_at slots i) lt

-- the samples of a slot lie in the store
pub samples_at-requires : goal.samples_at-requires
samples_at-requires c =
    let packed = c.self.inside.packed.now in
    let slots = slots_of c.self.inside.slots.now in
    let many = length_kept packed.precision packed.width packed.samples.items slots c.args.self.now c.self.invariant c.self.view_is in
    let below = c.requires in
    let lt : c.args.i < length slots = omega (arith, many, below) in
    subst (λ (ps : List ℕ). c.start.result + packed.width ≤ length ps) (sym c.deref.ensures.value)
    (subst (λ (n : ℕ). n + packed.width ≤ length packed.samples.items) (sym c.start.ensures)
    (inside_at packed.width packed.samples.items slots c.args.i (slot_at slots c.args.i) c.self.invariant.packed_lines.inside lt
    (itself slots c.args.i lt)))

-- the samples of the slot are the line that has so many below it
pub returns-clause-value : goal.returns-clause-value
returns-clause-value c =
    let packed = c.self.inside.packed.now in
    let slots = slots_of c.self.inside.slots.now in
    let many = length_kept packed.precision packed.width packed.samples.items slots c.args.self.now c.self.invariant c.self.view_is in
    let below = c.requires in
    let lt : c.args.i < length slots = omega (arith, many, below) in
    ap (λ (xs : List (List ℕ)). slice_get xs c.args.i)
    (lines_kept packed.precision packed.width packed.samples.items slots c.args.self.now c.self.invariant c.self.view_is)
    ∙ read packed.precision packed.width packed.samples.items slots c.args.i (slot_at slots c.args.i) c.samples_at.result.now lt
    (itself slots c.args.i lt)
    (c.samples_at.ensures ∙ (λ i. take packed.width (drop (c.start.ensures i) (c.deref.ensures.value i))))

-- the line fits
pub returns-clause-fitting : goal.returns-clause-fitting
returns-clause-fitting c =
    let packed = c.self.inside.packed.now in
    let slots = slots_of c.self.inside.slots.now in
    subst (λ (z : PictureLines). samples_fault z.precision z.width c.samples_at.result.now ≡ None) c.self.view_is
    (all-slice_get (λ x. samples_fault packed.precision packed.width x ≡ None) (lines_of packed.width packed.samples.items slots) c.args.i
    c.samples_at.result.now c.self.invariant.fitting
    (ap (λ (xs : List (List ℕ)). slice_get xs c.args.i)
    (sym (lines_kept packed.precision packed.width packed.samples.items slots c.args.self.now c.self.invariant c.self.view_is))
    ∙ returns-clause-value c))
