use Rattle.std.proofs.Common.{◌≡◌, ℕ, ◌<◌, List, length, take, drop, Some, refl, ap, sym, subst, ◌∙◌, arith}
use Rattle.std.specs.Prelude.{slice_get, IfSome}
use Rattle.std.proofs.lemmas.List.{length-map, get_or_default}
use Rattle.std.proofs.lemmas.Option.{slice_get_read}
use Rattle.jls_values.specs.OrderedSet as sets
use Rattle.jls_partial.specs.Slots.{slots_of, no_slot, slot_at}
use Rattle.jls_partial.specs.declared.slots.Slot.{Slot}
use Rattle.jls_partial.specs.LineSet.{line_sources}
use Rattle.jls_partial.specs.Packed.{lines_of}
use Rattle.jls_partial.proofs.LineSets.{lines_kept, length_kept, sources_lent}
use Rattle.jls_partial.proofs.PackedLines.{line_at}
use Rattle.jls_partial.proofs.lines.Lines.sources.Goals as goal

-- the line is one of the slots
pub sources-requires : goal.sources-requires
sources-requires c =
    let many = length_kept c.self.inside.packed.now.precision c.self.inside.packed.now.width c.self.inside.packed.now.samples.items
    (slots_of c.self.inside.slots.now) c.args.self.now c.self.invariant c.self.view_is in
    let below = c.requires in
    omega (arith, many, below)

-- the sources of the slot are those of the line that has so many below it
pub returns : goal.returns
returns c =
    let w = c.self.inside.packed.now.width in
    let packed = c.self.inside.packed.now.samples.items in
    let slots = (slots_of c.self.inside.slots.now) in
    let s = slot_at slots c.args.i in
    let many = length_kept c.self.inside.packed.now.precision w packed slots c.args.self.now c.self.invariant c.self.view_is in
    let below = c.requires in
    let lt : c.args.i < length slots = omega (arith, many, below) in
    let is = get_or_default slots c.args.i no_slot s lt in
    let line = take w (drop s.start packed) in
    let many_lines : length (lines_of w packed slots) ≡ length slots = length-map slots (λ (t : Slot). take w (drop t.start packed)) in
    let read : slice_get (sets.items c.args.self.now.lines) c.args.i ≡ Some line =
    ap (λ (xs : List (List ℕ)). slice_get xs c.args.i)
    (lines_kept c.self.inside.packed.now.precision w packed slots c.args.self.now c.self.invariant c.self.view_is)
    ∙ slice_get_read (lines_of w packed slots) (length (lines_of w packed slots)) c.args.i line refl (omega (arith, many_lines, lt))
    (sym (line_at w packed slots c.args.i s line lt is)) in
    subst (λ o. IfSome o (λ samples. c.sources.result.now ≡ line_sources c.args.self.now samples)) (sym read)
    (c.sources.ensures ∙ sym (sources_lent c.self.inside.packed.now.precision w packed slots c.args.self.now c.args.i s c.self.invariant
    c.self.view_is lt is))
