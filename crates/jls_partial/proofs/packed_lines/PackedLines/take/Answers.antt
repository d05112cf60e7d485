use Rattle.std.proofs.Common.{◌≡◌, ◌<◌, ◌+◌, ℕ, List, [], ◌∷◌, ◌++◌, length, true, false, not, get_or, ap, sym, subst, ◌∙◌}
use Rattle.std.specs.Cmp.Lexicographic.{slice_cmp}
use Rattle.std.specs.List.{insert}
use Rattle.std.specs.Ordering.{nat_cmp}
use Rattle.jls_values.specs.OrderedSet as sets
use Rattle.jls_partial.specs.Slots.{slots_of}
use Rattle.jls_partial.specs.declared.slots.Fork.{Fork}
use Rattle.jls_partial.specs.declared.slots.Slot.{Slot}
use Rattle.jls_partial.specs.LineSet.{with_lines}
use Rattle.jls_partial.specs.Packed.{lines_of, IsGap}
use Rattle.jls_partial.specs.PackedLines.{seen_lines, IsLineSet}
use Rattle.jls_partial.specs.Stored.{lines_in}
use Rattle.jls_partial.proofs.LineSets.{found_held, gap_new, put_kept, put_seen, with_own, fitting_length}
use Rattle.jls_partial.proofs.SourcedLines.{sourced_kept, sourced_seen, room}
use Rattle.jls_partial.proofs.packed_lines.PackedLines.take.Goals.{In-Ok, In-Err, In_ok-put-in-Err}
use Rattle.jls_partial.proofs.packed_lines.PackedLines.take.Goals as goal

pub put-requires-clause-fits : goal.put-requires-clause-fits
put-requires-clause-fits c =
    let packed = c.args.self.now in
    subst (λ (ss : List Slot). length ss < length packed.samples.items + length c.args.samples.now) (sym c.in_ok-new-in-Err.ensures.same)
    (room packed.precision packed.width packed.samples.items c.args.samples.now (slots_of c.args.slots.now) c.requires.slots
    c.requires.fits)

-- ---- a line that is there

found : (c : In-Ok) → get_or (lines_of c.args.self.now.width c.args.self.now.samples.items (slots_of c.args.slots.now)) c.in-Ok.at
    c.args.samples.now ≡ c.args.samples.now
found c =
    subst (λ (ps : List ℕ). get_or (lines_of c.args.self.now.width ps (slots_of c.args.slots.now)) c.in-Ok.at c.args.samples.now
    ≡ c.args.samples.now) c.deref.ensures.value c.in-Ok.ensures.same

-- the line is held: the slots are a line set still
pub returns-in_ok-add_sources-in-Ok-clause-slots : goal.returns-in_ok-add_sources-in-Ok-clause-slots
returns-in_ok-add_sources-in-Ok-clause-slots c =
    let packed = c.args.self.now in
    let here = (goal.at.returns-in_ok-add_sources-in-Ok-clause-slots c).In-Ok in
    subst (IsLineSet packed.precision packed.width packed.samples.items) (sym c.in_ok-add_sources-in-Ok.ensures.ok)
    (sourced_kept packed.precision packed.width packed.samples.items c.args.samples.now (slots_of c.args.slots.now) c.in-Ok.at
    c.args.sources.now c.requires.slots c.in-Ok.ensures.found (found here))

-- the line is held, and has the sources
pub returns-in_ok-add_sources-in-Ok-clause-ok : goal.returns-in_ok-add_sources-in-Ok-clause-ok
returns-in_ok-add_sources-in-Ok-clause-ok c =
    let packed = c.args.self.now in
    let here = (goal.at.returns-in_ok-add_sources-in-Ok-clause-ok c).In-Ok in
    ap (seen_lines packed.precision packed.width packed.samples.items) c.in_ok-add_sources-in-Ok.ensures.ok
    ∙ sourced_seen packed.precision packed.width packed.samples.items c.args.samples.now (slots_of c.args.slots.now) c.in-Ok.at
    c.args.sources.now c.requires.slots c.in-Ok.ensures.found (found here)

-- the line is held, so it is not new
pub returns-in_ok-add_sources-in-Ok-clause-added : goal.returns-in_ok-add_sources-in-Ok-clause-added
returns-in_ok-add_sources-in-Ok-clause-added c =
    let packed = c.args.self.now in
    let slots = slots_of c.args.slots.now in
    let here = (goal.at.returns-in_ok-add_sources-in-Ok-clause-added c).In-Ok in
    sym (ap not (found_held packed.precision packed.width packed.samples.items slots (lines_in packed c.args.slots.now) c.requires.slots
    (λ _. lines_in packed c.args.slots.now) c.in-Ok.at c.args.samples.now c.in-Ok.ensures.found (found here)))

-- ---- a line that is new

gap : (c : In-Err) → IsGap (slice_cmp nat_cmp) (lines_of c.args.self.now.width c.args.self.now.samples.items (slots_of c.args.slots.now))
    c.in-Err.at c.args.samples.now
gap c =
    subst (λ (ps : List ℕ). IsGap (slice_cmp nat_cmp) (lines_of c.args.self.now.width ps (slots_of c.args.slots.now)) c.in-Err.at
    c.args.samples.now) c.deref.ensures.value c.in-Err.ensures.gap

none_held : (c : In-Err) → sets.contains (lines_in c.args.self.now c.args.slots.now).lines c.args.samples.now ≡ false
none_held c =
    let packed = c.args.self.now in
    let now = lines_in packed c.args.slots.now in
    gap_new packed.precision packed.width packed.samples.items (slots_of c.args.slots.now) now c.requires.slots (λ _. now) c.in-Err.at
    c.args.samples.now (gap c)

pub returns-in_err-slot-in-Err-clause-no_memory : goal.returns-in_err-slot-in-Err-clause-no_memory
returns-in_err-slot-in-Err-clause-no_memory c = λ h _.
    let bad : true ≡ false = sym h ∙ none_held (goal.at.returns-in_err-slot-in-Err-clause-no_memory c).In-Err in
    absurd cc

pub returns-in_err-new-in-Err-clause-no_memory : goal.returns-in_err-new-in-Err-clause-no_memory
returns-in_err-new-in-Err-clause-no_memory c = λ h _.
    let bad : true ≡ false = sym h ∙ none_held (goal.at.returns-in_err-new-in-Err-clause-no_memory c).In-Err in
    absurd cc

pub returns-in_err-put-in-Err-clause-no_memory : goal.returns-in_err-put-in-Err-clause-no_memory
returns-in_err-put-in-Err-clause-no_memory c = λ h _.
    let bad : true ≡ false = sym h ∙ none_held (goal.at.returns-in_err-put-in-Err-clause-no_memory c).In-Err in
    absurd cc

pub returns-in_ok-put-in-Err-clause-added : goal.returns-in_ok-put-in-Err-clause-added
returns-in_ok-put-in-Err-clause-added c = sym (ap not (none_held (goal.at.returns-in_ok-put-in-Err-clause-added c).In-Err))

-- its slot is among the others
slots_are : (c : In_ok-put-in-Err) → slots_of c.put.new.slots
    ≡ insert (slots_of c.args.slots.now) c.in-Err.at
    (record { start = length c.args.self.now.samples.items; sources = c.in_ok-slot-in-Err.slot.sources })
slots_are c =
    let slot_is : c.in_ok-new-in-Err.new.value.slot
    ≡ record { start = length c.args.self.now.samples.items; sources = c.in_ok-slot-in-Err.slot.sources } =
    ap (λ (f : Fork). f.slot) c.in_ok-new-in-Err.ensures.made
    ∙ (λ i. record { start = c.in_ok-slot-in-Err.ensures.start i; sources = c.in_ok-slot-in-Err.slot.sources }) in
    c.in_ok-put-in-Err.ensures.slots_ok ∙ (λ i. insert (c.in_ok-new-in-Err.ensures.same i) c.in-Err.at (slot_is i))

-- the line is new, and its slot is put in
pub returns-in_ok-put-in-Err-clause-slots : goal.returns-in_ok-put-in-Err-clause-slots
returns-in_ok-put-in-Err-clause-slots c =
    let here = goal.at.returns-in_ok-put-in-Err-clause-slots c in
    let packed = c.args.self.now in
    let x = c.args.samples.now in
    subst (λ (ps : List ℕ). IsLineSet packed.precision packed.width ps (slots_of c.put.new.slots))
    (sym c.in_ok-put-in-Err.ensures.packed_ok)
    (subst (λ (ss : List Slot). IsLineSet packed.precision packed.width (packed.samples.items ++ x) ss)
    (sym (slots_are here.In_ok-put-in-Err))
    (put_kept packed.precision packed.width packed.samples.items x (slots_of c.args.slots.now) c.in-Err.at c.requires.slots
    (gap here.In-Err) c.requires.fits (fitting_length packed.precision packed.width x c.requires.fits) c.in_ok-slot-in-Err.slot.sources))

-- the line is new, and is taken with its sources
pub returns-in_ok-put-in-Err-clause-ok : goal.returns-in_ok-put-in-Err-clause-ok
returns-in_ok-put-in-Err-clause-ok c =
    let here = goal.at.returns-in_ok-put-in-Err-clause-ok c in
    let packed = c.args.self.now in
    let x = c.args.samples.now in
    let before = lines_in packed c.args.slots.now in
    (λ i. seen_lines packed.precision packed.width (c.in_ok-put-in-Err.ensures.packed_ok i) (slots_are here.In_ok-put-in-Err i))
    ∙ put_seen packed.precision packed.width packed.samples.items x (slots_of c.args.slots.now) c.in-Err.at c.requires.slots
    (gap here.In-Err) c.requires.fits (fitting_length packed.precision packed.width x c.requires.fits) c.in_ok-slot-in-Err.slot.sources
    ∙ ap (λ (t : sets.OrderedSet nat_cmp). with_lines before ((x, sets.items t) ∷ [])) c.in_ok-slot-in-Err.ensures.sources
    ∙ with_own before x c.args.sources.now
