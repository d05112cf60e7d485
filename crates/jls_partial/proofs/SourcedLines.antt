-- Sets of lines: a line that is held gets more sources, and there is room for the slot of one line more.
use Rattle.std.proofs.Common.{◌≡◌, ℕ, zero, suc, ◌+◌, ◌<◌, List, [], ◌∷◌, length, get_or, set, take, drop, None, Some, refl, ap, sym, subst}
use Rattle.std.proofs.Common.{◌∙◌, arith}
use Rattle.std.specs.Prelude.{slice_get}
use Rattle.std.proofs.lemmas.List.{get_or_default, length-map}
use Rattle.jls_values.specs.OrderedSet as sets
use Rattle.jls_partial.specs.declared.slots.Slot.{Slot}
use Rattle.jls_partial.specs.Tree.{with_sources_at}
use Rattle.jls_partial.specs.InsertFaults.{samples_fault}
use Rattle.jls_partial.specs.LineSet.{with_lines}
use Rattle.jls_partial.specs.Packed.{lines_of}
use Rattle.jls_partial.specs.PackedLines.{seen_lines, IsLineSet}
use Rattle.jls_partial.proofs.Forks.{sources_set}
use Rattle.jls_partial.proofs.LineSets.{set_kept, set_seen, fitting_length}

module _ (precision width : ℕ) (packed samples : List ℕ) (slots : List Slot) (i : ℕ) (ss : List ℕ)
    (kept : IsLineSet precision width packed slots) (lt : i < length slots)
    (found : get_or (lines_of width packed slots) i samples ≡ samples)
  where
    abbrev here : Slot
    here = get_or slots i (record { start = 0; sources = sets.empty })

    here_is : here ≡ get_or slots i here
    here_is = get_or_default slots i (record { start = 0; sources = sets.empty }) here lt

    is_set : with_sources_at slots i ss ≡ set slots i (record { start = here.start; sources = sets.insert_all here.sources ss })
    is_set = sources_set slots i here ss lt here_is

    pub sourced_kept : IsLineSet precision width packed (with_sources_at slots i ss)
    sourced_kept = subst (IsLineSet precision width packed) (sym is_set)
        (set_kept precision width packed samples slots i here kept lt here_is found (sets.insert_all here.sources ss))

    pub sourced_seen : seen_lines precision width packed (with_sources_at slots i ss)
        ≡ with_lines (seen_lines precision width packed slots) ((samples, ss) ∷ [])
    sourced_seen = ap (seen_lines precision width packed) is_set
        ∙ set_seen precision width packed samples slots i here kept lt here_is found (sets.insert_all here.sources ss) ss refl

-- a line of its place is found there
pub line_found : (width : ℕ) (packed : List ℕ) (slots : List Slot) (i : ℕ) → i < length slots
    → get_or (lines_of width packed slots) i (get_or (lines_of width packed slots) i []) ≡ get_or (lines_of width packed slots) i []
line_found width packed slots i lt =
    let many : length (lines_of width packed slots) ≡ length slots = length-map slots (λ (t : Slot). take width (drop t.start packed)) in
    get_or_default (lines_of width packed slots) i _ [] (omega (arith, many, lt))

-- a line that was got by its place is found there
pub line_got : (lines : List (List ℕ)) (i : ℕ) (x : List ℕ) → slice_get lines i ≡ Some x → get_or lines i x ≡ x
line_got [] i x e = absurd cc
line_got (y ∷ lines) zero x e = cc
line_got (y ∷ lines) (suc i) x e = line_got lines i x e

-- each line has a sample at least, so there are fewer lines than samples with those of one line more
pub room : (precision width : ℕ) (packed samples : List ℕ) (slots : List Slot) → IsLineSet precision width packed slots
    → samples_fault precision width samples ≡ None → length slots < length packed + length samples
room precision width packed samples slots kept fits =
    let wide = kept.width_at_least in
    let few = kept.packed_lines.few in
    let long = fitting_length precision width samples fits in
    omega (arith, wide, few, long)
