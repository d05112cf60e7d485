use Rattle.std.proofs.Common.{ℕ, ◌∷◌, [], List, get_or, ap, sym, subst, ◌∙◌, arith}
use Rattle.std.specs.Prelude.{slice_get}
use Rattle.jls_partial.specs.Slots.{slots_of}
use Rattle.jls_partial.specs.Packed.{lines_of}
use Rattle.jls_partial.specs.PackedLines.{seen_lines, IsLineSet}
use Rattle.jls_partial.specs.Stored.{lines_in}
use Rattle.jls_partial.proofs.LineSets.{lines_kept, length_kept, marks_held}
use Rattle.jls_partial.proofs.SourcedLines.{sourced_kept, sourced_seen, line_found, line_got}
use Rattle.jls_partial.proofs.packed_lines.PackedLines.mark.Goals as goal

-- the slots are a line set still
pub returns-clause-slots : goal.returns-clause-slots
returns-clause-slots c =
    let packed = c.args.self.now in
    let slots = slots_of c.args.slots.now in
    subst (IsLineSet packed.precision packed.width packed.samples.items) (sym c.in_ok-add_sources.ensures.ok)
    (sourced_kept packed.precision packed.width packed.samples.items (get_or (lines_of packed.width packed.samples.items slots) c.args.i [])
    slots c.args.i (c.args.source ∷ []) c.requires.slots c.requires.within
    (line_found packed.width packed.samples.items slots c.args.i c.requires.within))

-- the line has the source, and nothing else has changed
pub returns-clause-ok : goal.returns-clause-ok
returns-clause-ok c =
    let packed = c.args.self.now in
    let slots = slots_of c.args.slots.now in
    let before = lines_in packed c.args.slots.now in
    let after = lines_in packed c.add_sources.new.self in
    let kept = returns-clause-slots c in
    let many = length_kept packed.precision packed.width packed.samples.items (slots_of c.add_sources.new.self) after kept (λ _. after) in
    let small = c.len.ensures.small in
    record {
      puts = λ samples got.
          let found = line_got (lines_of packed.width packed.samples.items slots) c.args.i samples
          (ap (λ (xs : List (List ℕ)). slice_get xs c.args.i)
          (sym (lines_kept packed.precision packed.width packed.samples.items slots before c.requires.slots (λ _. before))) ∙ got) in
          record {
            new_is = ap (seen_lines packed.precision packed.width packed.samples.items) c.in_ok-add_sources.ensures.ok
                ∙ sourced_seen packed.precision packed.width packed.samples.items samples slots c.args.i (c.args.source ∷ [])
                c.requires.slots c.requires.within found;
            countable = omega (arith, many, small);
            marks_held = λ x t h. marks_held packed.precision packed.width packed.samples.items (slots_of c.add_sources.new.self) after
                (λ _. after) x t h;
          };
    }
