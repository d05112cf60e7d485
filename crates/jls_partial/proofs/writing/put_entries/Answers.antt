use Rattle.std.proofs.Common.{◌∙◌, ◌++◌, List, ℕ, map, ap, sym, append_assoc}
use Rattle.std.specs.List.{flat_map}
use Rattle.std.proofs.lemmas.List.{append-nil}
use Rattle.std.proofs.lemmas.List.Concat.{flat_map-cons}
use Rattle.jls_partial.specs.Held.{kept_entry}
use Rattle.jls_partial.specs.LineEntries.{LineEntry}
use Rattle.jls_partial.specs.Text.{entry_text}
use Rattle.jls_partial.specs.declared.version.Version.TheVariants.{Two}
use Rattle.jls_partial.proofs.writing.put_entries.Goals as goal

-- the text of one entry more is put
pub loop-at-preserved : goal.loop-at-preserved
loop-at-preserved c =
    let g = entry_text Two in
    let e : LineEntry = (c.in-Some.at, c.in-Some.lines) in
    let left = map kept_entry c.next.new.self in
    ap (λ (t : List ℕ). t ++ flat_map g left) c.in_ok-put_entry.ensures
    ∙ append_assoc c.loop-at.out.items (g (kept_entry e)) (flat_map g left)
    ∙ ap (λ (t : List ℕ). c.loop-at.out.items ++ t)
    (sym (ap (λ (es : List LineEntry). flat_map g (map kept_entry es)) c.in-Some.ensures.steps ∙ flat_map-cons g (kept_entry e) left))
    ∙ c.loop-at.invariant

pub returns : goal.returns
returns c =
    let g = entry_text Two in
    sym (ap (λ (es : List LineEntry). c.loop-at.out.items ++ flat_map g (map kept_entry es)) c.in-None.ensures.steps.0
    ∙ append-nil c.loop-at.out.items) ∙ c.loop-at.invariant
