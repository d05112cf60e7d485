use Rattle.std.proofs.Common.{◌≡◌, ◌+◌, ◌<◌, ◌∙◌, ◌++◌, [], List, ℕ, length, drop, ap, sym, append_assoc, arith}
use Rattle.std.specs.List.{flat_map}
use Rattle.std.proofs.lemmas.List.{append-nil, drop_all, length-map}
use Rattle.std.proofs.lemmas.List.Concat.{flat_map-cons}
use Rattle.jls_values.specs.OrderedSet.{items}
use Rattle.jls_partial.specs.LineSet.{kept_lines, line_sources}
use Rattle.jls_partial.specs.Packed.{Kept}
use Rattle.jls_partial.specs.Text.{reading_text}
use Rattle.jls_partial.specs.declared.version.Version.TheVariants.{Two}
use Rattle.jls_partial.proofs.Growth.{kept_next}
use Rattle.jls_partial.proofs.writing.put_readings.Goals as goal

-- the text of one reading more is put
pub loop-i-preserved : goal.loop-i-preserved
loop-i-preserved c =
    let L = c.args.lines.now in
    let i = c.loop-i.i in
    let g = reading_text Two in
    let k : Kept = (c.get.result.now, c.sources.result.now) in
    let end = c.len-i-end.ensures.value in
    let lt : i < length (items L.lines) = omega (arith, end, c.loop-i-test.true) in
    let left = drop (i + 1) (kept_lines L) in
    ap (λ (t : List ℕ). t ++ flat_map g left) c.in_ok-put_reading.ensures
    ∙ append_assoc c.loop-i.out.items (g k) (flat_map g left)
    ∙ ap (λ (t : List ℕ). c.loop-i.out.items ++ t)
    (sym (ap (flat_map g) (kept_next L i k.0 k.1 lt c.get.ensures.value c.sources.ensures) ∙ flat_map-cons g k left))
    ∙ c.loop-i.invariant

-- the text of all readings is put
pub returns : goal.returns
returns c =
    let L = c.args.lines.now in
    let g = reading_text Two in
    let f = λ (y : List ℕ). let k : Kept = (y, line_sources L y) in k in
    let end = c.len-i-end.ensures.value in
    let none : drop c.loop-i.i (kept_lines L) ≡ [] =
    drop_all c.loop-i.i (kept_lines L) (omega (arith, end, length-map (items L.lines) f)) in
    sym (ap (λ (ks : List Kept). c.loop-i.out.items ++ flat_map g ks) none ∙ append-nil c.loop-i.out.items) ∙ c.loop-i.invariant
