use Rattle.std.proofs.Common.{◌≡◌, ℕ, List, [], ◌∷◌, ◌++◌, ◌-◌, ◌≤◌, length, map, sym, ap, subst, ◌∙◌, arith, append_assoc}
use Rattle.std.specs.List.{AllByRecursion, range_with_len}
use Rattle.std.proofs.lemmas.List.{map-append}
use Rattle.jls_values.proofs.Lists.{all_more}
use Rattle.jls_interval.specs.Lines.{IsLine}
use Rattle.jls_write.specs.Picture.{line_of}
use Rattle.jls_write.proofs.IntervalLines.{map_more, all_by}
use Rattle.jls_write.proofs.intervals.push_row.Goals as goal

-- the line of one component more is there
pub loop-component-preserved : goal.loop-component-preserved
loop-component-preserved c =
    let part = c.args.part.now in
    let pic = part.picture.now in
    let k = c.loop-component.component in
    let before : List (List ℕ) = map (λ line. line.now) c.loop-component.lines.items in
    let line : List ℕ = line_of pic k c.args.row in
    let low : part.first ≤ k = omega arith in
    let new_is : map (λ line. line.now) c.push.new.self.items ≡ before ++ line ∷ [] =
    ap (map (λ line. line.now)) c.in_ok-push.ensures.items ∙ map-append (λ line. line.now) c.loop-component.lines.items (c.line.result ∷ [])
    ∙ ap (λ (t : List ℕ). before ++ t ∷ []) c.line.ensures.value in
    let is_line : IsLine part.options.params pic.shape.width line = (
      ap length (sym c.line.ensures.value) ∙ c.line.ensures.width,
      all_by (λ sample. sample ≤ part.options.params.maxval) line
          (c.requires.part.fit.samples k (let within = c.requires.part.within in omega arith) c.args.row c.requires.row),
    ) in
    record {
      lines = new_is ∙ ap (λ (t : List (List ℕ)). t ++ line ∷ []) c.loop-component.invariant.lines
          ∙ append_assoc (map (λ line. line.now) c.args.lines.now.items)
          (map (λ i. line_of pic i c.args.row) (range_with_len part.first (k - part.first))) (line ∷ [])
          ∙ ap (λ (t : List (List ℕ)). map (λ line. line.now) c.args.lines.now.items ++ t)
          (sym (map_more (λ i. line_of pic i c.args.row) part.first k low));
      each = λ old. subst (AllByRecursion (IsLine part.options.params pic.shape.width)) (sym new_is)
          (all_more (IsLine part.options.params pic.shape.width) before line (c.loop-component.invariant.each old) is_line);
    }
