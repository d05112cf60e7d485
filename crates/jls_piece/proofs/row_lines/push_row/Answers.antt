use Rattle.std.proofs.Common.{◌∷◌, [], ◌++◌, List, ℕ, map, sym, ap, ◌∙◌, append_assoc}
use Rattle.std.proofs.lemmas.List.{append-nil, map-append}
use Rattle.jls_pixel.specs.Pixels.{samples_of}
use Rattle.jls_piece.specs.Lines.{turned}
use Rattle.jls_piece.proofs.RowLines.{turned_none, turned_more}
use Rattle.jls_piece.proofs.row_lines.push_row.Goals as goal

pub loop-component-init : goal.loop-component-init
loop-component-init c =
    let before = map (λ v. v.items) c.args.lines.now.items in
    sym (ap (λ z. before ++ z) (turned_none c.args.row.now) ∙ append-nil before)

-- the line of one component more is pushed
pub loop-component-preserved : goal.loop-component-preserved
loop-component-preserved c =
    let before = map (λ v. v.items) c.args.lines.now.items in
    let row : List (List ℕ) = c.args.row.now in let k : ℕ = c.loop-component.component in
    let line = c.in_ok-component_line.field-0 in
    ap (λ z. map (λ v. v.items) z) c.in_ok-push.ensures.items
    ∙ map-append (λ v. v.items) c.loop-component.lines.items (line ∷ [])
    ∙ ap (λ z. z ++ line.items ∷ []) c.loop-component.invariant
    ∙ ap (λ z. (before ++ turned k row) ++ z ∷ []) c.in_ok-component_line.ensures
    ∙ append_assoc before (turned k row) (samples_of k row ∷ [])
    ∙ ap (λ z. before ++ z) (sym (turned_more k row))
