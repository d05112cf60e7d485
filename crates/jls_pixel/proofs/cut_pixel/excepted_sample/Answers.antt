use Rattle.std.proofs.Common.{◌≡◌, ℕ, List, [], ◌∷◌, ◌++◌, sym, ap, ◌∙◌, subst}
use Rattle.std.specs.Prelude.{Some, None}
use Rattle.std.specs.Cmp.Lexicographic.{same_text, other_text}
use Rattle.jls_pixel.specs.Pixels.{RowsAbove, pixel_neighbours, run_value}
use Rattle.jls_pixel.specs.Place.{above_of}
use Rattle.jls_pixel.specs.OpenEvents.{IsExcepted}
use Rattle.jls_pixel.proofs.cut_pixel.excepted_sample.Goals as goal

pub returns-then-is_same : goal.returns-then-is_same
returns-then-is_same c =
    let w = c.args.place.now.width in let n = c.args.place.now.components in let up : RowsAbove = above_of c.args.place.now in
    let v : List ℕ = run_value (pixel_neighbours w up c.args.row.now n) in let ra : ℕ = c.args.ra in
    let first : List ℕ = c.args.first.now in
    let own : first ++ ra ∷ [] ≡ v =
    sym (c.push.ensures ∙ ap (λ z. z ++ ra ∷ []) c.to_owned-own.ensures)
    ∙ same_text _ _ (sym c.if-is_same.true ∙ c.is_same.ensures) ∙ c.run_value.ensures in
    subst (λ z. IsExcepted z v first ra (Some ra)) (sym c.in-Interrupting.is) own

pub returns-else-is_same : goal.returns-else-is_same
returns-else-is_same c =
    let w = c.args.place.now.width in let n = c.args.place.now.components in let up : RowsAbove = above_of c.args.place.now in
    let v : List ℕ = run_value (pixel_neighbours w up c.args.row.now n) in let ra : ℕ = c.args.ra in
    let first : List ℕ = c.args.first.now in
    let other : first ++ ra ∷ [] ≡ v → ⊥ = λ e.
    other_text _ _ (sym c.if-is_same.false ∙ c.is_same.ensures)
    (c.push.ensures ∙ ap (λ z. z ++ ra ∷ []) c.to_owned-own.ensures ∙ e ∙ sym c.run_value.ensures) in
    subst (λ z. IsExcepted z v first ra None) (sym c.in-Interrupting.is) other
