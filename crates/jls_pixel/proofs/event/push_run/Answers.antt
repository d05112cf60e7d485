use Rattle.std.proofs.Common.{◌≡◌, ℕ, List, [], ◌∷◌, ◌++◌, replicate, ap, ◌∙◌, append_assoc}
use Rattle.std.proofs.lemmas.List.{replicate_more}
use Rattle.jls_pixel.specs.Pixels.{RowsAbove, pixel_neighbours, run_value}
use Rattle.jls_pixel.specs.Place.{above_of}
use Rattle.jls_pixel.proofs.PixelLists.{run_keeps}
use Rattle.jls_pixel.proofs.event.push_run.Goals as goal

pub loop-pixel-preserved : goal.loop-pixel-preserved
loop-pixel-preserved c =
    let w = c.args.place.now.width in let n = c.args.place.now.components in let up : RowsAbove = above_of c.args.place.now in
    let row : List (List ℕ) = c.args.row.now.items in let i = c.loop-pixel.invariant.row_is in let k = c.loop-pixel._pixel in
    let v : List ℕ = run_value (pixel_neighbours w up row n) in
    let value_is : c.run_value-value.result ≡ v =
    c.run_value-value.ensures ∙ ap (λ z. run_value (pixel_neighbours w up z n)) (c.deref.ensures.value ∙ i) ∙ run_keeps w up row n k in
    record {
      row_is = c.in_ok-push.ensures.items ∙ ap (λ z. c.loop-pixel.row.items ++ z ∷ []) value_is ∙ ap (λ z. z ++ v ∷ []) i
          ∙ append_assoc row (replicate k v) (v ∷ []) ∙ ap (λ z. row ++ z) (replicate_more k v);
    }
