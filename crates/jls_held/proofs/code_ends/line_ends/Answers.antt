use Rattle.std.proofs.Common.{◌≡◌, ◌<◌, ℕ, List, [], ◌∷◌, ◌++◌, length, map, take, get_or, sym, ap, ◌∙◌, arith, Bor, Vec, Global}
use Rattle.std.proofs.lemmas.List.{length-map, map-append, get_or-map, take_more}
use Rattle.jls_held.specs.FilePieces.{lines_of}
use Rattle.jls_held.proofs.code_ends.line_ends.Goals as goal

abbrev now_of : Bor (List ℕ) → List ℕ
now_of l = l.now

abbrev items_of : Vec ℕ Global → List ℕ
items_of v = v.items

-- one line more is lent
pub loop-line-preserved : goal.loop-line-preserved
loop-line-preserved c =
    let piece = c.args.piece.now in let xs = piece.lines.items in let i = c.loop-line.line-index in let x = c.line-item.result in
    let whole : c.deref-line-items.result.now ≡ xs = c.deref-line-items.ensures.value in
    let count : length c.deref-line-items.result.now ≡ length xs = ap length whole in
    let mapped : length (lines_of piece) ≡ length xs = length-map xs items_of in
    let inside : i < length xs = omega (arith, count) in
    let x_is : x ≡ get_or xs i x = c.line-item.is ∙ ap (λ z. get_or z i x) whole in
    let line : get_or (lines_of piece) i x.items ≡ c.as_slice.result.now = get_or-map items_of xs i x x.items inside
    ∙ ap items_of (sym x_is) ∙ sym c.as_slice.ensures.value in
    ap (map now_of) c.in_ok-push.ensures.items ∙ map-append now_of c.loop-line.lines.items (c.as_slice.result ∷ [])
    ∙ ap (λ z. z ++ c.as_slice.result.now ∷ []) c.loop-line.invariant
    ∙ ap (λ z. take i (lines_of piece) ++ z ∷ []) (sym line)
    ∙ sym (take_more (lines_of piece) i x.items (omega (arith, mapped, inside)))
