use Rattle.std.proofs.Common.{◌≡◌, ◌+◌, ◌++◌, ℕ, List, [], ◌∷◌, Vec, Global, length, ap, ◌∙◌, arith, length-append}
use Rattle.jls_pixel.proofs.PixelReading.{rows_done}
use Rattle.jls_pixel.proofs.pixel_reader.PixelReader.end_row.Goals as goal

pub returns-then-len-self-clause-reading : goal.returns-then-len-self-clause-reading
returns-then-len-self-clause-reading c = λ p given t.
    let d = c.args.self.now in let rows : List (List (List ℕ)) = d.rows in let row : List (List ℕ) = d.row.items in
    let rows' : List (List (List ℕ)) = c.push.new.self in let columns = t.begun.columns in
    let full : length row ≡ d.width =
    (let a = c.if-len-from.false in let b = c.len.ensures in let e = c.from.ensures in omega (arith, a, b, e, columns)) in
    let rows_are : rows' ≡ rows ++ row ∷ [] =
    c.in_ok-push.ensures ∙ ap (λ (v : Vec (List ℕ) Global). rows ++ v.items ∷ []) c.replace-row.ensures.value in
    let all : length rows + 1 ≡ d.count =
    (let a = c.if-len-self.true in let b = c.len-2.ensures in let e = ap length rows_are in let l = length-append rows (row ∷ []) in
    omega (arith, a, b, e, l)) in
    record {
      shape = record {
        parameters = t.shape.parameters;
        width_at_least = t.shape.width_at_least;
        width_below = t.shape.width_below;
        components_at_most = t.shape.components_at_most;
      };
      state_is = rows_done p given d t c.requires.state full rows' rows_are c.count_to_8-extra.result c.count_to_8-extra.ensures.count all;
    }
