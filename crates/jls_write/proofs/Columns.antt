-- The columns of the lines of a row are its pixels.
use Rattle.std.proofs.Common.{◌≡◌, ℕ, zero, suc, Bor, ◌+◌, ◌<◌, ◌≤◌, ◌^◌, Bool, false, List, [], ◌∷◌, ◌++◌, length, map, get_or, take, ap}
use Rattle.std.proofs.Common.{sym, ◌∙◌, zero-add, arith}
use Rattle.std.specs.List.{range_with_len, flat_map, AllByRecursion}
use Rattle.std.proofs.lemmas.Grind.{flat_map-append}
use Rattle.std.proofs.lemmas.List.{append-nil, take_more, get_or-map, length-map, map-append}
use Rattle.std.proofs.lemmas.List.Folds.{flat_map-map}
use Rattle.std.proofs.lemmas.List.FromFn.{get_or-map-range_with_len, length-map-range_with_len}
use Rattle.jls_values.proofs.Lists.{appended}
use Rattle.jls_write.specs.Picture.{WholePicture, line_of}
use Rattle.jls_write.specs.Pnm.{is_wide, sample_bytes, pixel_bytes, largest_sample}
use Rattle.jls_write.specs.Waiting.{column_bytes, AreLinesTo}
use Rattle.jls_write.specs.WholePictures.{IsLineIn}
use Rattle.jls_write.proofs.Lending.{above}
use Rattle.jls_write.proofs.OneMore.{range-append}

-- a sample more
pub column_more : (wide : Bool) (lines : List (List ℕ)) (column k : ℕ) → k < length lines
    → column_bytes wide (take (k + 1) lines) column ≡ column_bytes wide (take k lines) column
    ++ sample_bytes wide (get_or (get_or lines k []) column 0)
column_more wide lines column k inside =
    let of : List ℕ → List ℕ = λ line. sample_bytes wide (get_or line column 0) in
    ap (flat_map of) (take_more lines k [] inside) ∙ flat_map-append of (take k lines) (get_or lines k [] ∷ [])
    ∙ ap (λ (t : List ℕ). flat_map of (take k lines) ++ t) (append-nil (of (get_or lines k [])))

-- one line: each column is a sample
pub one_line : (wide : Bool) (line : List ℕ) (columns : List ℕ)
    → flat_map (λ column. sample_bytes wide (get_or line column 0)) columns ≡ flat_map (column_bytes wide (line ∷ [])) columns
one_line wide line columns i = flat_map (λ column. sym (append-nil (sample_bytes wide (get_or line column 0))) i) columns

-- the lines of a row
pub columns_are_pixels : (pic : WholePicture) (row : ℕ) (lines : List (List ℕ)) (columns : List ℕ)
    → lines ≡ map (λ component. line_of pic component row) (range_with_len 0 (length pic.shape.ids))
    → flat_map (column_bytes (is_wide pic.shape) lines) columns ≡ flat_map (pixel_bytes pic row) columns
columns_are_pixels pic row lines columns lines_are =
    ap (λ (t : List (List ℕ)). flat_map (column_bytes (is_wide pic.shape) t) columns) lines_are
    ∙ (λ i. flat_map (λ column. flat_map-map (λ (line : List ℕ). sample_bytes (is_wide pic.shape) (get_or line column 0))
    (λ component. line_of pic component row) (range_with_len 0 (length pic.shape.ids)) i) columns)

-- what holds of all items holds of the one at a place
all_at : {X : Type 0} (P : X → Type 0) (xs : List X) (k : ℕ) (d : X) → AllByRecursion P xs → k < length xs → P (get_or xs k d)
all_at P [] k d all inside = absurd (omega arith)
all_at P (x ∷ xs) zero d all inside = all.0
all_at P (x ∷ xs) (suc k) d all inside = all_at P xs k d all.1 (omega arith)

-- they reach to the last column, and fit
pub lines_to : (pic : WholePicture) (row : ℕ) (lines : List (List ℕ))
    → lines ≡ map (λ component. line_of pic component row) (range_with_len 0 (length pic.shape.ids)) → length pic.shape.ids ≤ 4
    → ((k : ℕ) → k < length pic.shape.ids → IsLineIn pic.shape (line_of pic k row))
    → AreLinesTo (is_wide pic.shape) pic.shape.width lines
lines_to pic row lines lines_are few each =
    let count : length lines ≡ length pic.shape.ids = ap (λ (t : List (List ℕ)). length t) lines_are
    ∙ length-map-range_with_len (λ component. line_of pic component row) 0 (length pic.shape.ids) in
    let at : (k : ℕ) → k < length lines → get_or lines k [] ≡ line_of pic k row =
    λ k inside. ap (λ (t : List (List ℕ)). get_or t k []) lines_are
    ∙ get_or-map-range_with_len (λ component. line_of pic component row) 0 (length pic.shape.ids) k k [] (omega (arith, count, inside))
    (omega arith) in
    record {
      few = omega (arith, count, few);
      reach = λ k inside. (let long = (each k (omega (arith, count, inside))).0 in let same = ap (λ (t : List ℕ). length t) (at k inside) in
          omega (arith, long, same));
      fit = λ narrow k j inside within.
          (let line = each k (omega (arith, count, inside)) in
          let below = all_at (λ sample. sample < 2 ^ pic.shape.precision) (line_of pic k row) j 0 line.1
          (let long = line.0 in omega (arith, long, within)) in
          let low = above 256 (largest_sample pic.shape) narrow in
          let same = ap (λ (t : List ℕ). get_or t j 0) (at k inside) in
          omega (arith, below, low, same));
    }

-- fewer columns
pub lines_to_fewer : (wide : Bool) (end fewer : ℕ) (lines : List (List ℕ)) → fewer ≤ end → AreLinesTo wide end lines
    → AreLinesTo wide fewer lines
lines_to_fewer wide end fewer lines less to = record {
  few = to.few;
  reach = λ k inside. (let far = to.reach k inside in omega (arith, far, less));
  fit = λ narrow k j inside within. to.fit narrow k j inside (omega (arith, within, less));
}

-- ---- lines that are lent

abbrev pub lent : List (Bor (List ℕ)) → List (List ℕ)
lent lines = map (λ line. line.now) lines

lent_is : (lines : List (Bor (List ℕ))) (k : ℕ) (d : Bor (List ℕ)) → k < length lines → get_or (lent lines) k [] ≡ (get_or lines k d).now
lent_is lines k d inside = get_or-map (λ (line : Bor (List ℕ)). line.now) lines k d [] inside

inside_lent : (lines : List (Bor (List ℕ))) (k : ℕ) → k < length lines → k < length (lent lines)
inside_lent lines k inside = let same : length (lent lines) ≡ length lines = length-map lines (λ (line : Bor (List ℕ)). line.now) in
    omega (arith, same, inside)

-- at most four lines are lent
pub few_lent : (wide : Bool) (end : ℕ) (lines : List (Bor (List ℕ))) → AreLinesTo wide end (lent lines) → length lines ≤ 4
few_lent wide end lines to =
    let few = to.few in
    let same : length (lent lines) ≡ length lines = length-map lines (λ (line : Bor (List ℕ)). line.now) in
    omega (arith, same, few)

-- each lent line has the column
pub reaches : (wide : Bool) (lines : List (Bor (List ℕ))) (column k : ℕ) (d : Bor (List ℕ)) → AreLinesTo wide (column + 1) (lent lines) → k
    < length lines
    → column < length (get_or lines k d).now
reaches wide lines column k d to inside =
    let far = to.reach k (inside_lent lines k inside) in
    let same = ap (λ (t : List ℕ). length t) (lent_is lines k d inside) in
    omega (arith, far, same)

-- where samples are not wide, each has one byte
pub fits : (wide : Bool) (lines : List (Bor (List ℕ))) (column k : ℕ) (d : Bor (List ℕ)) → AreLinesTo wide (column + 1) (lent lines) → k
    < length lines
    → wide ≡ false → get_or (get_or lines k d).now column 0 < 256
fits wide lines column k d to inside narrow =
    let low = to.fit narrow k column (inside_lent lines k inside) (omega arith) in
    let same = ap (λ (t : List ℕ). get_or t column 0) (lent_is lines k d inside) in
    omega (arith, low, same)

-- the sample of one line more of a column, put after those before
pub put_more : (wide : Bool) (lines : List (Bor (List ℕ))) (column k : ℕ) (d : Bor (List ℕ)) (out now new : List ℕ) → k < length lines
    → now ≡ out ++ column_bytes wide (take k (lent lines)) column → new ≡ now ++ sample_bytes wide (get_or (get_or lines k d).now column 0)
    → new ≡ out ++ column_bytes wide (take (k + 1) (lent lines)) column
put_more wide lines column k d out now new inside so_far more =
    appended out (column_bytes wide (take k (lent lines)) column) (sample_bytes wide (get_or (get_or lines k d).now column 0)) now new
    so_far more
    ∙ ap (λ (t : List ℕ). out ++ (column_bytes wide (take k (lent lines)) column ++ sample_bytes wide (get_or t column 0)))
    (sym (lent_is lines k d inside))
    ∙ ap (λ (t : List ℕ). out ++ t) (sym (column_more wide (lent lines) column k (inside_lent lines k inside)))

-- a line more
pub lent_more : (pic : WholePicture) (row k : ℕ) (lines more : List (Bor (List ℕ))) (line : Bor (List ℕ))
    → lent lines ≡ map (λ component. line_of pic component row) (range_with_len 0 k) → line.now ≡ line_of pic k row → more ≡ lines ++ line
    ∷ []
    → lent more ≡ map (λ component. line_of pic component row) (range_with_len 0 (k + 1))
lent_more pic row k lines more line so_far line_is more_is =
    let of : ℕ → List ℕ = λ component. line_of pic component row in
    ap lent more_is ∙ map-append (λ (t : Bor (List ℕ)). t.now) lines (line ∷ [])
    ∙ ap (λ (t : List (List ℕ)). t ++ line.now ∷ []) so_far ∙ ap (λ (t : List ℕ). map of (range_with_len 0 k) ++ t ∷ []) line_is
    ∙ sym (map-append of (range_with_len 0 k) (k ∷ []))
    ∙ ap (map of) (sym (range-append 0 k 1 ∙ ap (λ n. range_with_len 0 k ++ n ∷ []) (zero-add k)))

-- the columns that are put are pixels of the row
pub put_pixels : (pic : WholePicture) (row : ℕ) (wide : Bool) (lines same : List (Bor (List ℕ))) (columns : List ℕ) → wide
    ≡ is_wide pic.shape → same ≡ lines
    → lent lines ≡ map (λ component. line_of pic component row) (range_with_len 0 (length pic.shape.ids))
    → flat_map (column_bytes wide (lent same)) columns ≡ flat_map (pixel_bytes pic row) columns
put_pixels pic row wide lines same columns wide_is same_is lines_are =
    (λ i. flat_map (column_bytes (wide_is i) (lent (same_is i))) columns) ∙ columns_are_pixels pic row (lent lines) columns lines_are
