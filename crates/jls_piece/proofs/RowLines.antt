-- Rows of pixels, and the lines that they are.
use Rattle.std.proofs.Common.{◌≡◌, ℕ, zero, suc, ◌+◌, ◌*◌, ◌<◌, ◌≤◌, List, [], ◌∷◌, ◌++◌, length, get_or, take, drop, map, refl, sym, ap}
use Rattle.std.proofs.Common.{◌∙◌, subst, arith, append_assoc, length-append}
use Rattle.std.specs.Prelude.{◌/◌}
use Rattle.std.specs.List.{AllByRecursion, range_with_len}
use Rattle.std.specs.Simd.{first_chunks}
use Rattle.std.proofs.Math.Nat.{suc-mul, div-zero, mul-div_cancel}
use Rattle.std.proofs.Math.Seq.{take-append_seam, drop-append_seam}
use Rattle.std.proofs.lemmas.List.{ext_get_or, get_or-map, length-map, length-take-le, length-drop, take-append-drop, append-nil}
use Rattle.std.proofs.lemmas.List.FromFn.{length-map-range_with_len, get_or-map-range_with_len, map-range_with_len_more}
use Rattle.jls_values.specs.Params.{CodingParameters}
use Rattle.jls_values.proofs.Lists.{all_get}
use Rattle.jls_interval.specs.Lines.{IsLine, AreLines}
use Rattle.jls_interval.proofs.EventsApart.{small_get}
use Rattle.jls_pixel.specs.Pixels.{IsRow, AreRows, samples_of}
use Rattle.jls_pixel.proofs.PixelLists.{all_append, all_map}
use Rattle.jls_piece.specs.Lines.{turned, lines_of, rows_of}

-- Lists that are turned -----------------------------------------------------------------------------

pub length_turned : (count : ℕ) (lists : List (List ℕ)) → length (turned count lists) ≡ count
unfolding turned
length_turned count lists = length-map-range_with_len (λ place. samples_of place lists) 0 count

get_turned : (count : ℕ) (lists : List (List ℕ)) (j : ℕ) → j < count → get_or (turned count lists) j [] ≡ samples_of j lists
unfolding turned
get_turned count lists j h = get_or-map-range_with_len (λ place. samples_of place lists) 0 count j j [] h (omega arith)

-- lists of one length, turned twice
pub turned_twice : (k : ℕ) (lists : List (List ℕ)) → AllByRecursion (λ list. length list ≡ k) lists
    → turned (length lists) (turned k lists) ≡ lists
turned_twice k lists all =
    ext_get_or [] (turned (length lists) (turned k lists)) lists (length_turned (length lists) (turned k lists))
    (λ i h. (let a : i < length lists = subst (λ z. i < z) (length_turned (length lists) (turned k lists)) h in
    get_turned (length lists) (turned k lists) i a ∙ one i a))
  where
    one : (i : ℕ) → i < length lists → samples_of i (turned k lists) ≡ get_or lists i []
    one i h =
        let long : length (samples_of i (turned k lists)) ≡ k =
        length-map (turned k lists) (λ list. get_or list i 0) ∙ length_turned k lists in
        ext_get_or 0 (samples_of i (turned k lists)) (get_or lists i [])
        (long ∙ sym (all_get (λ list. length list ≡ k) lists i [] h all))
        (λ j b. at j (subst (λ z. j < z) long b))
      where
        at : (j : ℕ) → j < k → get_or (samples_of i (turned k lists)) j 0 ≡ get_or (get_or lists i []) j 0
        at j b =
            get_or-map (λ list. get_or list i 0) (turned k lists) j [] 0 (subst (λ z. j < z) (sym (length_turned k lists)) b)
            ∙ ap (λ z. get_or z i 0) (get_turned k lists j b)
            ∙ get_or-map (λ list. get_or list j 0) lists i [] 0 h

-- Samples -------------------------------------------------------------------------------------------

-- the samples at one place of lines in their range are in it
samples_fit : (p : CodingParameters) (k place : ℕ) (lists : List (List ℕ)) → AllByRecursion (IsLine p k) lists
    → AllByRecursion (λ sample. sample ≤ p.maxval) (samples_of place lists)
samples_fit p k place [] all = tt
samples_fit p k place (list ∷ lists) all = (small_get list place p.maxval all.0.1, samples_fit p k place lists all.1)

-- lines in their range, turned into pixels, are in theirs
pub turned_fit : (p : CodingParameters) (k count : ℕ) (lists : List (List ℕ)) → AllByRecursion (IsLine p k) lists
    → AllByRecursion (IsLine p (length lists)) (turned count lists)
unfolding turned
turned_fit p k count lists all =
    all_map (IsLine p (length lists)) (λ place. samples_of place lists)
    (λ place. (length-map lists (λ list. get_or list place 0), samples_fit p k place lists all))
    (range_with_len 0 count)

-- lines in their range have the width
lengths_of : (p : CodingParameters) (k : ℕ) (lists : List (List ℕ)) → AllByRecursion (IsLine p k) lists
    → AllByRecursion (λ list. length list ≡ k) lists
lengths_of p k [] all = tt
lengths_of p k (list ∷ lists) all = (all.0.0, lengths_of p k lists all.1)

-- Rows to lines -------------------------------------------------------------------------------------

-- rows have as many lines as rows times components
pub length_lines : (c : ℕ) (rows : List (List (List ℕ))) → length (lines_of c rows) ≡ length rows * c
length_lines c [] = omega arith
length_lines c (row ∷ rows) =
    let a = length-append (turned c row) (lines_of c rows) in let b = length_turned c row in let d = length_lines c rows in
    let e = suc-mul (length rows) c in omega (arith, a, b, d, e)

-- the lines of rows in their range are in theirs
lines_fit : (p : CodingParameters) (w c : ℕ) (rows : List (List (List ℕ))) → AllByRecursion (IsRow p w c) rows
    → AllByRecursion (IsLine p w) (lines_of c rows)
lines_fit p w c [] all = tt
lines_fit p w c (row ∷ rows) all =
    all_append (IsLine p w) (turned c row) (lines_of c rows)
    (subst (λ z. AllByRecursion (IsLine p z) (turned c row)) all.0.0 (turned_fit p c c row all.0.1)) (lines_fit p w c rows all.1)

pub rows_have_lines : (p : CodingParameters) (w c n : ℕ) (rows : List (List (List ℕ))) → AreRows p w c n rows
    → AreLines p w (n * c) (lines_of c rows)
rows_have_lines p w c n rows are =
    record { count_is = length_lines c rows ∙ ap (λ z. z * c) are.count_is; each = lines_fit p w c rows are.each }

-- Lines to rows -------------------------------------------------------------------------------------

-- the first n rows of lines
abbrev pub first_rows : ℕ → ℕ → ℕ → List (List ℕ) → List (List (List ℕ))
first_rows w c n lines = map (turned w) (first_chunks c n lines)

pub rows_are : (w c : ℕ) (lines : List (List ℕ)) → rows_of w c lines ≡ first_rows w c (length lines / c) lines
unfolding rows_of
rows_are w c lines = refl

-- the first n lists of c each, and the others
long_enough : (c n : ℕ) (lines : List (List ℕ)) → length lines ≡ suc n * c → c ≤ length lines
long_enough c n lines h = let e = suc-mul n c in omega arith

others : (c n : ℕ) (lines : List (List ℕ)) → length lines ≡ suc n * c → length (drop c lines) ≡ n * c
others c n lines h = let e = suc-mul n c in let d = length-drop c lines in omega arith

-- what holds of all items holds of the first n
all_take : {X : Type 0} (P : X → Type 0) (n : ℕ) (xs : List X) → AllByRecursion P xs → AllByRecursion P (take n xs)
all_take P zero xs all = tt
all_take P (suc n) [] all = tt
all_take P (suc n) (x ∷ xs) all = (all.0, all_take P n xs all.1)

-- what holds of all items holds of those after the first n
all_drop : {X : Type 0} (P : X → Type 0) (n : ℕ) (xs : List X) → AllByRecursion P xs → AllByRecursion P (drop n xs)
all_drop P zero xs all = all
all_drop P (suc n) [] all = tt
all_drop P (suc n) (x ∷ xs) all = all_drop P n xs all.1

-- the lines of the first rows
pub lines_again : (p : CodingParameters) (w c n : ℕ) (lines : List (List ℕ)) → length lines ≡ n * c → AllByRecursion (IsLine p w) lines
    → lines_of c (first_rows w c n lines) ≡ lines
lines_again p w c zero [] h all = refl
lines_again p w c zero (line ∷ lines) h all = absurd (omega arith)
lines_again p w c (suc n) lines h all =
    let own = take c lines in
    let wide : length own ≡ c = length-take-le c lines (long_enough c n lines h) in
    let a : turned c (turned w own) ≡ own =
    subst (λ z. turned z (turned w own) ≡ own) wide (turned_twice w own (lengths_of p w own (all_take (IsLine p w) c lines all))) in
    ap (λ z. z ++ lines_of c (first_rows w c n (drop c lines))) a
    ∙ ap (λ z. own ++ z) (lines_again p w c n (drop c lines) (others c n lines h) (all_drop (IsLine p w) c lines all))
    ∙ take-append-drop c lines

-- rows that are made of lines in their range are rows in theirs
each_row : (p : CodingParameters) (w c n : ℕ) (lines : List (List ℕ)) → length lines ≡ n * c → AllByRecursion (IsLine p w) lines
    → AllByRecursion (IsRow p w c) (first_rows w c n lines)
each_row p w c zero lines h all = tt
each_row p w c (suc n) lines h all =
    let own = take c lines in
    let wide : length own ≡ c = length-take-le c lines (long_enough c n lines h) in (
      (
        length_turned w own,
        subst (λ z. AllByRecursion (IsLine p z) (turned w own)) wide (turned_fit p w w own (all_take (IsLine p w) c lines all)),
      ),
      each_row p w c n (drop c lines) (others c n lines h) (all_drop (IsLine p w) c lines all),
    )

length_chunks : (c n : ℕ) (lines : List (List ℕ)) → length (first_chunks c n lines) ≡ n
length_chunks c zero lines = refl
length_chunks c (suc n) lines = ap suc (length_chunks c n (drop c lines))

-- whole rows of lines in their range are rows in theirs
pub are_first_rows : (p : CodingParameters) (w c n : ℕ) (lines : List (List ℕ)) → length lines ≡ n * c → AllByRecursion (IsLine p w) lines
    → AreRows p w c n (first_rows w c n lines)
are_first_rows p w c n lines h all = record {
  count_is = length-map (first_chunks c n lines) (turned w) ∙ length_chunks c n lines;
  each = each_row p w c n lines h all;
}

-- the first rows of rows' lines
pub rows_again : (p : CodingParameters) (w c : ℕ) (rows : List (List (List ℕ))) → AllByRecursion (IsRow p w c) rows
    → first_rows w c (length rows) (lines_of c rows) ≡ rows
rows_again p w c [] all = refl
rows_again p w c (row ∷ rows) all =
    let own = turned c row in let more = lines_of c rows in let long = length_turned c row in
    let a : take c (own ++ more) ≡ own = subst (λ z. take z (own ++ more) ≡ own) long (take-append_seam own more) in
    let b : drop c (own ++ more) ≡ more = subst (λ z. drop z (own ++ more) ≡ more) long (drop-append_seam own more) in
    let d : turned w own ≡ row = subst (λ z. turned z own ≡ row) all.0.0 (turned_twice c row (lengths_of p c row all.0.1)) in
    ap (λ z. turned w z ∷ first_rows w c (length rows) (drop c (own ++ more))) a
    ∙ ap (λ z. z ∷ first_rows w c (length rows) (drop c (own ++ more))) d
    ∙ ap (λ z. row ∷ first_rows w c (length rows) z) b
    ∙ ap (λ z. row ∷ z) (rows_again p w c rows all.1)

-- How many rows -------------------------------------------------------------------------------------

-- a multiple of c, divided by c
pub whole_count : (c n x : ℕ) → x ≡ n * c → x / c * c ≡ x
whole_count zero n x h = (let a : x ≡ 0 = omega arith in let d = div-zero x in omega arith)
whole_count (suc c) n x h =
    let d : n * suc c / suc c ≡ n = mul-div_cancel n (omega arith) in
    ap (λ z. z / suc c * suc c) h ∙ ap (λ z. z * suc c) d ∙ sym h

pub count_of : (c n x : ℕ) → 0 < c → x ≡ n * c → x / c ≡ n
count_of c n x some h = ap (λ z. z / c) h ∙ mul-div_cancel n some

-- lines of whole rows are the lines of some rows
pub lines_have_rows : (p : CodingParameters) (w c n : ℕ) (lines : List (List ℕ)) → 0 < c → AreLines p w (n * c) lines
    → AreRows p w c n (rows_of w c lines) × (lines_of c (rows_of w c lines) ≡ lines)
lines_have_rows p w c n lines some are =
    let e : rows_of w c lines ≡ first_rows w c n lines =
    rows_are w c lines ∙ ap (λ z. first_rows w c z lines) (count_of c n (length lines) some are.count_is) in (
      subst (AreRows p w c n) (sym e) (are_first_rows p w c n lines are.count_is are.each),
      ap (lines_of c) e ∙ lines_again p w c n lines are.count_is are.each,
    )

-- rows are those of their lines
pub rows_are_one : (p : CodingParameters) (w c n : ℕ) (rows : List (List (List ℕ))) → 0 < c → AreRows p w c n rows
    → rows_of w c (lines_of c rows) ≡ rows
rows_are_one p w c n rows some are =
    rows_are w c (lines_of c rows)
    ∙ ap (λ z. first_rows w c z (lines_of c rows)) (count_of c (length rows) (length (lines_of c rows)) some (length_lines c rows))
    ∙ rows_again p w c rows are.each

-- the lines of a row, one by one
pub turned_more : (k : ℕ) (lists : List (List ℕ)) → turned (k + 1) lists ≡ turned k lists ++ samples_of k lists ∷ []
unfolding turned
turned_more k lists = map-range_with_len_more (λ place. samples_of place lists) 0 k k (omega arith)

pub turned_none : (lists : List (List ℕ)) → turned 0 lists ≡ []
unfolding turned
turned_none lists = refl

-- the lines of rows and one more are those of the rows, and then its own
pub lines_more : (c : ℕ) (rows : List (List (List ℕ))) (row : List (List ℕ))
    → lines_of c (rows ++ row ∷ []) ≡ lines_of c rows ++ turned c row
lines_more c [] row = append-nil (turned c row)
lines_more c (r ∷ rows) row =
    ap (λ z. turned c r ++ z) (lines_more c rows row) ∙ sym (append_assoc (turned c r) (lines_of c rows) (turned c row))
