-- The codes of pieces: no code begins another's of the same shape, and the code of first lines begins that of all.
use Rattle.std.proofs.Common.{◌≡◌, ℕ, zero, suc, ◌+◌, ◌*◌, ◌<◌, ◌≤◌, Bool, true, false, List, [], ◌∷◌}
use Rattle.std.proofs.Common.{◌++◌, length, take, drop, map, refl, sym}
use Rattle.std.proofs.Common.{ap, ◌∙◌, subst, arith, inl, inr, length-append}
use Rattle.std.specs.Prelude.{◌/◌}
use Rattle.std.specs.Simd.{first_chunks}
use Rattle.std.proofs.Math.Nat.{suc-mul, div-zero, mul-add-div_right}
use Rattle.std.proofs.lemmas.Bool.{cases_Bool}
use Rattle.std.proofs.lemmas.List.{map-append, take-append-le, drop-append-le, length-drop}
use Rattle.jls_values.specs.Params.{CodingParameters, AreCodingParameters}
use Rattle.jls_interval.specs.Lines.{AreLines}
use Rattle.jls_interval.specs.Code.{code}
use Rattle.jls_interval.proofs.CodesApart.{codes_apart as line_codes_apart}
use Rattle.jls_interval.proofs.HeadLines.{code_parts as line_code_parts}
use Rattle.jls_pixel.specs.Pixels.{AreRows}
use Rattle.jls_pixel.specs.Code.{pixel_code}
use Rattle.jls_pixel.proofs.CodesApart.{codes_apart as pixel_codes_apart}
use Rattle.jls_pixel.proofs.HeadRows.{code_parts as pixel_code_parts}
use Rattle.jls_piece.specs.Lines.{PieceShape, turned, lines_of, rows_of, AreOfWholeRows}
use Rattle.jls_piece.specs.Code.{piece_code}
use Rattle.jls_piece.proofs.RowLines.{first_rows, rows_are, lines_again, are_first_rows, whole_count}

-- By kind -------------------------------------------------------------------------------------------

pub line_code : (i : PieceShape) (lines : List (List ℕ)) → i.by_sample ≡ false → piece_code i lines
    ≡ code i.params i.width i.components lines
line_code i lines h = rw h refl

-- the code by sample is that of the rows
pub sample_code : (i : PieceShape) (lines : List (List ℕ)) → i.by_sample ≡ true
    → piece_code i lines ≡ pixel_code i.params i.width i.components (rows_of i.width i.components lines)
sample_code i lines h = rw h refl

-- Apart ---------------------------------------------------------------------------------------------

-- the rows of lines of whole rows, and the lines again
module _ (p : CodingParameters) (w c n : ℕ) (lines : List (List ℕ)) (are : AreLines p w n lines)
    (whole : (rows : ℕ) × (length lines ≡ rows * c)) where
  pub rows_fill : length lines ≡ n / c * c
  rows_fill = let e = whole_count c whole.0 (length lines) whole.1 in sym e ∙ ap (λ z. z / c * c) are.count_is

  own_rows : rows_of w c lines ≡ first_rows w c (n / c) lines
  own_rows = rows_are w c lines ∙ ap (λ z. first_rows w c (z / c) lines) are.count_is

  pub are_own_rows : AreRows p w c (n / c) (rows_of w c lines)
  are_own_rows = subst (AreRows p w c (n / c)) (sym own_rows) (are_first_rows p w c (n / c) lines rows_fill are.each)

  pub own_lines : lines_of c (rows_of w c lines) ≡ lines
  own_lines = ap (lines_of c) own_rows ∙ lines_again p w c (n / c) lines rows_fill are.each

-- two lists of lines of one shape whose codes begin the same bits are one, and the rest of the bits is the same
pub codes_apart : (i : PieceShape) → AreCodingParameters i.params → 0 < i.width → (xs ys : List (List ℕ)) (s t : List Bool)
    → AreLines i.params i.width i.line_count xs → AreOfWholeRows i xs → AreLines i.params i.width i.line_count ys → AreOfWholeRows i ys
    → piece_code i xs ++ s ≡ piece_code i ys ++ t → (xs ≡ ys) × (s ≡ t)
codes_apart i ok some xs ys s t a whole b whole' e =
    elim (cases_Bool i.by_sample) [ inl h ↦ by_sample h | inr h ↦ by_line h ]
  where
    by_line : i.by_sample ≡ false → (xs ≡ ys) × (s ≡ t)
    by_line h =
        line_codes_apart i.params i.width i.components i.line_count ok some xs ys s t a b
        (ap (λ z. z ++ s) (sym (line_code i xs h)) ∙ e ∙ ap (λ z. z ++ t) (line_code i ys h))

    by_sample : i.by_sample ≡ true → (xs ≡ ys) × (s ≡ t)
    by_sample h =
        let p = i.params in let w = i.width in let c = i.components in let n = i.line_count in
        let r = pixel_codes_apart p w c (n / c) ok some (rows_of w c xs) (rows_of w c ys) s t
        (are_own_rows p w c n xs a (whole h)) (are_own_rows p w c n ys b (whole' h))
        (ap (λ z. z ++ s) (sym (sample_code i xs h)) ∙ e ∙ ap (λ z. z ++ t) (sample_code i ys h)) in
        (sym (own_lines p w c n xs a (whole h)) ∙ ap (lines_of c) r.0 ∙ own_lines p w c n ys b (whole' h), r.1)

-- First lines ---------------------------------------------------------------------------------------

-- the rows of first lines are the first rows
chunks_append : (c n m : ℕ) (xs ys : List (List ℕ)) → length xs ≡ n * c
    → first_chunks c (n + m) (xs ++ ys) ≡ first_chunks c n xs ++ first_chunks c m ys
chunks_append c zero m [] ys h = let e : 0 + m ≡ m = omega arith in ap (λ z. first_chunks c z ys) e
chunks_append c zero m (x ∷ xs) ys h = absurd (omega arith)
chunks_append c (suc n) m xs ys h =
    let e = suc-mul n c in let enough : c ≤ length xs = omega arith in let d = length-drop c xs in
    let r = chunks_append c n m (drop c xs) ys (omega arith) in
    let a = take-append-le c xs ys enough in let b = drop-append-le c xs ys enough in
    let one : suc n + m ≡ suc (n + m) = omega arith in
    ap (λ z. first_chunks c z (xs ++ ys)) one ∙ ap (λ z. z ∷ first_chunks c (n + m) (drop c (xs ++ ys))) a
    ∙ ap (λ z. take c xs ∷ first_chunks c (n + m) z) b ∙ ap (λ z. take c xs ∷ z) r

-- the rows of whole rows with more lines begin with the rows of the former
pub first_rows_begin : (w c : ℕ) (xs ys : List (List ℕ)) → (n : ℕ) × (length xs ≡ n * c)
    → (others : List (List (List ℕ))) × (rows_of w c (xs ++ ys) ≡ rows_of w c xs ++ others)
first_rows_begin w zero xs ys whole =
    let a = rows_are w 0 (xs ++ ys) ∙ ap (λ z. first_rows w 0 z (xs ++ ys)) (div-zero (length (xs ++ ys))) in
    let b = rows_are w 0 xs ∙ ap (λ z. first_rows w 0 z xs) (div-zero (length xs)) in
    ([], a ∙ sym (ap (λ z. z ++ []) b))
first_rows_begin w (suc k) xs ys whole =
    let c = suc k in let n = length xs / c in let m = length ys / c in
    let fill : length xs ≡ n * c = sym (whole_count c whole.0 (length xs) whole.1) in
    let count : length (xs ++ ys) / c ≡ n + m =
    ap (λ z. z / c) (length-append xs ys ∙ ap (λ z. z + length ys) fill) ∙ mul-add-div_right (omega arith) n (length ys) in (
      first_rows w c m ys,
      rows_are w c (xs ++ ys) ∙ ap (λ z. first_rows w c z (xs ++ ys)) count
          ∙ ap (map (turned w)) (chunks_append c n m xs ys fill) ∙ map-append (turned w) (first_chunks c n xs) (first_chunks c m ys)
          ∙ ap (λ z. z ++ first_rows w c m ys) (sym (rows_are w c xs)),
    )

-- the code of whole rows begins the code of these with more lines
pub code_parts : (i : PieceShape) (xs ys : List (List ℕ)) → AreOfWholeRows i xs
    → (tail : List Bool) × (piece_code i (xs ++ ys) ≡ piece_code i xs ++ tail)
code_parts i xs ys whole =
    elim (cases_Bool i.by_sample) [ inl h ↦ by_sample h | inr h ↦ by_line h ]
  where
    by_line : i.by_sample ≡ false → (tail : List Bool) × (piece_code i (xs ++ ys) ≡ piece_code i xs ++ tail)
    by_line h =
        let r = line_code_parts i.params i.width i.components xs ys in
        (r.0, line_code i (xs ++ ys) h ∙ r.1 ∙ ap (λ z. z ++ r.0) (sym (line_code i xs h)))

    by_sample : i.by_sample ≡ true → (tail : List Bool) × (piece_code i (xs ++ ys) ≡ piece_code i xs ++ tail)
    by_sample h =
        let p = i.params in let w = i.width in let c = i.components in
        let o = first_rows_begin w c xs ys (whole h) in
        let r = pixel_code_parts p w c (rows_of w c xs) o.0 in
        (r.0, sample_code i (xs ++ ys) h ∙ ap (pixel_code p w c) o.1 ∙ r.1 ∙ ap (λ z. z ++ r.0) (sym (sample_code i xs h)))
