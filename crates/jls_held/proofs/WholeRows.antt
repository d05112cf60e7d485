-- How many rows stand whole in first bytes of a piece, and in which byte each of them ends.
use Rattle.std.proofs.Common.{◌≡◌, ℕ, ◌+◌, ◌*◌, ◌-◌, ◌<◌, ◌≤◌, true, false, List, [], ◌∷◌, ◌++◌, length, take, drop, get_or, refl, sym, ap, ◌∙◌}
use Rattle.std.proofs.Common.{subst, arith, inl, inr, Option, Some, None, leb, eqb}
use Rattle.std.specs.Prelude.{IfSome}
use Rattle.std.specs.Option.{option_map}
use Rattle.std.proofs.lemmas.Bool.{cases_lt, cases_Bool, lt-leb}
use Rattle.std.proofs.lemmas.List.{get_or_append_left, get_or_push, length_push, take_more}
use Rattle.std.proofs.Math.Seq.{take-add}
use Rattle.jls_bits.specs.Bits.{ends_data, is_whole}
use Rattle.jls_bits.specs.Appending.{last_after}
use Rattle.jls_bits.proofs.DataBits.{whole_more, whole_end}
use Rattle.jls_bits.proofs.Appending.{whole_append, last_append}
use Rattle.jls_pixel.specs.PixelBytes.{PixelBytes, pixels_asked}
use Rattle.jls_pixel.specs.CutEnds.{CutEndIs}
use Rattle.jls_pixel.specs.declared.cut_end.PixelCutEnd.{PixelCutEnd}
use Rattle.jls_pixel.specs.declared.cut_end.PixelCutEnd.TheVariants.{Whole, Head}
use Rattle.jls_pixel.specs.declared.decode.PixelFault.TheVariants.{Long, Broken, OutOfMemory}
use Rattle.jls_pixel.specs.Reads as pixel
use Rattle.jls_pixel.specs.Heads as pixel_head
use Rattle.jls_piece.specs.Lines.{PieceShape, pixel_piece, lines_of}
use Rattle.jls_piece.proofs.PixelPieces.{reads_from, long_from, broken_from, piece_head_from}
use Rattle.jls_piece.proofs.RowLines.{length_lines}
use Rattle.jls_held.specs.RowEnds.{HasWholeRows, HasAtMost, HasMore, EndsInByte, AreRowEnds}

-- What a decoder answers ---------------------------------------------------------------------------------------

module _ (d : PixelBytes) (some : 0 < d.components) (bytes : List ℕ) where
  abbrev shape : PieceShape
  shape = pixel_piece (pixels_asked d)

  -- all rows, if the bytes read as rows
  pub rows_read : (rows : List (List (List ℕ))) → pixel.Reads (pixels_asked d) bytes rows → HasWholeRows shape bytes (length rows)
  rows_read rows r =
      let own = reads_from (pixels_asked d) some bytes rows r in
      inl (lines_of d.components rows, own.unread, own.begins, ap (λ n. n * d.components) r.begins.are_rows.count_is)

  -- or are too long
  pub rows_long : (count : ℕ) → count ≡ d.rows → pixel.IsLong (pixels_asked d) bytes → HasWholeRows shape bytes count
  rows_long count is l =
      let own = long_from (pixels_asked d) some bytes l in inl (own.lines, own.unread, own.begins, ap (λ n. n * d.components) is)

  -- those of the head, if they are broken
  pub rows_broken : (rows : List (List (List ℕ))) → pixel.IsBroken (pixels_asked d) bytes → pixel_head.IsHeadOfPiece (pixels_asked d) bytes rows
      → HasWholeRows shape bytes (length rows)
  rows_broken rows b h =
      inr (
        lines_of d.components rows,
        broken_from (pixels_asked d) some bytes b,
        piece_head_from (pixels_asked d) some bytes rows h,
        length_lines d.components rows,
      )

-- of what a decoder was given, if memory was not refused
if_given : (P Q : List ℕ → Type 0) → ((bytes : List ℕ) → P bytes → Q bytes) → (o : Option (List ℕ)) → IfSome o P → IfSome o Q
if_given P Q step None h = tt
if_given P Q step (Some bytes) h = step bytes h

-- what is answered of what a decoder was given
abbrev pub Answers : PixelBytes → ℕ → Type 0
Answers d count = IfSome d.bytes (λ bytes. HasWholeRows (pixel_piece (pixels_asked d)) bytes count)

-- by each end that a clone of a decoder answers
module _ (d clone : PixelBytes) (same : clone ≡ d) (some : 0 < d.components) (end : PixelCutEnd)
    (end_is : IfSome clone.bytes (λ bytes. CutEndIs (pixels_asked clone) bytes end)) (count : ℕ) where
  own_end : IfSome d.bytes (λ bytes. CutEndIs (pixels_asked d) bytes end)
  own_end = subst (λ (z : PixelBytes). IfSome z.bytes (λ bytes. CutEndIs (pixels_asked z) bytes end)) same end_is

  answers : ((bytes : List ℕ) → CutEndIs (pixels_asked d) bytes end → HasWholeRows (pixel_piece (pixels_asked d)) bytes count) → Answers d count
  answers step =
      if_given (λ bytes. CutEndIs (pixels_asked d) bytes end) (λ bytes. HasWholeRows (pixel_piece (pixels_asked d)) bytes count) step d.bytes own_end

  pub by_whole : (rows : List (List (List ℕ))) → end ≡ Whole rows → count ≡ length rows → Answers d count
  by_whole rows is count_is =
      answers (λ bytes h. subst (HasWholeRows (pixel_piece (pixels_asked d)) bytes) (sym count_is)
      (rows_read d some bytes rows (subst (CutEndIs (pixels_asked d) bytes) is h)))

  pub by_broken : (rows : List (List (List ℕ))) → end ≡ Head rows Broken → count ≡ length rows → Answers d count
  by_broken rows is count_is =
      answers (λ bytes h. let b = subst (CutEndIs (pixels_asked d) bytes) is h in
      subst (HasWholeRows (pixel_piece (pixels_asked d)) bytes) (sym count_is) (rows_broken d some bytes rows b.0 b.1))

  pub by_long : (rows : List (List (List ℕ))) → end ≡ Head rows Long → count ≡ d.rows → Answers d count
  by_long rows is count_is =
      answers (λ bytes h. rows_long d some bytes count count_is (subst (CutEndIs (pixels_asked d) bytes) is h).0)

  pub by_none : (rows : List (List (List ℕ))) → end ≡ Head rows OutOfMemory → Answers d count
  by_none rows is = answers (λ bytes h. absurd (subst (CutEndIs (pixels_asked d) bytes) is h))

-- More bytes, and more ends --------------------------------------------------------------------------------------

-- a decoder of first bytes is given the next ones
pub given_more : (bytes : List ℕ) (at to : ℕ) → at ≤ to → (before : Option (List ℕ)) → before ≡ Some (take at bytes) → (more : List ℕ)
    → more ≡ take (to - at) (drop at bytes) → option_map (λ given. given ++ more) before ≡ Some (take to bytes)
given_more bytes at to order before before_is more more_is =
    let sum : at + (to - at) ≡ to = omega (arith, order) in
    ap (option_map (λ given. given ++ more)) before_is ∙ ap (λ z. Some (take at bytes ++ z)) more_is
    ∙ ap (λ z. Some z) (sym (take-add at (to - at) bytes)) ∙ ap (λ n. Some (take n bytes)) sum

-- at most so many are at most one more
pub one_more : (i : PieceShape) (bytes : List ℕ) (n : ℕ) → HasAtMost i bytes n → HasAtMost i bytes (n + 1)
one_more i bytes n (count, whole, most) = (count, whole, omega (arith, most))

-- the end of one row more
pub ends_push : (i : PieceShape) (bytes ends out : List ℕ) (place : ℕ) → AreRowEnds i bytes ends → EndsInByte i bytes (length ends) place
    → out ≡ ends ++ place ∷ [] → AreRowEnds i bytes out
ends_push i bytes ends out place are own out_is = λ row d inside.
    let n = ap length out_is ∙ length_push ends place in
    let got : get_or out row d ≡ get_or (ends ++ place ∷ []) row d = ap (λ z. get_or z row d) out_is in
    elim (cases_lt row (length ends)) [
      | inl early ↦ subst (EndsInByte i bytes row) (sym (got ∙ get_or_append_left ends (place ∷ []) d row early)) (are row d early)
      | inr late ↦ (
          let at_end : row ≡ length ends = omega (arith, n, inside, late) in
          subst (EndsInByte i bytes row) (sym (got ∙ get_or_push ends place d row (sym at_end)))
          (subst (λ r. EndsInByte i bytes r place) (sym at_end) own))
    ]

-- Data bytes -----------------------------------------------------------------------------------------------------

-- one data byte more
pub byte_more : (bytes : List ℕ) (n before x : ℕ) → n < length bytes → x ≡ get_or bytes n 0 → before ≡ last_after 0 (take n bytes)
    → is_whole (take n bytes) ≡ true → ends_data before x ≡ false
    → (is_whole (take (n + 1) bytes) ≡ true) × (x ≡ last_after 0 (take (n + 1) bytes))
byte_more bytes n before x inside x_is before_is whole goes =
    let e : take (n + 1) bytes ≡ take n bytes ++ x ∷ [] =
    take_more bytes n 0 inside ∙ ap (λ z. take n bytes ++ z ∷ []) (sym x_is) in
    let free : ends_data (last_after 0 (take n bytes)) x ≡ false = ap (λ b. ends_data b x) (sym before_is) ∙ goes in (
      ap is_whole e ∙ whole_append 0 (take n bytes) (x ∷ []) whole (whole_more (last_after 0 (take n bytes)) x [] free ∙ whole_end x),
      sym (ap (last_after 0) e ∙ last_append 0 (take n bytes) x),
    )

-- a byte below 0x80 is a data byte
pub below_markers : (before x : ℕ) → x < 128 → ends_data before x ≡ false
unfolding ends_data
below_markers before x l =
    let f : leb 128 x ≡ false = lt-leb 128 x l in elim (cases_Bool (eqb before 255)) [ inl e ↦ rw (e, f) refl | inr e ↦ rw e refl ]

-- Between two places ------------------------------------------------------------------------------------------------

-- what was said of a decoder that was given first bytes of some
pub said : (d e : PixelBytes) (bytes : List ℕ) (count : ℕ) → e ≡ record d { bytes = Some bytes } → Answers e count
    → HasWholeRows (pixel_piece (pixels_asked d)) bytes count
said d e bytes count is answers = subst (λ (z : PixelBytes). Answers z count) is answers

-- a decoder that was given other first bytes has the same rows to read
module _ (d e : PixelBytes) (bytes : List ℕ) where
  same_shape : (at : ℕ) → e ≡ record d { bytes = Some (take at bytes) } → pixel_piece (pixels_asked d) ≡ pixel_piece (pixels_asked e)
  same_shape at is = sym (ap (λ (z : PixelBytes). pixel_piece (pixels_asked z)) is)

  pub at_most_of : (at n : ℕ) → e ≡ record d { bytes = Some (take at bytes) } → HasAtMost (pixel_piece (pixels_asked d)) (take at bytes) n
      → HasAtMost (pixel_piece (pixels_asked e)) (take at bytes) n
  at_most_of at n is h = subst (λ (i : PieceShape). HasAtMost i (take at bytes) n) (same_shape at is) h

  pub more_of : (to at n : ℕ) → e ≡ record d { bytes = Some (take at bytes) } → HasMore (pixel_piece (pixels_asked d)) (take to bytes) n
      → HasMore (pixel_piece (pixels_asked e)) (take to bytes) n
  more_of to at n is h = subst (λ (i : PieceShape). HasMore i (take to bytes) n) (same_shape at is) h

  pub end_of : (at row place : ℕ) → e ≡ record d { bytes = Some (take at bytes) }
      → EndsInByte (pixel_piece (pixels_asked e)) bytes row place → EndsInByte (pixel_piece (pixels_asked d)) bytes row place
  end_of at row place is h = subst (λ (i : PieceShape). EndsInByte i bytes row place) (sym (same_shape at is)) h

  pub whole_of : (to at n : ℕ) → e ≡ record d { bytes = Some (take at bytes) } → HasWholeRows (pixel_piece (pixels_asked d)) (take to bytes) n
      → HasWholeRows (pixel_piece (pixels_asked e)) (take to bytes) n
  whole_of to at n is h = subst (λ (i : PieceShape). HasWholeRows i (take to bytes) n) (same_shape at is) h

  pub ends_there : (at : ℕ) (ends : List ℕ) → e ≡ record d { bytes = Some (take at bytes) }
      → AreRowEnds (pixel_piece (pixels_asked d)) bytes ends → AreRowEnds (pixel_piece (pixels_asked e)) bytes ends
  ends_there at ends is h = subst (λ (i : PieceShape). AreRowEnds i bytes ends) (same_shape at is) h

  pub ends_here : (at : ℕ) (ends : List ℕ) → e ≡ record d { bytes = Some (take at bytes) }
      → AreRowEnds (pixel_piece (pixels_asked e)) bytes ends → AreRowEnds (pixel_piece (pixels_asked d)) bytes ends
  ends_here at ends is h = subst (λ (i : PieceShape). AreRowEnds i bytes ends) (sym (same_shape at is)) h
