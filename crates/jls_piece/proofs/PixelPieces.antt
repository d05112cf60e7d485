-- A piece by sample is an interval by sample.
use Rattle.std.proofs.Common.{◌≡◌, ℕ, ◌+◌, ◌*◌, ◌<◌, ◌≤◌, suc, Bool, List, [], ◌++◌, length, refl}
use Rattle.std.proofs.Common.{sym, ap, ◌∙◌, subst, arith, inl, inr}
use Rattle.std.specs.List.{AllByRecursion}
use Rattle.std.proofs.lemmas.Bool.{cases_lt}
use Rattle.std.proofs.lemmas.Grind.{flat_map-append}
use Rattle.std.proofs.lemmas.Nat.{mul-le}
use Rattle.std.proofs.Math.Nat.{suc-mul}
use Rattle.jls_values.proofs.Lists.{all_prefix}
use Rattle.jls_bits.specs.Bits.{AreDataBits}
use Rattle.jls_interval.specs.Lines.{AreLines}
use Rattle.jls_pixel.specs.Pixels.{PixelShape, IsRow, AreRows}
use Rattle.jls_pixel.specs.Code.{pixel_code}
use Rattle.jls_pixel.specs.Reads as pixel
use Rattle.jls_pixel.specs.Heads as pixel_head
use Rattle.jls_interval.proofs.HeadLines.{prefix_lines}
use Rattle.jls_piece.specs.Lines.{PieceShape, pixel_piece, turned, lines_of, rows_of, AreOfWholeRows}
use Rattle.jls_piece.specs.Reads.{BeginsWithCode, Reads, IsLong, IsBroken, ReadsNoMore}
use Rattle.jls_piece.specs.Laws.{IsCutCode}
use Rattle.jls_piece.specs.Heads.{BeginsWithFirst, AreWholeLines, IsHead, IsHeadOfPiece}
use Rattle.jls_piece.specs.Kinds.{IsPixelInterval}
use Rattle.jls_piece.proofs.RowLines.{length_lines, rows_have_lines, lines_have_rows, rows_are_one}
use Rattle.jls_piece.proofs.PieceCodes.{first_rows_begin}

module _ (i : PixelShape) (some : 0 < i.components) where
  abbrev own : PieceShape
  own = pixel_piece i

  abbrev rows_in : List (List ℕ) → List (List (List ℕ))
  rows_in lines = rows_of i.width i.components lines

  abbrev lines_in : List (List (List ℕ)) → List (List ℕ)
  lines_in rows = lines_of i.components rows

  -- so many rows of the shape
  abbrev Rows : ℕ → List (List (List ℕ)) → Type 0
  Rows n rows = AreRows i.params i.width i.components n rows

  abbrev Lines : ℕ → List (List ℕ) → Type 0
  Lines n lines = AreLines i.params i.width (n * i.components) lines

  are_rows : (n : ℕ) (lines : List (List ℕ)) → Lines n lines → Rows n (rows_in lines)
  are_rows n lines are = (lines_have_rows i.params i.width i.components n lines some are).0

  lines_again : (n : ℕ) (lines : List (List ℕ)) → Lines n lines → lines_in (rows_in lines) ≡ lines
  lines_again n lines are = (lines_have_rows i.params i.width i.components n lines some are).1

  are_lines : (n : ℕ) (rows : List (List (List ℕ))) → Rows n rows → Lines n (lines_in rows)
  are_lines n rows are = rows_have_lines i.params i.width i.components n rows are

  rows_again : (n : ℕ) (rows : List (List (List ℕ))) → Rows n rows → rows_in (lines_in rows) ≡ rows
  rows_again n rows are = rows_are_one i.params i.width i.components n rows some are

  whole_lines : (rows : List (List (List ℕ))) → AreOfWholeRows own (lines_in rows)
  whole_lines rows = λ h. (length rows, length_lines i.components rows)

  -- Reading -----------------------------------------------------------------------------------------

  -- a piece by sample that begins with the code of lines begins with that of their rows
  begins_to : (piece : List ℕ) (lines : List (List ℕ)) (unread : List Bool) → BeginsWithCode own piece lines unread
      → pixel.BeginsWithCode i piece (rows_in lines) unread
  begins_to piece lines unread b =
      record { are_bytes = b.are_bytes; are_rows = are_rows i.row_count lines b.are_lines; data_bits = b.data_bits }

  -- bits that begin with the code of rows begin with that of their lines
  begins_from : (piece : List ℕ) (rows : List (List (List ℕ))) (unread : List Bool) → pixel.BeginsWithCode i piece rows unread
      → BeginsWithCode own piece (lines_in rows) unread
  begins_from piece rows unread b = record {
    are_bytes = b.are_bytes;
    are_lines = are_lines i.row_count rows b.are_rows;
    whole_rows = whole_lines rows;
    data_bits = subst (λ z. AreDataBits piece (pixel_code i.params i.width i.components z ++ unread))
        (sym (rows_again i.row_count rows b.are_rows)) b.data_bits;
  }

  pub reads_to : (piece : List ℕ) (lines : List (List ℕ)) → Reads own piece lines → pixel.Reads i piece (rows_in lines)
  reads_to piece lines r =
      record { unread = r.unread; begins = begins_to piece lines r.unread r.begins; at_most_seven = r.at_most_seven }

  pub reads_lines : (piece : List ℕ) (lines : List (List ℕ)) → Reads own piece lines → lines ≡ lines_in (rows_in lines)
  reads_lines piece lines r = sym (lines_again i.row_count lines r.begins.are_lines)

  pub reads_from : (piece : List ℕ) (rows : List (List (List ℕ))) → pixel.Reads i piece rows → Reads own piece (lines_in rows)
  reads_from piece rows r =
      record { unread = r.unread; begins = begins_from piece rows r.unread r.begins; at_most_seven = r.at_most_seven }

  -- a piece by sample that is too long is an interval that is
  long_to : (piece : List ℕ) → IsLong own piece → pixel.IsLong i piece
  long_to piece l = record {
    rows = rows_in l.lines;
    unread = l.unread;
    begins = begins_to piece l.lines l.unread l.begins;
    more_than_seven = l.more_than_seven;
  }

  -- an interval that is too long is a piece by sample that is
  pub long_from : (piece : List ℕ) → pixel.IsLong i piece → IsLong own piece
  long_from piece l = record {
    lines = lines_in l.rows;
    unread = l.unread;
    begins = begins_from piece l.rows l.unread l.begins;
    more_than_seven = l.more_than_seven;
  }

  -- a piece by sample that is broken is an interval that is
  broken_to : (piece : List ℕ) → IsBroken own piece → pixel.IsBroken i piece
  broken_to piece b = record {
    not_read = λ rows r. b.not_read (lines_in rows) (reads_from piece rows r);
    not_long = λ l. b.not_long (long_from piece l);
  }

  -- an interval that is broken is a piece by sample that is
  pub broken_from : (piece : List ℕ) → pixel.IsBroken i piece → IsBroken own piece
  broken_from piece b = record {
    not_read = λ lines r. b.not_read (rows_in lines) (reads_to piece lines r);
    not_long = λ l. b.not_long (long_to piece l);
  }

  no_more_to : (bytes : List ℕ) → ReadsNoMore own bytes → pixel.ReadsNoMore i bytes
  no_more_to bytes h = λ more rows r. h more (lines_in rows) (reads_from (bytes ++ more) rows r)

  pub no_more_from : (bytes : List ℕ) → pixel.ReadsNoMore i bytes → ReadsNoMore own bytes
  no_more_from bytes h = λ more lines r. h more (rows_in lines) (reads_to (bytes ++ more) lines r)

  -- Heads -------------------------------------------------------------------------------------------

  -- the first of some rows are rows, and the first of some lines are lines
  first_rows : (n : ℕ) (rows xs ys : List (List (List ℕ))) → Rows n rows → rows ≡ xs ++ ys → Rows (length xs) xs
  first_rows n rows xs ys are e = record {
    count_is = refl;
    each = all_prefix (IsRow i.params i.width i.components) xs ys
        (subst (AllByRecursion (IsRow i.params i.width i.components)) e are.each);
  }

  module _ (given : List Bool) where
    cut_to : IsCutCode own given → pixel_head.IsCutCode i given
    cut_to c = record {
      rows = rows_in c.lines;
      are_rows = are_rows i.row_count c.lines c.are_lines;
      missing = c.missing;
      more_missing = c.more_missing;
      code_is = c.code_is;
    }

    cut_from : pixel_head.IsCutCode i given → IsCutCode own given
    cut_from c = record {
      lines = lines_in c.rows;
      are_lines = are_lines i.row_count c.rows c.are_rows;
      whole_rows = whole_lines c.rows;
      missing = c.missing;
      more_missing = c.more_missing;
      code_is = c.code_is ∙ ap (pixel_code i.params i.width i.components) (sym (rows_again i.row_count c.rows c.are_rows));
    }

    first_from : (n : ℕ) (rows first : List (List (List ℕ))) → Rows n rows → pixel_head.BeginsWithFirst i given rows first
        → BeginsWithFirst own given (lines_in rows) (lines_in first)
    first_from n rows first are b = record {
      others = lines_in b.others;
      lines_are = ap (λ z. lines_in z) b.rows_are ∙ flat_map-append (turned i.components) first b.others;
      whole_rows = whole_lines first;
      unread = b.unread;
      given_is = b.given_is ∙ ap (λ z. pixel_code i.params i.width i.components z ++ b.unread)
          (sym (rows_again (length first) first (first_rows n rows first b.others are b.rows_are)));
    }

    first_to : (lines first : List (List ℕ)) → BeginsWithFirst own given lines first
        → pixel_head.BeginsWithFirst i given (rows_in lines) (rows_in first)
    first_to lines first b =
        let more = first_rows_begin i.width i.components first b.others (b.whole_rows refl) in
        record {
          others = more.0;
          rows_are = ap (λ z. rows_in z) b.lines_are ∙ more.1;
          unread = b.unread;
          given_is = b.given_is;
        }

    -- how many rows first lines are
    own_count : (n : ℕ) (lines first : List (List ℕ)) → AreLines i.params i.width n lines → BeginsWithFirst own given lines first
        → length first ≡ length (rows_in first) * i.components
    own_count n lines first are b =
        let m = b.whole_rows refl in
        let wide = prefix_lines i.params i.width n lines first b.others are b.lines_are in
        let fits : Lines m.0 first = record { count_is = m.1; each = wide.each } in
        m.1 ∙ ap (λ z. z * i.components) (sym (are_rows m.0 first fits).count_is)

    whole_from : (n : ℕ) (rows whole : List (List (List ℕ))) → Rows n rows → pixel_head.AreWholeRows i given rows whole
        → AreWholeLines own given (lines_in rows) (lines_in whole)
    whole_from n rows whole are a = record {
      begins = first_from n rows whole are a.begins;
      longest = λ first b. (let few = a.longest (rows_in first)
          (subst (λ z. pixel_head.BeginsWithFirst i given z (rows_in first)) (rows_again n rows are) (first_to (lines_in rows) first b)) in
          let e = own_count (n * i.components) (lines_in rows) first (are_lines n rows are) b in
          let l = length_lines i.components whole in
          let m : length (rows_in first) * i.components ≤ length whole * i.components =
          mul-le (length (rows_in first)) i.components (length whole) i.components few (omega arith) in omega (arith, e, l, m));
    }

    whole_to : (n : ℕ) (lines whole : List (List ℕ)) → Lines n lines → AreWholeLines own given lines whole
        → pixel_head.AreWholeRows i given (rows_in lines) (rows_in whole)
    whole_to n lines whole are a = record {
      begins = first_to lines whole a.begins;
      longest = λ first b. fewer first
          (a.longest (lines_in first) (subst (λ z. BeginsWithFirst own given z (lines_in first)) (lines_again n lines are)
          (first_from n (rows_in lines) first (are_rows n lines are) b)));
    }
      where
        fewer : (first : List (List (List ℕ))) → length (lines_in first) ≤ length whole → length first ≤ length (rows_in whole)
        fewer first h =
            let e = own_count (n * i.components) lines whole are a.begins in let l = length_lines i.components first in
            elim (cases_lt (length (rows_in whole)) (length first)) [
              | inl more ↦ (let m : (length (rows_in whole) + 1) * i.components ≤ length first * i.components =
                  mul-le (length (rows_in whole) + 1) i.components (length first) i.components (omega arith) (omega arith) in
                  let a : length (rows_in whole) + 1 ≡ suc (length (rows_in whole)) = omega arith in
                  let d : (length (rows_in whole) + 1) * i.components ≡ length (rows_in whole) * i.components + i.components =
                  ap (λ z. z * i.components) a ∙ suc-mul (length (rows_in whole)) i.components in
                  absurd (omega (arith, e, l, m, d)))
              | inr few ↦ few
            ]

    -- the lines of a head are those of its rows
    head_lines : (head : List (List ℕ)) → IsHead own given head → head ≡ lines_in (rows_in head)
    head_lines head (inl (cut, a)) =
        let m = a.begins.whole_rows refl in
        let wide = prefix_lines i.params i.width (i.row_count * i.components) cut.lines head a.begins.others cut.are_lines
        a.begins.lines_are in
        sym (lines_again m.0 head (record { count_is = m.1; each = wide.each }))
    head_lines head (inr (none, e)) =
        let fits : Lines 0 [] = record { count_is = omega arith; each = tt } in
        e ∙ sym (lines_again 0 [] fits) ∙ ap (λ z. lines_in (rows_in z)) (sym e)

    none_again : rows_in [] ≡ []
    none_again = rows_again 0 [] (record { count_is = refl; each = tt })

    head_to : (head : List (List ℕ)) → IsHead own given head → pixel_head.IsHead i given (rows_in head)
    unfolding cut_to
    head_to head (inl (cut, a)) = inl (cut_to cut, whole_to i.row_count cut.lines head cut.are_lines a)
    head_to head (inr (none, e)) = inr (λ cut. none (cut_from cut), ap (λ z. rows_in z) e ∙ none_again)

    pub head_from : (rows : List (List (List ℕ))) → pixel_head.IsHead i given rows → IsHead own given (lines_in rows)
    unfolding cut_from
    head_from rows (inl (cut, a)) = inl (cut_from cut, whole_from i.row_count cut.rows rows cut.are_rows a)
    head_from rows (inr (none, e)) = inr (λ cut. none (cut_to cut), ap (λ z. lines_in z) e)

  -- the head of a piece by sample is the lines of its rows
  piece_head_lines : (piece : List ℕ) (head : List (List ℕ)) → IsHeadOfPiece own piece head → head ≡ lines_in (rows_in head)
  piece_head_lines piece head (inl (whole, h)) = head_lines _ head h
  piece_head_lines piece head (inr (broken, e)) =
      e ∙ ap (λ z. lines_in z) (sym (none_again [])) ∙ ap (λ z. lines_in (rows_in z)) (sym e)

  piece_head_to : (piece : List ℕ) (head : List (List ℕ)) → IsHeadOfPiece own piece head → pixel_head.IsHeadOfPiece i piece (rows_in head)
  piece_head_to piece head (inl (whole, h)) = inl (whole, head_to _ head h)
  piece_head_to piece head (inr (broken, e)) = inr (broken, ap (λ z. rows_in z) e ∙ none_again [])

  -- the head of an interval by sample gives that of the piece
  pub piece_head_from : (piece : List ℕ) (rows : List (List (List ℕ))) → pixel_head.IsHeadOfPiece i piece rows
      → IsHeadOfPiece own piece (lines_in rows)
  piece_head_from piece rows (inl (whole, h)) = inl (whole, head_from _ rows h)
  piece_head_from piece rows (inr (broken, e)) = inr (broken, ap (λ z. lines_in z) e)

  -- a piece by sample is the interval by sample of the same shape, in each of its words
  pub is_pixel_interval : IsPixelInterval i
  is_pixel_interval = record {
    reads = λ piece lines. (
      λ r. (rows_in lines, reads_to piece lines r, reads_lines piece lines r),
      λ r. subst (Reads own piece) (sym r.2) (reads_from piece r.0 r.1),
    );
    is_long = λ piece. (long_to piece, long_from piece);
    is_broken = λ piece. (broken_to piece, broken_from piece);
    reads_no_more = λ bytes. (no_more_to bytes, no_more_from bytes);
    is_cut = λ given. (cut_to given, cut_from given);
    is_head = λ given lines. (
      λ h. (rows_in lines, head_to given lines h, head_lines given lines h),
      λ r. subst (IsHead own given) (sym r.2) (head_from given r.0 r.1),
    );
    is_head_of_piece = λ piece lines. (
      λ h. (rows_in lines, piece_head_to piece lines h, piece_head_lines piece lines h),
      λ r. subst (IsHeadOfPiece own piece) (sym r.2) (piece_head_from piece r.0 r.1),
    );
  }
