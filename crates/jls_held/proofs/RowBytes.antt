-- Which bytes of a piece carry bits of a row: in which byte each row ends, by how many rows stand whole in first bytes.
use Rattle.std.proofs.Common.{◌≡◌, ℕ, ◌+◌, ◌*◌, ◌<◌, ◌≤◌, Bool, true, List, [], ◌∷◌, ◌++◌, length, refl, sym, ap, ◌∙◌}
use Rattle.std.proofs.Common.{subst, arith, inl, inr, append_assoc, length-append}
use Rattle.std.specs.List.{AllByRecursion}
use Rattle.std.proofs.lemmas.Bool.{cases_lt, false≢true}
use Rattle.std.proofs.lemmas.Nat.{mul-le}
use Rattle.jls_values.specs.Params.{AreCodingParameters}
use Rattle.jls_values.proofs.Lists.{first_items, longer_begins, same_begin}
use Rattle.jls_bits.specs.Bits.{bits_read, is_whole}
use Rattle.jls_interval.specs.Lines.{AreLines}
use Rattle.jls_interval.proofs.HeadLines.{prefix_lines}
use Rattle.jls_piece.specs.Lines.{PieceShape, AreOfWholeRows}
use Rattle.jls_piece.specs.Code.{piece_code}
use Rattle.jls_piece.specs.Laws.{IsCutCode, BrokenBeginsWithNone}
use Rattle.jls_piece.specs.Heads.{AreWholeLines, IsHeadOfPiece}
use Rattle.jls_piece.proofs.PieceCodes.{codes_apart, code_parts}
use Rattle.jls_held.specs.RowEnds.{HasWholeRows}

-- bits that are more than none
some_bits : (xs : List Bool) → 0 < length xs → (x : Bool) × (more : List Bool) × (xs ≡ x ∷ more)
some_bits [] l = absurd (omega (arith, l))
some_bits (x ∷ xs) l = (x, xs, refl)

-- A piece begins with the code of some lines. The bits of other bytes and its bits begin the same bits
module _ (i : PieceShape) (ok : AreCodingParameters i.params) (some : 0 < i.width) (broken : BrokenBeginsWithNone)
    (lines : List (List ℕ)) (are : AreLines i.params i.width i.line_count lines) (rows : AreOfWholeRows i lines) (bytes : List ℕ)
    (low : AllByRecursion (λ x. x < 256) bytes) (whole : is_whole bytes ≡ true) (r s : List Bool)
    (meet : bits_read bytes ++ r ≡ piece_code i lines ++ s) where
  -- first lines of others whose code begins the same bits are the first of the lines
  same_first : (n : ℕ) (others us vs xs ys : List (List ℕ)) (t u : List Bool) → AreLines i.params i.width n others → others ≡ us ++ vs
      → AreOfWholeRows i us → lines ≡ xs ++ ys → length us ≡ length xs → piece_code i us ++ t ≡ piece_code i xs ++ u → us ≡ xs
  same_first n others us vs xs ys t u those others_are us_rows lines_are count e =
      let p = i.params in let w = i.width in
      let wide : AreLines p w (length us) xs = subst (λ k. AreLines p w k xs) (sym count)
      (prefix_lines p w i.line_count lines xs ys are lines_are) in
      let xs_rows : AreOfWholeRows i xs = λ h. (let k = us_rows h in (k.0, sym count ∙ k.1)) in
      (codes_apart (record i { line_count = length us }) ok some us xs t u (prefix_lines p w n others us vs those others_are) us_rows
      wide xs_rows e).0

  -- the bits begin with the code of first lines, if they are as many
  bits_begin : (xs ys : List (List ℕ)) → lines ≡ xs ++ ys → AreOfWholeRows i xs → length (piece_code i xs) ≤ length (bits_read bytes)
      → (t : List Bool) × (bits_read bytes ≡ piece_code i xs ++ t)
  bits_begin xs ys lines_are xs_rows l =
      let parts = code_parts i xs ys xs_rows in
      let e : bits_read bytes ++ r ≡ piece_code i xs ++ (parts.0 ++ s) =
      meet ∙ ap (λ z. piece_code i z ++ s) lines_are ∙ ap (λ z. z ++ s) parts.1 ∙ append_assoc (piece_code i xs) parts.0 s in
      (let x = longer_begins (bits_read bytes) (piece_code i xs) r (parts.0 ++ s) e l in (x.0, x.1))

  -- Rows that stand whole in the bytes have no more bits than these
  pub rows_within : (count k : ℕ) → HasWholeRows i bytes count → 0 < i.components → k ≤ count → 0 < k → (xs ys : List (List ℕ))
      → lines ≡ xs ++ ys → length xs ≡ k * i.components → length (piece_code i xs) ≤ length (bits_read bytes)
  rows_within count k (inl (ws, unread, b, full)) some_component at_most at_least xs ys lines_are xs_count =
      let e : piece_code i ws ++ (unread ++ r) ≡ piece_code i lines ++ s =
      sym (append_assoc (piece_code i ws) unread r) ∙ ap (λ z. z ++ r) (sym b.data_bits.read) ∙ meet in
      let same : ws ≡ lines = (codes_apart i ok some ws lines (unread ++ r) s b.are_lines b.whole_rows are rows e).0 in
      let xs_rows : AreOfWholeRows i xs = λ h. (k, xs_count) in
      let parts = code_parts i xs ys xs_rows in
      let size = ap length b.data_bits.read ∙ length-append (piece_code i ws) unread in
      let code = ap (λ z. length (piece_code i z)) (same ∙ lines_are) ∙ ap length parts.1 ∙ length-append (piece_code i xs) parts.0 in
      omega (arith, size, code)
  rows_within count k (inr (head, bad, is_head, head_count)) some_component at_most at_least xs ys lines_are xs_count =
      by is_head
    where
      long : 0 < length head
      long = let m = mul-le 1 1 count i.components (omega (arith, at_most, at_least)) (omega (arith, some_component)) in
          omega (arith, m, head_count)

      none : head ≡ [] → length (piece_code i xs) ≤ length (bits_read bytes)
      none e = absurd (let l = ap length e in omega (arith, l, long))

      by_cut : (cut : IsCutCode i (bits_read bytes)) → AreWholeLines i (bits_read bytes) cut.lines head
          → length (piece_code i xs) ≤ length (bits_read bytes)
      by_cut cut a =
          let f = a.begins in
          let n1 = ap length f.lines_are in let n2 = length-append head f.others in let n3 = cut.are_lines.count_is in
          let n4 = are.count_is in
          let t = first_items (length head) lines (omega (arith, n1, n2, n3, n4)) in
          let head_rows : AreOfWholeRows i t.0 = λ h. (count, t.3 ∙ head_count) in
          let parts = code_parts i t.0 t.1 head_rows in
          let e : piece_code i head ++ (f.unread ++ r) ≡ piece_code i t.0 ++ (parts.0 ++ s) =
          sym (append_assoc (piece_code i head) f.unread r) ∙ ap (λ z. z ++ r) (sym f.given_is) ∙ meet
          ∙ ap (λ z. piece_code i z ++ s) t.2 ∙ ap (λ z. z ++ s) parts.1 ∙ append_assoc (piece_code i t.0) parts.0 s in
          let same : head ≡ t.0 = same_first i.line_count cut.lines head f.others t.0 t.1 (f.unread ++ r) (parts.0 ++ s) cut.are_lines
          f.lines_are f.whole_rows t.2 (sym t.3) e in
          let fewer : length xs ≤ length t.0 = (
          let m = mul-le k i.components count i.components at_most (omega arith) in omega (arith, m, xs_count, t.3, head_count)) in
          let c = first_items (length xs) t.0 fewer in
          let split : xs ++ ys ≡ c.0 ++ (c.1 ++ t.1) = sym lines_are ∙ t.2 ∙ ap (λ z. z ++ t.1) c.2 ∙ append_assoc c.0 c.1 t.1 in
          let one : xs ≡ c.0 = (same_begin xs c.0 ys (c.1 ++ t.1) split (sym c.3)).0 in
          let xs_rows : AreOfWholeRows i c.0 = λ h. (k, c.3 ∙ xs_count) in
          let inner = code_parts i c.0 c.1 xs_rows in
          let size = ap length f.given_is ∙ length-append (piece_code i head) f.unread in
          let code = ap (λ z. length (piece_code i z)) (same ∙ c.2) ∙ ap length inner.1 ∙ length-append (piece_code i c.0) inner.0 in
          let own = ap (λ z. length (piece_code i z)) one in
          omega (arith, size, code, own)

      by : IsHeadOfPiece i bytes head → length (piece_code i xs) ≤ length (bits_read bytes)
      by (inl (w, inl (cut, a))) = by_cut cut a
      by (inl (w, inr (not, e))) = none e
      by (inr (w, e)) = none e

  -- Rows of which one doesn't stand whole in the bytes have more bits
  pub rows_beyond : (count k : ℕ) → HasWholeRows i bytes count → 0 < i.components → count < k → (xs ys : List (List ℕ))
      → lines ≡ xs ++ ys → length xs ≡ k * i.components → length (bits_read bytes) < length (piece_code i xs)
  rows_beyond count k (inl (ws, unread, b, full)) some_component below xs ys lines_are xs_count =
      absurd (
      let l1 = are.count_is in let l2 = ap length lines_are ∙ length-append xs ys in
      let m = mul-le (count + 1) i.components k i.components (omega (arith, below)) (omega arith) in
      let d : (count + 1) * i.components ≡ count * i.components + i.components = omega arith in
      omega (arith, l1, l2, m, d, full, xs_count, some_component))
  rows_beyond count k (inr (head, bad, is_head, head_count)) some_component below xs ys lines_are xs_count =
      elim (cases_lt (length (bits_read bytes)) (length (piece_code i xs))) [
        | inl l ↦ l
        | inr l ↦ absurd (refuse (bits_begin xs ys lines_are xs_rows l))
      ]
    where
      xs_rows : AreOfWholeRows i xs
      xs_rows = λ h. (k, xs_count)

      -- the bits are no code of all lines with more bits
      no_code : (t : List Bool) → bits_read bytes ≡ piece_code i lines ++ t → ⊥
      no_code t e = (broken i bytes).0 bad lines t (record {
        are_bytes = low;
        are_lines = are;
        whole_rows = rows;
        data_bits = record { whole = whole; read = e };
      })

      -- so they are cut
      is_cut : IsCutCode i (bits_read bytes)
      is_cut =
          elim (cases_lt (length (bits_read bytes)) (length (piece_code i lines))) [
            | inl l ↦ (
                let x = longer_begins (piece_code i lines) (bits_read bytes) s r (sym meet) (omega (arith, l)) in
                let n = ap length x.1 ∙ length-append (bits_read bytes) x.0 in
                let y = some_bits x.0 (omega (arith, l, n)) in
                record {
                  lines = lines;
                  are_lines = are;
                  whole_rows = rows;
                  missing = y.0;
                  more_missing = y.1;
                  code_is = ap (λ z. bits_read bytes ++ z) (sym y.2) ∙ sym x.1;
                })
            | inr l ↦ (
                let x = longer_begins (bits_read bytes) (piece_code i lines) r s meet (omega (arith, l)) in
                absurd (no_code x.0 x.1))
          ]

      refuse : (t : List Bool) × (bits_read bytes ≡ piece_code i xs ++ t) → ⊥
      refuse (t, given) = by is_head
        where
          by_cut : (cut : IsCutCode i (bits_read bytes)) → AreWholeLines i (bits_read bytes) cut.lines head → ⊥
          by_cut cut a =
              let n1 = cut.are_lines.count_is in let n2 = are.count_is in let n3 = ap length lines_are ∙ length-append xs ys in
              let c = first_items (length xs) cut.lines (omega (arith, n1, n2, n3)) in
              let c_rows : AreOfWholeRows i c.0 = λ h. (k, c.3 ∙ xs_count) in
              let parts = code_parts i c.0 c.1 c_rows in
              let more = cut.missing ∷ cut.more_missing in
              let e : piece_code i c.0 ++ parts.0 ≡ piece_code i xs ++ (t ++ more) =
              sym parts.1 ∙ ap (piece_code i) (sym c.2) ∙ sym cut.code_is ∙ ap (λ z. z ++ more) given
              ∙ append_assoc (piece_code i xs) t more in
              let same : c.0 ≡ xs = same_first i.line_count cut.lines c.0 c.1 xs ys parts.0 (t ++ more) cut.are_lines c.2 c_rows lines_are
              c.3 e in
              let l = a.longest xs (record {
                others = c.1;
                lines_are = c.2 ∙ ap (λ z. z ++ c.1) same;
                whole_rows = xs_rows;
                unread = t;
                given_is = given;
              }) in
              let m = mul-le (count + 1) i.components k i.components (omega (arith, below)) (omega arith) in
              let d : (count + 1) * i.components ≡ count * i.components + i.components = omega arith in
              omega (arith, l, m, d, xs_count, head_count, some_component)

          by : IsHeadOfPiece i bytes head → ⊥
          by (inl (w, inl (cut, a))) = by_cut cut a
          by (inl (w, inr (not, e))) = not is_cut
          by (inr (w, e)) = false≢true (sym w ∙ whole)
