-- Bits have one head.
use Rattle.std.proofs.Common.{◌≡◌, ℕ, ◌<◌, Bool, List, [], ◌∷◌, ◌++◌, length, refl, sym, ap, ◌∙◌, subst, arith, inl, inr}
use Rattle.std.proofs.Common.{append_assoc, length-append}
use Rattle.std.proofs.lemmas.List.{append-nil}
use Rattle.jls_values.specs.Params.{AreCodingParameters}
use Rattle.jls_values.proofs.Lists.{first_items, not_empty}
use Rattle.jls_bits.specs.Bits.{bits_read}
use Rattle.jls_interval.specs.Lines.{AreLines}
use Rattle.jls_interval.proofs.HeadLines.{prefix_lines}
use Rattle.jls_piece.specs.Lines.{PieceShape, AreOfWholeRows}
use Rattle.jls_piece.specs.Code.{piece_code}
use Rattle.jls_piece.specs.Reads.{Reads}
use Rattle.jls_piece.specs.Laws.{IsCutCode}
use Rattle.jls_piece.specs.Heads.{BeginsWithFirst, IsHead, IsHeadOfPiece}
use Rattle.jls_piece.proofs.PieceCodes.{codes_apart, code_parts}

-- lines of whole rows, where others are as many
same_whole : (i : PieceShape) (xs ys : List (List ℕ)) → length xs ≡ length ys → AreOfWholeRows i xs → AreOfWholeRows i ys
same_whole i xs ys e whole = λ h. (let r = whole h in (r.0, sym e ∙ r.1))

module _ (i : PieceShape) (ok : AreCodingParameters i.params) (some : 0 < i.width) where
  -- the shape of the piece with this number of lines
  abbrev of_lines : ℕ → PieceShape
  of_lines n = record i { line_count = n }

  module _ (given : List Bool) where
    -- the lines that stand whole are the first of all lines in whose code the bits are cut
    first_of_others : (a b : IsCutCode i given) (xs : List (List ℕ)) → BeginsWithFirst i given b.lines xs
        → BeginsWithFirst i given a.lines xs
    first_of_others a b xs f =
        let l = length-append xs f.others in let l1 = ap length f.lines_are in let l2 = b.are_lines.count_is in
        let l3 = a.are_lines.count_is in
        let t = first_items (length xs) a.lines (omega (arith, l, l1, l2, l3)) in
        let more = a.missing ∷ a.more_missing in
        let whole = same_whole i xs t.0 (sym t.3) f.whole_rows in
        let parts = code_parts i t.0 t.1 whole in
        let bits_are : piece_code i xs ++ (f.unread ++ more) ≡ piece_code i t.0 ++ parts.0 =
        sym (append_assoc (piece_code i xs) f.unread more)
        ∙ ap (λ v. v ++ more) (sym f.given_is) ∙ a.code_is ∙ ap (piece_code i) t.2 ∙ parts.1 in
        let wide : AreLines i.params i.width (length xs) t.0 =
        subst (λ k. AreLines i.params i.width k t.0) t.3 (prefix_lines i.params i.width i.line_count a.lines t.0 t.1 a.are_lines t.2) in
        let same = codes_apart (of_lines (length xs)) ok some xs t.0 (f.unread ++ more) parts.0
        (prefix_lines i.params i.width i.line_count b.lines xs f.others b.are_lines f.lines_are) f.whole_rows wide whole bits_are in
        record {
          others = t.1;
          lines_are = t.2 ∙ ap (λ v. v ++ t.1) (sym same.0);
          whole_rows = f.whole_rows;
          unread = f.unread;
          given_is = f.given_is;
        }

    pub one_head : (xs ys : List (List ℕ)) → IsHead i given xs → IsHead i given ys → xs ≡ ys
    one_head xs ys (inl (a, f)) (inl (b, g)) =
        let l = f.longest ys (first_of_others a b ys g.begins) in let k = g.longest xs (first_of_others b a xs f.begins) in
        let e : length ys ≡ length xs = omega arith in
        let x = prefix_lines i.params i.width i.line_count a.lines xs f.begins.others a.are_lines f.begins.lines_are in
        let y = subst (λ v. AreLines i.params i.width v ys) e
        (prefix_lines i.params i.width i.line_count b.lines ys g.begins.others b.are_lines g.begins.lines_are) in
        (codes_apart (of_lines (length xs)) ok some xs ys f.begins.unread g.begins.unread x f.begins.whole_rows y g.begins.whole_rows
        (sym f.begins.given_is ∙ g.begins.given_is)).0
    one_head xs ys (inl (a, f)) (inr (none, e)) = absurd (none a)
    one_head xs ys (inr (none, e)) (inl (b, g)) = absurd (none b)
    one_head xs ys (inr (none, e)) (inr (none', e')) = e ∙ sym e'

  -- a piece that reads is no proper prefix of a code
  not_cut : (piece : List ℕ) (lines : List (List ℕ)) → Reads i piece lines → IsCutCode i (bits_read piece) → ⊥
  not_cut piece lines r cut =
      let more = cut.missing ∷ cut.more_missing in
      let e : piece_code i lines ++ (r.unread ++ more) ≡ piece_code i cut.lines ++ [] =
      sym (append_assoc (piece_code i lines) r.unread more)
      ∙ ap (λ v. v ++ more) (sym r.begins.data_bits.read) ∙ cut.code_is ∙ sym (append-nil (piece_code i cut.lines)) in
      not_empty r.unread cut.missing cut.more_missing
      (codes_apart i ok some lines cut.lines (r.unread ++ more) [] r.begins.are_lines r.begins.whole_rows cut.are_lines
      cut.whole_rows e).1

  pub no_head : (piece : List ℕ) (lines : List (List ℕ)) → Reads i piece lines → IsHeadOfPiece i piece []
  no_head piece lines r = inl (r.begins.data_bits.whole, inr (not_cut piece lines r, refl))

  -- a piece that reads has an empty head
  pub read_has_none : (piece : List ℕ) (xs head : List (List ℕ)) → Reads i piece xs → IsHeadOfPiece i piece head → head ≡ []
  read_has_none piece xs head r (inl (whole, inl (cut, f))) = absurd (not_cut piece xs r cut)
  read_has_none piece xs head r (inl (whole, inr (none, e))) = e
  read_has_none piece xs head r (inr (none, e)) = e
