-- A piece reads as one list of lines at most, and one of no byte as none.
use Rattle.std.proofs.Common.{◌≡◌, ℕ, ◌<◌, Bool, List, length, sym, ap, ◌∙◌, arith, inl, inr, [], false}
use Rattle.std.proofs.lemmas.Bool.{cases_lt}
use Rattle.jls_values.specs.Params.{AreCodingParameters}
use Rattle.jls_bits.specs.Bits.{bits_read_after, is_whole}
use Rattle.jls_bits.proofs.Appending.{whole_prefix}
use Rattle.jls_piece.specs.Lines.{PieceShape}
use Rattle.jls_piece.specs.Reads.{BeginsWithCode, Reads, IsLong, IsBroken, ReadsNoMore}
use Rattle.jls_piece.specs.Code.{piece_code}
use Rattle.jls_piece.proofs.PieceCodes.{codes_apart}
use Rattle.jls_piece.proofs.FirstBits.{nothing_before, codes_have_bits}

module _ (i : PieceShape) (ok : AreCodingParameters i.params) (some : 0 < i.width) (piece : List ℕ) where
  -- what follows the code of lines is determined too
  pub begins_once : (xs ys : List (List ℕ)) (s t : List Bool) → BeginsWithCode i piece xs s → BeginsWithCode i piece ys t
      → (xs ≡ ys) × (s ≡ t)
  begins_once xs ys s t a b =
      codes_apart i ok some xs ys s t a.are_lines a.whole_rows b.are_lines b.whole_rows (sym a.data_bits.read ∙ b.data_bits.read)

  pub reads_once : (xs ys : List (List ℕ)) → Reads i piece xs → Reads i piece ys → xs ≡ ys
  reads_once xs ys a b = (begins_once xs ys a.unread b.unread a.begins b.begins).0

  -- a piece that reads is not too long
  pub read_not_long : (xs : List (List ℕ)) → Reads i piece xs → IsLong i piece → ⊥
  read_not_long xs a b =
      let e = ap length (begins_once xs b.lines a.unread b.unread a.begins b.begins).1 in
      let l = a.at_most_seven in let m = b.more_than_seven in absurd (omega arith)

module _ (i : PieceShape) (piece : List ℕ) where
  -- a broken piece begins with the code of no lines
  pub broken_begins_with_none : IsBroken i piece → (lines : List (List ℕ)) (unread : List Bool) → BeginsWithCode i piece lines unread → ⊥
  broken_begins_with_none h lines unread b =
      elim (cases_lt 7 (length unread)) [
        | inl many ↦ h.not_long (record { lines = lines; unread = unread; begins = b; more_than_seven = many })
        | inr few ↦ h.not_read lines (record { unread = unread; begins = b; at_most_seven = few })
      ]

  pub none_is_broken : ((lines : List (List ℕ)) (unread : List Bool) → BeginsWithCode i piece lines unread → ⊥) → IsBroken i piece
  none_is_broken h = record { not_read = λ lines r. h lines r.unread r.begins; not_long = λ l. h l.lines l.unread l.begins }

  -- nor do more bytes where one of 0x80 or more follows 0xFF
  pub unwhole_reads_no_more : is_whole piece ≡ false → ReadsNoMore i piece
  unwhole_reads_no_more e more lines r = let t = (whole_prefix 0 piece more r.begins.data_bits.whole).0 in absurd cc

-- a piece of no byte, where lines are to come
pub empty_is_broken : (i : PieceShape) → 0 < i.width → 0 < i.components → 0 < i.line_count → IsBroken i []
unfolding bits_read_after
empty_is_broken i some any least =
    none_is_broken i []
    (λ lines unread b. codes_have_bits i some any least lines b.are_lines b.whole_rows
    (nothing_before (piece_code i lines) unread (sym b.data_bits.read)))
