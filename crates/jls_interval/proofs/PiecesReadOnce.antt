-- A piece reads as one list of lines at most.
use Rattle.std.proofs.Common.{◌≡◌, ℕ, ◌<◌, Bool, List, length, sym, ap, ◌∙◌, arith, inl, inr}
use Rattle.std.proofs.lemmas.Bool.{cases_lt}
use Rattle.jls_values.specs.Params.{CodingParameters, AreCodingParameters}
use Rattle.jls_interval.specs.Lines.{interval_shape}
use Rattle.jls_interval.specs.Reads.{BeginsWithCode, Reads, IsLong, IsBroken}
use Rattle.jls_interval.proofs.CodesApart.{codes_apart}

module _ (p : CodingParameters) (ok : AreCodingParameters p) (w c n : ℕ) (some : 0 < w) (piece : List ℕ) where
  -- what follows the code of lines is determined too
  pub begins_once : (xs ys : List (List ℕ)) (s t : List Bool) → BeginsWithCode (interval_shape p w c n) piece xs s
      → BeginsWithCode (interval_shape p w c n) piece ys t
      → (xs ≡ ys) × (s ≡ t)
  begins_once xs ys s t a b = codes_apart p w c n ok some xs ys s t a.are_lines b.are_lines (sym a.data_bits.read ∙ b.data_bits.read)

  pub reads_once : (xs ys : List (List ℕ)) → Reads (interval_shape p w c n) piece xs → Reads (interval_shape p w c n) piece ys → xs ≡ ys
  reads_once xs ys a b = (begins_once xs ys a.unread b.unread a.begins b.begins).0

  -- a piece that reads is not too long
  pub read_not_long : (xs : List (List ℕ)) → Reads (interval_shape p w c n) piece xs → IsLong (interval_shape p w c n) piece → ⊥
  read_not_long xs a b =
      let e = ap length (begins_once xs b.lines a.unread b.unread a.begins b.begins).1 in
      let l = a.at_most_seven in let m = b.more_than_seven in absurd (omega arith)

module _ (p : CodingParameters) (w c n : ℕ) (piece : List ℕ) where
  -- a broken piece begins with the code of no lines
  pub broken_begins_with_none : IsBroken (interval_shape p w c n) piece → (lines : List (List ℕ)) (unread : List Bool)
      → BeginsWithCode (interval_shape p w c n) piece lines unread → ⊥
  broken_begins_with_none h lines unread b =
      elim (cases_lt 7 (length unread)) [
        | inl many ↦ h.not_long (record { lines = lines; unread = unread; begins = b; more_than_seven = many })
        | inr few ↦
            h.not_read lines (record { unread = unread; begins = b; at_most_seven = few })
      ]

  pub none_is_broken : ((lines : List (List ℕ)) (unread : List Bool) → BeginsWithCode (interval_shape p w c n) piece lines unread → ⊥)
      → IsBroken (interval_shape p w c n) piece
  none_is_broken h = record { not_read = λ lines r. h lines r.unread r.begins; not_long = λ l. h l.lines l.unread l.begins }
