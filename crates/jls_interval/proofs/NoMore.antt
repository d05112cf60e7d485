-- When bytes read as no lines, whatever follows.
use Rattle.std.proofs.Common.{◌≡◌, ℕ, ◌+◌, ◌<◌, Bool, false, List, ◌++◌, length, sym, ap, ◌∙◌, arith, append_assoc, length-append}
use Rattle.jls_values.specs.Params.{CodingParameters, AreCodingParameters}
use Rattle.jls_bits.specs.Bits.{bits_read, bits_read_after, is_whole}
use Rattle.jls_bits.specs.Appending.{last_after}
use Rattle.jls_bits.proofs.Appending.{data_append, whole_prefix}
use Rattle.jls_interval.specs.Lines.{interval_shape}
use Rattle.jls_interval.specs.Code.{code}
use Rattle.jls_interval.specs.Reads.{ReadsNoMore}
use Rattle.jls_interval.specs.Decoding.{BeginsNoCode, IsComplete}
use Rattle.jls_interval.proofs.CodesApart.{codes_apart}

module _ (p : CodingParameters) (w c n : ℕ) (bytes : List ℕ) where
  pub unwhole_reads_no_more : is_whole bytes ≡ false → ReadsNoMore (interval_shape p w c n) bytes
  unwhole_reads_no_more e more lines r = let t = (whole_prefix 0 bytes more r.begins.data_bits.whole).0 in absurd cc

  -- bytes that begin with the code of no lines read as none, whatever follows
  pub no_code_reads_no_more : BeginsNoCode p w c n (bits_read bytes) → ReadsNoMore (interval_shape p w c n) bytes
  no_code_reads_no_more no_code more lines r =
      let t = (whole_prefix 0 bytes more r.begins.data_bits.whole).0 in
      no_code (bits_read_after (last_after 0 bytes) more) lines r.unread r.begins.are_lines
      (sym (data_append 0 bytes more t) ∙ r.begins.data_bits.read)

  -- bytes with more than seven bits after the code of their lines read as no lines, whatever follows
  pub over_reads_no_more : AreCodingParameters p → 0 < w → (whole : List (List ℕ)) (extra : ℕ)
      → IsComplete p w c n (bits_read bytes) whole extra → 7 < extra → ReadsNoMore (interval_shape p w c n) bytes
  over_reads_no_more ok some whole extra over many more lines r =
      let t = (whole_prefix 0 bytes more r.begins.data_bits.whole).0 in
      let following : List Bool = bits_read_after (last_after 0 bytes) more in
      let e : code p w c lines ++ r.unread ≡ code p w c whole ++ (over.unread ++ following) =
      sym r.begins.data_bits.read ∙ data_append 0 bytes more t ∙ ap (λ z. z ++ following) over.begins
      ∙ append_assoc (code p w c whole) over.unread following in
      let same = (codes_apart p w c n ok some lines whole r.unread (over.unread ++ following) r.begins.are_lines over.are_lines e).1 in
      let k : length r.unread ≡ length over.unread + length following = ap length same ∙ length-append over.unread following in
      let few = r.at_most_seven in
      let counted = over.counted in
      omega (arith, k, few, counted, many)
