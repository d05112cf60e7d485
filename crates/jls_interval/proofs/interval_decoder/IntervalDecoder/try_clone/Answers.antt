use Rattle.std.proofs.Common.{◌≡◌, ◌*◌, ◌≤◌, ℕ, List, length, sym, ap, subst, ◌∙◌, arith}
use Rattle.jls_bits.specs.Bits.{bits_read}
use Rattle.jls_interval.specs.IntervalBytes.{IsDecoder, HasLengths}
use Rattle.jls_interval.proofs.Finishing.{samples_same}
use Rattle.jls_interval.proofs.interval_decoder.IntervalDecoder.try_clone.Goals as goal

-- the clone is in order as the decoder is
pub invariant_of-result : goal.invariant_of-result
invariant_of-result c =
    let i = c.self.inside in let v = c.self.invariant in let d = i.reader in let new = c.in_ok-reader.reader in
    let o = c.in_ok-reader.ensures in
    let shape = o.shape in let bytes : List ℕ = i.unstuffer in
    let count_is : new.count ≡ i.rows * new.components = shape.count ∙ v.count_is ∙ ap (λ z. i.rows * z) (sym shape.components) in
    subst (λ (z : List ℕ). IsDecoder i.params i.rows z i.ended i.refused new) (sym c.to_owned.ensures) (record {
      in_range = v.in_range;
      width_at_least = (let a = v.width_at_least in let b = shape.width in omega arith);
      are_bytes = v.are_bytes;
      count_is = count_is;
      samples_at_most = samples_same i.rows d new shape.width shape.components v.samples_at_most;
      decoding = λ f. (
          let h = v.decoding f in
          let l : HasLengths bytes new =
          o.lengths bytes (record {
            lines_paid = h.lines_paid;
            lines_at_most =
                subst (λ z. length d.lines ≤ z) (sym v.count_is) h.lines_at_most;
            lines_wide = h.lines_wide;
            line_at_most =
                h.line_at_most;
          }) in
          record {
            ended_is = h.ended_is;
            whole = h.whole;
            reading = λ e. o.bits i.params (bits_read bytes) (h.reading e);
            lines_paid = l.lines_paid;
            lines_at_most = subst (λ z. length new.lines ≤ z) count_is l.lines_at_most;
            lines_wide = l.lines_wide;
            line_at_most = l.line_at_most;
          });
    })
