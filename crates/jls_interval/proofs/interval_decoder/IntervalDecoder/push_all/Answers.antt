use Rattle.std.proofs.Common.{◌≡◌, ◌*◌, ◌≤◌, true, false, length, sym, ap, subst, ◌∙◌, arith}
use Rattle.jls_bits.specs.Bits.{bits_read}
use Rattle.jls_interval.specs.IntervalBytes.{ReadsBefore}
use Rattle.jls_interval.proofs.Finishing.{turned, not_ended, before_back, lengths_same, samples_same}
use Rattle.jls_interval.proofs.interval_decoder.IntervalDecoder.push_all.Goals as goal

pub take_back-given_back-requires : goal.take_back-given_back-requires
take_back-given_back-requires c = λ e.
    let i = c.self.inside in (i.params, bits_read i.unstuffer, (c.self.invariant.decoding c.if-self.false).reading e)

pub push_bytes-requires-clause-reading : goal.push_bytes-requires-clause-reading
push_bytes-requires-clause-reading c =
    let i = c.self.inside in let h = c.self.invariant.decoding c.if-self.false in let b = c.take_back-given_back in (
      i.params,
      λ w. before_back i.params i.unstuffer i.reader b.new.reader b.result (h.reading (not_ended i.unstuffer i.ended h.ended_is w))
          (b.ensures.bits (not_ended i.unstuffer i.ended h.ended_is w)),
    )

-- the lengths that the reader holds are bounded by the bytes so far
pub push_bytes-requires-clause-lengths : goal.push_bytes-requires-clause-lengths
push_bytes-requires-clause-lengths c =
    let i = c.self.inside in let v = c.self.invariant in let h = v.decoding c.if-self.false in let b = c.take_back-given_back in
    lengths_same i.unstuffer i.reader b.new.reader b.ensures.shape b.ensures.kept
    (record {
      lines_paid = h.lines_paid;
      lines_at_most = subst (λ z. length i.reader.lines ≤ z) (sym v.count_is) h.lines_at_most;
      lines_wide = h.lines_wide;
      line_at_most = h.line_at_most;
    })

-- the decoder is in order after the bytes, which end the data or not
pub invariant_of-self : goal.invariant_of-self
invariant_of-self c =
    let i = c.self.inside in let v = c.self.invariant in let h = v.decoding c.if-self.false in
    let b = c.take_back-given_back in let first = b.ensures.shape in
    let new = c.push_bytes.new.reader in let o = c.in-Ok.ensures in let shape = c.push_bytes.ensures.shape in
    let count_is : new.count ≡ i.rows * new.components = shape.count ∙ first.count ∙ v.count_is
    ∙ ap (λ z. i.rows * z) (sym (shape.components ∙ first.components)) in
    let before : ReadsBefore i.params i.unstuffer b.result b.new.reader =
    λ w. before_back i.params i.unstuffer i.reader b.new.reader b.result (h.reading (not_ended i.unstuffer i.ended h.ended_is w))
    (b.ensures.bits (not_ended i.unstuffer i.ended h.ended_is w)) in
    record {
      in_range = v.in_range;
      width_at_least = (let a = v.width_at_least in let b = shape.width in let d = first.width in omega arith);
      are_bytes = c.push_bytes.ensures.are_bytes v.are_bytes;
      count_is = count_is;
      samples_at_most = samples_same i.rows i.reader new (shape.width ∙ first.width) (shape.components ∙ first.components)
          v.samples_at_most;
      decoding = λ f. record {
        ended_is = λ e. sym o.whole ∙ turned c.in-Ok.whole true e;
        whole = λ e. sym o.whole
            ∙ turned c.in-Ok.whole false e;
        reading = λ e. o.reading i.params before (sym o.whole ∙ turned c.in-Ok.whole false e);
        lines_paid =
            o.lengths.lines_paid;
        lines_at_most = subst (λ z. length new.lines ≤ z) count_is o.lengths.lines_at_most;
        lines_wide =
            o.lengths.lines_wide;
        line_at_most = o.lengths.line_at_most;
      };
    }
