use Rattle.std.proofs.Common.{◌≡◌, ℕ, ◌+◌, ◌-◌, true, false, List, ◌++◌, take, drop, length, sym, ap, subst, ◌∙◌, arith, append_assoc}
use Rattle.std.proofs.lemmas.List.{append-nil}
use Rattle.std.proofs.Math.Seq.{take-add}
use Rattle.jls_values.specs.Params.{CodingParameters}
use Rattle.jls_bits.specs.Bits.{bits_read, is_whole}
use Rattle.jls_interval.specs.Decoding.{IsReading}
use Rattle.jls_interval.specs.IntervalBytes.{ReadsBefore, IsReadingBefore, HasLengths}
use Rattle.jls_bits.proofs.Appending.{whole_prefix}
use Rattle.jls_interval.proofs.IntervalReading.{shape_none, shape_then}
use Rattle.jls_interval.proofs.Finishing.{lengths_more, before_lengths, before_appended, before_taken, before_end}
use Rattle.jls_interval.proofs.interval_decoder.push_bytes.Goals as goal
use Rattle.jls_interval.proofs.interval_decoder.push_bytes.Goals.{then-at-bytes, else-at-bytes}

-- before the first bytes nothing more is pushed
pub loop-at-init : goal.loop-at-init
loop-at-init c =
    record {
      within = omega arith;
      room = c.requires.room;
      pushed = sym (append-nil c.args.unstuffer.now);
      are_bytes = λ h. h;
      whole = λ h. absurd (omega arith);
      shape = shape_none c.args.reader.now;
      lengths = c.requires.lengths;
      few = λ any all. absurd (omega arith);
      reading = λ p h w. h w;
    }

pub push_chunk-requires : goal.push_chunk-requires
push_chunk-requires c =
    let h = c.requires.reading in let v = c.loop-at.invariant in let e = c.append_bytes-whole.ensures in
    let now : List ℕ = c.loop-at.unstuffer in let bytes : List ℕ = c.append_bytes-whole.new.unstuffer in
    let w : is_whole bytes ≡ true = sym e.whole ∙ c.if-whole.true in
    let r = before_appended h.0 now c.loop-at.reader bytes c.loop-at.chunk c.append_bytes-whole.new.chunk e.bits w
    (v.reading h.0 h.1 (whole_prefix 0 now _ (subst (λ z. is_whole z ≡ true) e.pushed w)).0) in
    (h.0, r.given, r.reading)

-- some bytes more are pushed, and their bits taken by the reader
pub loop-at-preserved-in-Continue-1 : goal.loop-at-preserved-in-Continue-1
loop-at-preserved-in-Continue-1 c =
    let h = c.requires.reading in let v = c.loop-at.invariant in let e = c.append_bytes-whole.ensures in
    let now : List ℕ = c.loop-at.unstuffer in let bytes : List ℕ = c.append_bytes-whole.new.unstuffer in
    let u : List ℕ = c.args.unstuffer.now in let xs : List ℕ = c.args.bytes.now in let at : ℕ = c.loop-at.at in let n : ℕ = c.min.result in
    let end : ℕ = at + n in let same : n ≡ end - at = omega arith in
    let s : List ℕ = take (end - at) (drop at xs) in let o = c.in_ok-push_chunk.ensures in
    let w : is_whole bytes ≡ true = sym e.whole ∙ c.if-whole.true in
    let reading : (p : CodingParameters) → ReadsBefore p u c.args.given_back c.args.reader.now → is_whole bytes ≡ true
    → IsReadingBefore p bytes c.push_chunk.new.chunk c.push_chunk.new.self =
    λ p f w. before_taken p bytes c.loop-at.reader c.push_chunk.new.self c.append_bytes-whole.new.chunk c.push_chunk.new.chunk o.bits
    (before_appended p now c.loop-at.reader bytes c.loop-at.chunk c.append_bytes-whole.new.chunk e.bits w
    (v.reading p f (whole_prefix 0 now s (subst (λ z. is_whole z ≡ true) e.pushed w)).0)) in
    record {
      within = (let t = c.loop-at-test.true in let m = c.min.ensures in omega arith);
      room = (let f = o.few in omega arith);
      pushed = e.pushed ∙ ap (λ z. z ++ s) v.pushed ∙ append_assoc u (take at xs) s
          ∙ ap (λ z. u ++ z) (sym (take-add at n xs ∙ ap (λ z. take at xs ++ take z (drop at xs)) same));
      are_bytes = λ a. e.are_bytes (v.are_bytes a);
      whole = λ a. e.whole;
      shape = shape_then c.args.reader.now c.loop-at.reader c.push_chunk.new.self v.shape c.push_chunk.ensures.shape;
      few = λ any all whole. (let f = o.few in
          elim c.if-at-bytes.branch [
            | then-at-bytes b ↦ (let l = b.if-at-bytes.true in omega arith)
            | else-at-bytes b ↦
                (let z = b.waiting-is in omega arith)
          ]);
      lengths = before_lengths h.0 bytes c.push_chunk.new.self c.push_chunk.new.chunk (reading h.0 h.1 w);
      reading = reading;
    }

-- some bytes more are pushed, of which one ends the data
pub loop-at-preserved : goal.loop-at-preserved
loop-at-preserved c =
    let v = c.loop-at.invariant in let e = c.append_bytes-whole.ensures in let now : List ℕ = c.loop-at.unstuffer in
    let u : List ℕ = c.args.unstuffer.now in let xs : List ℕ = c.args.bytes.now in let at : ℕ = c.loop-at.at in let n : ℕ = c.min.result in
    let end : ℕ = at + n in let same : n ≡ end - at = omega arith in
    let s : List ℕ = take (end - at) (drop at xs) in let none = ap length c.new-chunk.ensures in
    record {
      within = (let t = c.loop-at-test.true in let m = c.min.ensures in omega arith);
      room = omega arith;
      pushed = e.pushed ∙ ap (λ z. z ++ s) v.pushed ∙ append_assoc u (take at xs) s
          ∙ ap (λ z. u ++ z) (sym (take-add at n xs ∙ ap (λ z. take at xs ++ take z (drop at xs)) same));
      are_bytes = λ a. e.are_bytes (v.are_bytes a);
      whole = λ a. e.whole;
      shape = v.shape;
      few = λ any all w. (let a : true ≡ false = sym w ∙ sym e.whole ∙ c.if-whole.false in cc);
      lengths = subst (λ z. HasLengths z c.loop-at.reader) (sym e.pushed) (lengths_more now s c.loop-at.reader v.lengths);
      reading = λ p f w. (let a : true ≡ false = sym w ∙ sym e.whole ∙ c.if-whole.false in cc);
    }

pub returns-clause-reading : goal.returns-clause-reading
returns-clause-reading c = λ p f w.
    let v = c.loop-at.invariant in let t = c.loop-at-test.false in let l = v.within in let some = c.requires.some in
    subst (IsReading p (bits_read c.loop-at.unstuffer)) (sym c.in_ok-share_lines.ensures.same)
    (before_end p c.loop-at.unstuffer c.loop-at.reader c.loop-at.chunk (v.few (omega arith) (omega arith) w) (v.reading p f w))
