-- What a decoder holds at the end of its bytes.
use Rattle.std.proofs.Common.{◌≡◌, ℕ, ◌*◌, ◌^◌, ◌<◌, ◌≤◌, Bool, true, false, List, [], ◌∷◌, ◌++◌, length, Vec, Global}
use Rattle.std.proofs.Common.{Result, Ok, Err, sym, ap, ◌∙◌, subst, arith, inl, inr, append_assoc, length-append}
use Rattle.std.specs.Prelude.{not, Option, Some, None, MatchOption, IfSome, MatchResult}
use Rattle.std.proofs.lemmas.List.{append-nil}
use Rattle.std.proofs.lemmas.Bool.{cases_Bool}
use Rattle.std.specs.List.{AllByRecursion}
use Rattle.jls_values.specs.Params.{CodingParameters, AreCodingParameters}
use Rattle.jls_bits.specs.Bits.{bits_read, is_whole, ends_data, bits_read_after}
use Rattle.jls_bits.proofs.DataBits.{data_end, data_stop, length_more, width_bounds}
use Rattle.jls_bits.proofs.Appending.{whole_prefix}
use Rattle.jls_interval.specs.Lines.{interval_shape}
use Rattle.jls_interval.specs.Reads.{Reads, IsLong, IsBroken}
use Rattle.jls_interval.specs.PieceFaults.{NoLines, OutcomeIs}
use Rattle.jls_interval.specs.Decoding.{IsComplete, BeginsNoCode, HaveWidth, IsReading, TakesFirst, GivesBack, KeepsShape}
use Rattle.jls_interval.specs.IntervalBytes.{IsReadingBefore, HasLengths}
use Rattle.jls_interval.specs.declared.interval_reader.IntervalReader.{IntervalReader}
use Rattle.jls_interval.specs.declared.decode_piece.PieceFault.{PieceFault}
use Rattle.jls_interval.specs.declared.decode_piece.PieceFault.TheVariants.{Long, Broken, OutOfMemory}
use Rattle.jls_interval.specs.declared.interval_reader.State.TheVariants.{Working, NoCode}
use Rattle.jls_interval.proofs.Decoding.{working_ends}
use Rattle.jls_interval.proofs.IntervalReading.{state_of, working, in_range}
use Rattle.jls_interval.proofs.PiecesReadOnce.{reads_once, read_not_long}

-- The bytes so far ---------------------------------------------------------------------------

-- a piece goes on after bytes that have data bits
pub goes_on : (bytes more : List ℕ) (ended : Bool) → (ended ≡ true → is_whole bytes ≡ false) → is_whole (bytes ++ more) ≡ true
    → ended ≡ false
goes_on bytes more ended h w =
    elim (cases_Bool ended) [ inl t ↦ (let a : true ≡ false = sym (whole_prefix 0 bytes more w).0 ∙ h t in cc) | inr o ↦ o ]

-- a byte has at most eight data bits
pub data_bits_at_most : (before : ℕ) (xs : List ℕ) → length (bits_read_after before xs) ≤ 8 * length xs
data_bits_at_most before [] = let e = ap length (data_end before) in omega arith
data_bits_at_most before (x ∷ xs) =
    let r = data_bits_at_most x xs in
    elim (cases_Bool (ends_data before x)) [
      | inl h ↦ (let e = ap length (data_stop before x xs h) in omega arith)
      | inr h ↦
          (let e = length_more before x xs h in let b = width_bounds before in let b1 = b.1 in omega arith)
    ]

-- The end ------------------------------------------------------------------------------------

module _ (p : CodingParameters) (w c n : ℕ) (bytes : List ℕ) where
  -- bytes that have no data bits
  pub broken_bytes : is_whole bytes ≡ false → IsBroken (interval_shape p w c n) bytes
  broken_bytes h = record {
    not_read = λ ls r. (let a : true ≡ false = sym r.begins.data_bits.whole ∙ h in cc);
    not_long = λ l. (let a : true ≡ false = sym l.begins.data_bits.whole ∙ h in cc);
  }

  -- bits that begin with no lines' code
  pub broken_bits : NoLines p w c n (bits_read bytes) → IsBroken (interval_shape p w c n) bytes
  broken_bits none = record {
    not_read = λ ls r. none ls r.unread r.begins.are_lines r.begins.data_bits.read;
    not_long = λ l. none l.lines l.unread l.begins.are_lines l.begins.data_bits.read;
  }

  -- bytes whose data bits begin with the code of no lines are broken
  pub no_code_breaks : BeginsNoCode p w c n (bits_read bytes) → IsBroken (interval_shape p w c n) bytes
  no_code_breaks d = broken_bits (subst (NoLines p w c n) (append-nil (bits_read bytes)) (d []))

  module _ (are_bytes : AllByRecursion (λ x. x < 256) bytes) (whole : is_whole bytes ≡ true) (lines : List (List ℕ)) (extra : ℕ)
      (o : IsComplete p w c n (bits_read bytes) lines extra) where
    pub over_reads : extra ≤ 7 → Reads (interval_shape p w c n) bytes lines
    over_reads l = record {
      unread = o.unread;
      begins =
          record { are_bytes = are_bytes; are_lines = o.are_lines; data_bits = record { whole = whole; read = o.begins } };
      at_most_seven =
          (let e = o.counted in omega arith);
    }

    pub over_long : 7 < extra → IsLong (interval_shape p w c n) bytes
    over_long l = record {
      lines = lines;
      unread = o.unread;
      begins =
          record { are_bytes = are_bytes; are_lines = o.are_lines; data_bits = record { whole = whole; read = o.begins } };
      more_than_seven =
          (let e = o.counted in omega arith);
    }

  -- a piece that reads is answered by its lines
  pub outcome_read : AreCodingParameters p → 0 < w → (result : Result (List (List ℕ)) PieceFault)
      → OutcomeIs (interval_shape p w c n) bytes result → (lines : List (List ℕ)) → Reads (interval_shape p w c n) bytes lines
      → MatchResult result (λ found. found ≡ lines) (λ fault. ⊥)
  outcome_read ok some (Ok found) h lines r = reads_once p ok w c n some bytes found lines h r
  outcome_read ok some (Err Long) h lines r = read_not_long p ok w c n some bytes lines r h
  outcome_read ok some (Err Broken) h lines r = h.not_read lines r
  outcome_read ok some (Err OutOfMemory) h lines r = h

-- a reader in the middle of its lines, and one that found no code: the bytes are broken
module _ (p : CodingParameters) (d : IntervalReader) (bytes : List ℕ) (reading : IsReading p (bits_read bytes) d) where
  -- where lines are still to come, the bytes are broken
  pub working_breaks : d.state ≡ Working → IsBroken (interval_shape p d.reader.width d.components d.count) bytes
  working_breaks is =
      broken_bits p d.reader.width d.components d.count bytes
      (working_ends p (in_range p d (bits_read bytes) reading is) d.reader.width d.components d.count reading.width_at_least
      (bits_read bytes) d.lines d.reader.line.items d.reader.coder.cells d.reader.coder.run_indices d.reader.open_event
      (working p d (bits_read bytes) reading is))

  pub stopped_breaks : d.state ≡ NoCode → IsBroken (interval_shape p d.reader.width d.components d.count) bytes
  stopped_breaks is =
      no_code_breaks p d.reader.width d.components d.count bytes (state_of p d (bits_read bytes) reading NoCode is)

-- what an outcome says of bytes says which lines they read as
pub read_of : (p : CodingParameters) (w c n : ℕ) → AreCodingParameters p → 0 < w
    → (result : Result (List (List ℕ)) PieceFault) (Q : Type 0) (o : Option (List ℕ))
    → MatchOption o Q (λ bytes. OutcomeIs (interval_shape p w c n) bytes result)
    → IfSome o (λ bytes. (lines : List (List ℕ)) → Reads (interval_shape p w c n) bytes lines
    → MatchResult result (λ found. found ≡ lines) (λ fault. ⊥))
read_of p w c n ok some result Q None h = tt
read_of p w c n ok some result Q (Some bytes) h = outcome_read p w c n bytes ok some result h

-- Bytes that come some at a time ---------------------------------------------------------------

pub turned : (b c : Bool) → not b ≡ c → b ≡ not c
turned true c e = ap not e
turned false c e = ap not e

pub not_ended : (bytes : List ℕ) (ended : Bool) → (ended ≡ true → is_whole bytes ≡ false) → is_whole bytes ≡ true → ended ≡ false
not_ended bytes ended h w = elim (cases_Bool ended) [ inl t ↦ (let a : true ≡ false = sym w ∙ h t in cc) | inr o ↦ o ]

-- more bytes, of which nothing was read
pub lengths_more : (bytes more : List ℕ) (d : IntervalReader) → HasLengths bytes d → HasLengths (bytes ++ more) d
lengths_more bytes more d h = record {
  lines_paid = (let a = h.lines_paid in let s = length-append bytes more in omega arith);
  lines_at_most = h.lines_at_most;
  lines_wide = h.lines_wide;
  line_at_most = h.line_at_most;
}

module _ (p : CodingParameters) (bytes : List ℕ) (d : IntervalReader) where
  -- before the bits of a chunk are taken, the lengths that a reader holds are bounded by the bytes
  pub before_lengths : (chunk : List Bool) → IsReadingBefore p bytes chunk d → HasLengths bytes d
  before_lengths chunk h = record {
    lines_paid = (let a = h.reading.lines_paid in let e = ap length h.bits_are in let s = length-append h.given chunk in
        let b = data_bits_at_most 0 bytes in omega arith);
    lines_at_most = h.reading.lines_at_most;
    lines_wide = h.reading.lines_wide;
    line_at_most = h.reading.line_at_most;
  }

  -- a reader that took all bits has none of a chunk before it
  pub before_start : (chunk : List Bool) → chunk ≡ [] → IsReading p (bits_read bytes) d → IsReadingBefore p bytes chunk d
  before_start chunk e h = record {
    given = bits_read bytes;
    bits_are =
        sym (ap (λ z. bits_read bytes ++ z) e ∙ append-nil (bits_read bytes));
    reading = h;
  }

  -- bytes after them, of which the chunk has the bits
  pub before_appended : (bytes' : List ℕ) (chunk chunk' : List Bool)
      → ((given : List Bool) → is_whole bytes' ≡ true → bits_read bytes ≡ given ++ chunk → bits_read bytes' ≡ given ++ chunk')
      → is_whole bytes' ≡ true → IsReadingBefore p bytes chunk d → IsReadingBefore p bytes' chunk' d
  before_appended bytes' chunk chunk' all whole h = record { given = h.given; bits_are = all h.given whole h.bits_are; reading = h.reading }

  -- bits taken from the chunk
  pub before_taken : (d' : IntervalReader) (chunk chunk' : List Bool) → TakesFirst d chunk d' chunk' → IsReadingBefore p bytes chunk d
      → IsReadingBefore p bytes chunk' d'
  before_taken d' chunk chunk' t h =
      let a = t p h.given h.reading in
      record {
        given = h.given ++ a.taken;
        bits_are = h.bits_are ∙ ap (λ z. h.given ++ z) a.chunk_is
            ∙ sym (append_assoc h.given a.taken chunk');
        reading = a.reading;
      }

  -- no bit left in the chunk
  pub before_end : (chunk : List Bool) → length chunk ≤ 0 → IsReadingBefore p bytes chunk d → IsReading p (bits_read bytes) d
  before_end [] l h = subst (λ z. IsReading p z d) (sym (h.bits_are ∙ append-nil h.given)) h.reading
  before_end (b ∷ bs) l h = absurd (omega arith)

-- bits given back
pub before_back : (p : CodingParameters) (bytes : List ℕ) (d d' : IntervalReader) (chunk : List Bool) → IsReading p (bits_read bytes) d
    → GivesBack d d' chunk
    → IsReadingBefore p bytes chunk d'
before_back p bytes d d' chunk h b = let g = b p (bits_read bytes) h in
    record { given = g.before; bits_are = g.given_is; reading = g.reading }

-- the bounds on lengths stay where lines and the line in work stay
pub lengths_same : (bytes : List ℕ) (d d' : IntervalReader) → KeepsShape d d' → (d'.lines ≡ d.lines) × (d'.reader.line ≡ d.reader.line)
    → HasLengths bytes d
    → HasLengths bytes d'
lengths_same bytes d d' s e h = record {
  lines_paid = (let a = h.lines_paid in let q = ap length e.0 in omega arith);
  lines_at_most = (let a = h.lines_at_most in let q = ap length e.0 in let n = s.count in
      omega arith);
  lines_wide = subst (λ z. HaveWidth z d'.lines) (sym s.width)
      (subst (HaveWidth d.reader.width) (sym e.0) h.lines_wide);
  line_at_most = (let a = h.line_at_most in let q = ap (λ (v : Vec ℕ Global). length v.items) e.1 in let n = s.width in omega arith);
}

-- how many samples an interval has
pub samples_same : (rows : ℕ) (d d' : IntervalReader) → d'.reader.width ≡ d.reader.width → d'.components ≡ d.components
    → d.reader.width * d.components * rows ≤ 2 ^ 28 → d'.reader.width * d'.components * rows ≤ 2 ^ 28
samples_same rows d d' e f h =
    subst (λ z. z * d'.components * rows ≤ 2 ^ 28) (sym e) (subst (λ z. d.reader.width * z * rows ≤ 2 ^ 28) (sym f) h)
