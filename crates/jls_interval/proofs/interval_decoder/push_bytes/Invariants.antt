use Rattle.std.proofs.Common.{◌≡◌, ◌-◌, ◌<◌, ◌≤◌, true, ◌++◌, take, length}
use Rattle.std.specs.List.{AllByRecursion}
use Rattle.jls_values.specs.Params.{CodingParameters}
use Rattle.jls_bits.specs.Bits.{is_whole}
use Rattle.jls_interval.specs.Decoding.{KeepsShape}
use Rattle.jls_interval.specs.IntervalBytes.{ReadsBefore, IsReadingBefore, HasLengths}
use Rattle.jls_interval.proofs.interval_decoder.push_bytes.Given as goal

-- before each step: the bytes up to here are pushed, and the reader holds what they give
abbrev pub invariant-loop-at : goal.invariant-loop-at
invariant-loop-at l = record {
  within : l.at ≤ length l.bytes;
  room : length l.chunk ≤ 56;
  pushed : l.unstuffer ≡ l.initial.unstuffer ++ take l.at l.bytes;
  are_bytes : AllByRecursion (λ x. x < 256) l.initial.unstuffer → AllByRecursion (λ x. x < 256) l.unstuffer;
  whole : 0 < l.at → l.whole ≡ is_whole l.unstuffer;
  shape : KeepsShape l.initial.reader l.reader;
  few : 0 < l.at → l.at ≡ length l.bytes → is_whole l.unstuffer ≡ true → length l.chunk ≤ 0;
  lengths : HasLengths l.unstuffer l.reader;
  reading : (p : CodingParameters) → ReadsBefore p l.initial.unstuffer l.initial.chunk l.initial.reader → is_whole l.unstuffer ≡ true
      → IsReadingBefore p l.unstuffer l.chunk l.reader;
}

abbrev pub decreases-loop-at : goal.decreases-loop-at
decreases-loop-at l = length l.bytes - l.at
