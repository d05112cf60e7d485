use Rattle.std.proofs.Common.{◌≡◌, ◌-◌, ◌+◌, ◌*◌, ◌≤◌, ◌++◌, length}
use Rattle.std.specs.Prelude.{vec_len, vec_capacity}
use Rattle.jls_partial.specs.Text.{samples_text}
use Rattle.jls_partial.proofs.TextFields.{IsBytes}
use Rattle.jls_partial.proofs.text_samples.samples_in.Given as goal

-- the text of the samples so far, and the rest, are the bytes
abbrev pub invariant-loop : goal.invariant-loop
invariant-loop l = record {
  room : vec_len l.samples + (l.count - l.counter) ≤ vec_capacity l.samples;
  read : length l.samples.items ≡ l.counter;
  left : length l.rest ≡ (l.count - l.counter) * 2;
  bytes : IsBytes l.rest;
  same : samples_text l.samples.items ++ l.rest ≡ l.fn.bytes;
}
