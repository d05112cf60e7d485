use Rattle.std.proofs.Common.{◌≡◌, ◌++◌, ◌+◌, ◌*◌, ◌-◌, ◌≤◌, take, length}
use Rattle.std.specs.Prelude.{vec_len, vec_capacity}
use Rattle.jls_partial.specs.Text.{samples_text}
use Rattle.jls_partial.proofs.writing.put_samples.Given as goal

-- the text of the samples so far is put, and there is room for the rest
abbrev pub invariant-loop-sample : goal.invariant-loop-sample
invariant-loop-sample l = record {
  room : vec_len l.out + (length l.samples - l.sample-index) * 2 ≤ vec_capacity l.out;
  same : l.out.items ≡ l.fn.out.items ++ samples_text (take l.sample-index l.samples);
}
