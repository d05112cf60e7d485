use Rattle.std.proofs.Common.{◌++◌, refl, arith}
use Rattle.jls_c.specs.Written.{IsFileOf}
use Rattle.jls_c.proofs.Known.{of_write}
use Rattle.jls_c.proofs.Planned.{all_in_range, no_large_interval, no_large_sample, tested_fits, tested_file}
use Rattle.jls_c.proofs.write.jls_write.Goals.{In-Ok}
use Rattle.jls_c.proofs.write.jls_write.Goals as goal

pub returns-in_default-clause-answers : goal.returns-in_default-clause-answers
returns-in_default-clause-answers c = (2, omega arith, refl)

pub returns-then-has_large_interval-clause-answers : goal.returns-then-has_large_interval-clause-answers
returns-then-has_large_interval-clause-answers c = (4, omega arith, refl)

pub returns-then-has_large_sample-clause-answers : goal.returns-then-has_large_sample-clause-answers
returns-then-has_large_sample-clause-answers c = (3, omega arith, refl)

pub of_samples-picture-requires-clause-in_range : goal.of_samples-picture-requires-clause-in_range
of_samples-picture-requires-clause-in_range c =
    all_in_range c.in-Some.shape c.args.samples.now c.precision.result c.has_large_sample.result c.precision.ensures.value
    c.has_large_sample.ensures c.if-has_large_sample.false

pub jls_file-requires : goal.jls_file-requires
jls_file-requires c =
    let samples = c.args.samples.now in
    let in_range = all_in_range c.in-Some.shape samples c.precision.result c.has_large_sample.result c.precision.ensures.value
    c.has_large_sample.ensures c.if-has_large_sample.false in
    tested_fits c.args.frame.now c.in-Some.shape c.in-Some.options samples c.of_samples-picture.result c.has_large_interval.result
    c.in-Some.ensures.some in_range c.has_large_interval.ensures c.if-has_large_interval.false c.of_samples-picture.ensures

-- what was made is a file of the samples
made : (c : In-Ok) → IsFileOf c.args.frame.now c.args.samples.now (c.in-Ok.found.front.items ++ c.in-Ok.found.back.items)
made c =
    let found = c.in-Ok.found in
    let in_range = all_in_range c.in-Some.shape c.args.samples.now c.precision.result c.has_large_sample.result c.precision.ensures.value
    c.has_large_sample.ensures c.if-has_large_sample.false in
    tested_file c.args.frame.now c.in-Some.shape c.in-Some.options c.args.samples.now found.front.items found.back.items
    c.of_samples-picture.result c.has_large_interval.result c.in-Some.ensures.some in_range c.has_large_interval.ensures
    c.if-has_large_interval.false c.of_samples-picture.ensures c.in-Ok.ensures

pub returns-in-Ok-clause-answers : goal.returns-in-Ok-clause-answers
returns-in-Ok-clause-answers c = of_write c.put_file.result c.put_file.ensures.answers

pub returns-in-Ok-clause-done : goal.returns-in-Ok-clause-done
returns-in-Ok-clause-done c = λ done.
    let put = c.put_file.ensures.done done in
    record {
      file = c.in-Ok.found.front.items ++ c.in-Ok.found.back.items;
      is_file = made (goal.at.returns-in-Ok-clause-done c).In-Ok;
      size_is = c.put_file.ensures.size;
      fits = put.0;
      bytes_are = put.1;
    }

pub returns-in-Ok-clause-size_kept : goal.returns-in-Ok-clause-size_kept
returns-in-Ok-clause-size_kept c = λ not_done not_short. absurd (not_short (c.put_file.ensures.answers not_done))

pub returns-in-Ok-clause-short_room : goal.returns-in-Ok-clause-short_room
returns-in-Ok-clause-short_room c = λ short. record {
  file = c.in-Ok.found.front.items ++ c.in-Ok.found.back.items;
  is_file = made (goal.at.returns-in-Ok-clause-short_room c).In-Ok;
  size_is = c.put_file.ensures.size;
  longer = c.put_file.ensures.short_room short;
}

-- ---- the order of refusals

pub returns-then-has_large_interval-clause-good_frame : goal.returns-then-has_large_interval-clause-good_frame
returns-then-has_large_interval-clause-good_frame c = λ good.
    record { shape = c.in-Some.shape; options = c.in-Some.options; plan = c.in-Some.ensures.some }

pub returns-then-has_large_sample-clause-good_frame : goal.returns-then-has_large_sample-clause-good_frame
returns-then-has_large_sample-clause-good_frame c = λ good.
    record { shape = c.in-Some.shape; options = c.in-Some.options; plan = c.in-Some.ensures.some }

pub returns-in-Ok-clause-good_frame : goal.returns-in-Ok-clause-good_frame
returns-in-Ok-clause-good_frame c = λ good.
    record { shape = c.in-Some.shape; options = c.in-Some.options; plan = c.in-Some.ensures.some }

pub returns-in-Err-clause-good_frame : goal.returns-in-Err-clause-good_frame
returns-in-Err-clause-good_frame c = λ good.
    record { shape = c.in-Some.shape; options = c.in-Some.options; plan = c.in-Some.ensures.some }

pub returns-then-has_large_sample-clause-small_intervals : goal.returns-then-has_large_sample-clause-small_intervals
returns-then-has_large_sample-clause-small_intervals c = λ good small.
    no_large_interval c.args.frame.now _ c.in-Some.shape c.in-Some.options c.has_large_interval.result c.in-Some.ensures.some
    c.has_large_interval.ensures c.if-has_large_interval.false

pub returns-in-Ok-clause-small_intervals : goal.returns-in-Ok-clause-small_intervals
returns-in-Ok-clause-small_intervals c = λ good small.
    no_large_interval c.args.frame.now _ c.in-Some.shape c.in-Some.options c.has_large_interval.result c.in-Some.ensures.some
    c.has_large_interval.ensures c.if-has_large_interval.false

pub returns-in-Err-clause-small_intervals : goal.returns-in-Err-clause-small_intervals
returns-in-Err-clause-small_intervals c = λ good small.
    no_large_interval c.args.frame.now _ c.in-Some.shape c.in-Some.options c.has_large_interval.result c.in-Some.ensures.some
    c.has_large_interval.ensures c.if-has_large_interval.false

pub returns-in-Ok-clause-small_samples : goal.returns-in-Ok-clause-small_samples
returns-in-Ok-clause-small_samples c = λ good small few.
    no_large_sample c.args.frame.now _ c.in-Some.shape c.in-Some.options c.args.samples.now c.precision.result c.has_large_sample.result
    c.in-Some.ensures.some c.precision.ensures.value c.has_large_sample.ensures c.if-has_large_sample.false

pub returns-in-Err-clause-small_samples : goal.returns-in-Err-clause-small_samples
returns-in-Err-clause-small_samples c = λ good small few.
    no_large_sample c.args.frame.now _ c.in-Some.shape c.in-Some.options c.args.samples.now c.precision.result c.has_large_sample.result
    c.in-Some.ensures.some c.precision.ensures.value c.has_large_sample.ensures c.if-has_large_sample.false
