use Rattle.std.proofs.Common.{◌≡◌, ℕ, ◌+◌, subst, sym, ◌∙◌, arith, to_z, of_z, w32}
use Rattle.std.specs.Prelude.{ℤ, pos, neg_ℤ, ◌<ℤ◌}
use Rattle.std.proofs.lemmas.Int.{ints}
use Rattle.jls_bits.specs.Golomb.{golomb}
use Rattle.jls_context.specs.Variables.{Variables, cell_at}
use Rattle.jls_interval.specs.Cells.{regular_error}
use Rattle.jls_interval.proofs.EncodedEvents.{difference_range, error_is, regular_code_is, regular_writes}
use Rattle.jls_interval.proofs.encode_sample.write_regular.Goals as goal

-- one sample of regular mode is written, and its cell updated
pub returns-clause-written : goal.returns-clause-written
returns-clause-written c =
    let old : Variables = c.args.encoder.now.coder.cells in let new : Variables = c.update_regular.new.self in
    let near = c.args.neighbours in let mode = c.requires.mode in
    let coder = c.args.encoder.now.coder in
    let difference : ℤ = to_z w32 (of_z w32 c.signed_difference.result) in let error : ℤ = to_z w32 (of_z w32 c.reduce-error.result) in
    let dd : difference ≡ c.signed_difference.result = omega (arith, ints) in
    let ee : error ≡ c.reduce-error.result = omega (arith, ints) in
    let is : error ≡ regular_error old.parameters (cell_at old c.args.mode.context) near c.args.sample = ee
    ∙ error_is old new near c.args.mode.context c.args.mode.negative c.args.sample mode c.predict-predicted.result difference
    c.reduce-error.result c.predict-predicted.ensures.value (dd ∙ c.signed_difference.ensures) c.reduce-error.ensures.value in
    let k : ℕ = c.regular_code-k.result.0 in let mapped : ℕ = c.regular_code-k.result.1 in
    regular_writes old new near c.args.mode.context c.args.mode.negative c.args.sample mode error is c.update_regular.ensures.parameters
    c.update_regular.ensures.updated c.update_regular.ensures.others c.update_regular.ensures.run_cells coder.run_indices
    c.args.encoder.now.writer c.write_golomb.new.writer (golomb k coder.lengths.limit coder.lengths.qbpp mapped)
    c.in_ok-write_golomb.ensures.ok
    (regular_code_is old new near c.args.mode.context c.args.mode.negative c.args.sample mode error k coder.lengths.limit
    coder.lengths.qbpp mapped is c.regular_code-k.ensures.k coder.lengths_are.limit_is coder.lengths_are.qbpp_is
    c.regular_code-k.ensures.mapped)

-- the difference is above -RANGE
pub reduce-error-requires-clause-above : goal.reduce-error-requires-clause-above
reduce-error-requires-clause-above c =
    let most : ℕ = c.args.encoder.now.coder.cells.parameters.maxval in
    let is : to_z w32 (of_z w32 c.signed_difference.result) ≡ c.signed_difference.result = omega (arith, ints) in
    let P : ℤ → Type 0 = λ z. neg_ℤ (pos (most + 1)) <ℤ z in
    subst P (sym (is ∙ c.signed_difference.ensures))
    (difference_range c.args.mode.negative c.args.sample c.predict-predicted.result most c.requires.sample
    c.predict-predicted.ensures.sample).0

-- the difference is below RANGE
pub reduce-error-requires-clause-below : goal.reduce-error-requires-clause-below
reduce-error-requires-clause-below c =
    let most : ℕ = c.args.encoder.now.coder.cells.parameters.maxval in
    let is : to_z w32 (of_z w32 c.signed_difference.result) ≡ c.signed_difference.result = omega (arith, ints) in
    let P : ℤ → Type 0 = λ z. z <ℤ pos (most + 1) in
    subst P (sym (is ∙ c.signed_difference.ensures))
    (difference_range c.args.mode.negative c.args.sample c.predict-predicted.result most c.requires.sample
    c.predict-predicted.ensures.sample).1
