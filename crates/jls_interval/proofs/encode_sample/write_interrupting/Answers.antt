use Rattle.std.proofs.Common.{◌≡◌, sym, ap, ◌∙◌, arith, to_z, of_z, w32}
use Rattle.std.proofs.lemmas.Int.{ints}
use Rattle.jls_context.specs.Errors.{modulo_reduced}
use Rattle.jls_interval.proofs.EventsApart.{no_zero}
use Rattle.jls_interval.proofs.encode_sample.write_interrupting.Goals as goal

-- where RItype is 1 the error is not 0
pub run_code-k-requires-clause-another : goal.run_code-k-requires-clause-another
run_code-k-requires-clause-another c = λ same zero.
    let dd : to_z w32 (of_z w32 c.signed_difference.result) ≡ c.signed_difference.result = omega (arith, ints) in
    let ee : to_z w32 (of_z w32 c.reduce-error.result) ≡ c.reduce-error.result = omega (arith, ints) in
    no_zero c.args.encoder.now.coder.cells.parameters c.args.neighbours c.requires.above c.args.sample c.requires.sample c.requires.another
    same (sym (c.reduce-error.ensures.value
    ∙ ap (modulo_reduced c.args.encoder.now.coder.cells.parameters) (dd ∙ c.signed_difference.ensures)) ∙ sym ee ∙ zero)

-- where RItype is 1 the error is not 0
pub update_run-requires-clause-another : goal.update_run-requires-clause-another
update_run-requires-clause-another c = λ same zero.
    let dd : to_z w32 (of_z w32 c.signed_difference.result) ≡ c.signed_difference.result = omega (arith, ints) in
    let ee : to_z w32 (of_z w32 c.reduce-error.result) ≡ c.reduce-error.result = omega (arith, ints) in
    no_zero c.args.encoder.now.coder.cells.parameters c.args.neighbours c.requires.above c.args.sample c.requires.sample c.requires.another
    same (sym (c.reduce-error.ensures.value
    ∙ ap (modulo_reduced c.args.encoder.now.coder.cells.parameters) (dd ∙ c.signed_difference.ensures)) ∙ sym ee ∙ zero)
