use Rattle.std.proofs.Common.{rules, ◌≡◌, Result, refl, subst}
use Rattle.std.proofs.lemmas.Result.{IfOk-at_ok, err_from_is_err_and}
use Rattle.jls_partial.specs.Partial.{PartialPicture}
use Rattle.jls_partial.specs.TextReading.{GivesText, read_text}
use Rattle.jls_partial.specs.declared.text_fault.TextFault.{TextFault}
use Rattle.jls_partial.specs.TextMerging.{RefusesText}
use Rattle.jls_partial.specs.declared.text_merging.MergeTextFault.{MergeTextFault}
use Rattle.jls_station.specs.InputFaults.{input_fault_of}
use Rattle.jls_station.proofs.Mapped.{error_at, value_at}
use Rattle.jls_cli.specs.Outcomes.{refusal_at}
use Rattle.jls_cli.specs.declared.outcome.Cause.TheVariants.{Input}
use Rattle.jls_salvage_run.proofs.Held.{text_first, text_merged, text_fails, text_differs}
use Rattle.jls_salvage_run.proofs.inputs.join_text.Goals as goal

pub returns-in-None-clause-joined : goal.returns-in-None-clause-joined
returns-in-None-clause-joined c =
    let partial = c.in_ok-partial-in-None.partial in
    let was = value_at _ c.from_bytes.result c.map_err.result partial c.map_err.ensures.cases c.in_ok-partial-in-None.was in
    let found = IfOk-at_ok _ was c.from_bytes.ensures.found in
    text_first c.args.held c.args.text.now partial c.holding.result c.in-None.is found c.holding.ensures

pub returns-in_err-partial-in-None-clause-refused : goal.returns-in_err-partial-in-None-clause-refused
returns-in_err-partial-in-None-clause-refused c =
    let text = c.args.text.now in
    let made = error_at _ (λ fault. refusal_at c.args.name (Input (input_fault_of fault))) (λ fault r made. search rules)
    c.from_bytes.result c.map_err.result c.in_err-partial-in-None.field-0.0 c.map_err.ensures.cases c.in_err-partial-in-None.was in
    let fails = subst (λ (r : Result PartialPicture TextFault). GivesText (λ q. q) r (read_text text)) made.2 c.from_bytes.ensures.exact in
    let p = err_from_is_err_and c.from_residual.result c.from_residual.ensures.1 in
    rw (p.1, p.2, made.1) (text_fails c.args.held text c.args.name made.0 (input_fault_of made.0) refl fails)

pub returns-in-Ok-clause-joined : goal.returns-in-Ok-clause-joined
returns-in-Ok-clause-joined c =
    text_merged c.args.held c.in-Some.station c.args.text.now c.take_text.new.self c.in-Some.is c.in-Ok.ensures.ok

pub returns-in-Err-Text-clause-refused : goal.returns-in-Err-Text-clause-refused
returns-in-Err-Text-clause-refused c =
    let refused = subst (λ (e : MergeTextFault). RefusesText c.in-Some.station c.args.text.now e) c.in-Err-Text.field-0-is
    c.in-Err-Text.ensures.refused in
    let is : c.input_fault.result ≡ input_fault_of c.in-Err-Text.fault = cc in
    text_fails c.args.held c.args.text.now c.args.name c.in-Err-Text.fault c.input_fault.result is refused

pub returns-clause-refused : goal.returns-clause-refused
returns-clause-refused c =
    let refused = subst (λ (e : MergeTextFault). RefusesText c.in-Some.station c.args.text.now e) c.in-Err-ShapeDiffers.field-0-is
    c.in-Err-ShapeDiffers.ensures.refused in
    text_differs c.args.held c.in-Some.station c.args.text.now c.args.name c.in-Some.is refused
