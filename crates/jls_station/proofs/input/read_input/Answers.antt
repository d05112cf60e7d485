use Rattle.std.proofs.Common.{rules, List, ℕ, Result, subst, sym}
use Rattle.std.specs.Prelude.{IfSome}
use Rattle.std.proofs.lemmas.Result.{IfOk-at_ok, err_from_is_err_and}
use Rattle.jls_partial.specs.Partial.{PartialPicture}
use Rattle.jls_partial.specs.TextReading.{GivesText, read_text}
use Rattle.jls_partial.specs.declared.text_fault.TextFault.{TextFault}
use Rattle.jls_io.specs.Event.{GrewBy}
use Rattle.jls_station.specs.Forms.{IsForm, IsAllOf, IsCountedIn, IsGivenBy}
use Rattle.jls_station.specs.Given.{Given}
use Rattle.jls_station.specs.Inputs.{ReadsGive}
use Rattle.jls_station.specs.InputFaults.{input_fault_of}
use Rattle.jls_station.specs.KnownInputs.{CountsWithin}
use Rattle.jls_station.specs.Texts.{IsTextOf}
use Rattle.jls_station.specs.declared.input.InputForm.{InputForm}
use Rattle.jls_station.proofs.Mapped.{error_at, value_at}
use Rattle.jls_station.proofs.KnownInputs.{none_counted, text_refused}
use Rattle.jls_station.proofs.OneInput.{all_read, refused_by, text_gives}
use Rattle.jls_station.proofs.input.read_input.Goals as goal

-- the text has a fault
pub returns-in_err-partial-in-Text-clause-refused : goal.returns-in_err-partial-in-Text-clause-refused
returns-in_err-partial-in-Text-clause-refused g c =
    let old = g.S.Device.history c.args.device.now in
    let new = g.S.Device.history c.read_form.new.device in
    let bytes = c.read_form.new.text.items in
    let form = subst (λ (f : InputForm). GrewBy (IsForm c.args.source bytes f) old new) c.in-Text.is c.in_ok-form.ensures.form in
    let made = error_at _ input_fault_of (λ e r made. search rules) c.from_bytes.result c.map_err.result c.in_err-partial-in-Text.field-0.0
    c.map_err.ensures.cases c.in_err-partial-in-Text.was in
    let exact = subst (λ (t : List ℕ). GivesText (λ q. q) c.from_bytes.result (read_text t)) c.deref.ensures.value
    c.from_bytes.ensures.exact in
    let fails = subst (λ (r : Result PartialPicture TextFault). GivesText (λ q. q) r (read_text bytes)) made.2 exact in
    let p = err_from_is_err_and c.from_residual-in_err-partial-in-Text.result c.from_residual-in_err-partial-in-Text.ensures.1 in
    rw (p.1, p.2, made.1) (refused_by old new bytes form.they_are.1 (all_read c.args.source old new bytes form) made.0 fails)

-- the text is read, and gives its partial picture
pub returns-in-Text-clause-given : goal.returns-in-Text-clause-given
returns-in-Text-clause-given g c =
    let old = g.S.Device.history c.args.device.now in
    let new = g.S.Device.history c.read_form.new.device in
    let bytes = c.read_form.new.text.items in
    let partial = c.in_ok-partial-in-Text.partial in
    let form = subst (λ (f : InputForm). GrewBy (IsForm c.args.source bytes f) old new) c.in-Text.is c.in_ok-form.ensures.form in
    let was = value_at _ c.from_bytes.result c.map_err.result partial c.map_err.ensures.cases c.in_ok-partial-in-Text.was in
    let found = IfOk-at_ok _ was c.from_bytes.ensures.found in
    subst (λ (x : Given). GrewBy (ReadsGive c.args.source x) old new) (sym c.of_text.ensures)
    (text_gives c.args.source old new bytes form partial (subst (λ (t : List ℕ). IsTextOf t partial) c.deref.ensures.value found))

pub returns-clause-known_copy : goal.returns-clause-known_copy
returns-clause-known_copy g c copied =
    subst (λ (f : InputForm). IfSome (g.S.Source.remaining c.args.device.now) (IsGivenBy c.args.source f)) c.in-Copy.is
    c.in_ok-form.ensures.known_copy

-- the text has a fault, in the words of known bytes
pub returns-in_err-partial-in-Text-clause-known_refused : goal.returns-in_err-partial-in-Text-clause-known_refused
returns-in_err-partial-in-Text-clause-known_refused g c =
    let old = g.S.Device.history c.args.device.now in
    let new = g.S.Device.history c.read_form.new.device in
    let left = g.S.Source.remaining c.args.device.now in
    let bytes = c.read_form.new.text.items in
    let form = subst (λ (f : InputForm). GrewBy (IsForm c.args.source bytes f) old new) c.in-Text.is c.in_ok-form.ensures.form in
    let all = subst (λ (f : InputForm). IsAllOf left bytes f) c.in-Text.is c.in_ok-form.ensures.known in
    let made = error_at _ input_fault_of (λ e r made. search rules) c.from_bytes.result c.map_err.result c.in_err-partial-in-Text.field-0.0
    c.map_err.ensures.cases c.in_err-partial-in-Text.was in
    let exact = subst (λ (t : List ℕ). GivesText (λ q. q) c.from_bytes.result (read_text t)) c.deref.ensures.value
    c.from_bytes.ensures.exact in
    let fails = subst (λ (r : Result PartialPicture TextFault). GivesText (λ q. q) r (read_text bytes)) made.2 exact in
    let p = err_from_is_err_and c.from_residual-in_err-partial-in-Text.result c.from_residual-in_err-partial-in-Text.ensures.1 in
    rw (p.1, p.2, made.1) (text_refused bytes form.they_are.1 left all made.0 fails)

pub returns-in-Text-clause-known_count : goal.returns-in-Text-clause-known_count
returns-in-Text-clause-known_count g c =
    let left = g.S.Source.remaining c.args.device.now in
    subst (λ (x : Given). IfSome left (CountsWithin x)) (sym c.of_text.ensures) (none_counted left c.in_ok-partial-in-Text.partial)

pub returns-clause-known_count : goal.returns-clause-known_count
returns-clause-known_count g c =
    subst (λ (f : InputForm). IfSome (g.S.Source.remaining c.args.device.now) (IsCountedIn f)) c.in-Copy.is c.in_ok-form.ensures.known_count
