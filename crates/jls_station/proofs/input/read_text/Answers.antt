use Rattle.std.proofs.Common.{rules, ◌≡◌, ◌∙◌, ◌++◌, ℕ, List, [], ap, sym, subst, arith, length}
use Rattle.std.proofs.lemmas.Result.{err_from_is_err_and}
use Rattle.std.specs.Prelude.{IfSome}
use Rattle.jls_io.specs.Event.{GrewBy}
use Rattle.jls_station.specs.Inputs.{IsEnough, text_not_read, ReadsRefuse}
use Rattle.jls_station.specs.KnownInputs.{RefusesInput}
use Rattle.jls_station.specs.Reading.{IsRead}
use Rattle.jls_station.specs.declared.input.ReadStop.{ReadStop}
use Rattle.jls_station.specs.declared.input.InputFault.TheVariants as fault
use Rattle.jls_station.proofs.KnownInputs.{input_ran_out, text_unread}
use Rattle.jls_station.proofs.OneInput.{out_of_memory_in_part, read_in_part, refused_for, known_all}
use Rattle.jls_station.proofs.input.read_text.Goals as goal

-- the room was cleared, and holds what the first read gave
first_held : {first cleared items : List ℕ} → cleared ≡ [] → items ≡ cleared ++ first → first ≡ items
first_held {first} none is = sym (is ∙ ap (λ (t : List ℕ). t ++ first) none)

-- there is no memory for the bytes of the first read
pub returns-in_err-extend_from_slice-clause-refused : goal.returns-in_err-extend_from_slice-clause-refused
returns-in_err-extend_from_slice-clause-refused g c before h =
    let now = g.S.Device.history c.args.device.now in
    let p = err_from_is_err_and c.from_residual.result c.from_residual.ensures.1 in
    rw (p.1, p.2) (out_of_memory_in_part before now (read_in_part IsEnough 1 before now now c.args.first.now h (omega arith)))

-- there is no memory for the text
pub returns-in_err-stop-clause-refused : goal.returns-in_err-stop-clause-refused
returns-in_err-stop-clause-refused g c before h =
    let history = g.S.Device.history in
    let p = err_from_is_err_and c.from_residual-in_err-stop.result c.from_residual-in_err-stop.ensures.1 in
    rw (p.1, p.2) (out_of_memory_in_part before (history c.read_text_on.new.device)
    (c.in_err-stop.ensures.refused before (rw (first_held c.clear.ensures.items c.in_ok-extend_from_slice.ensures.items) at h)))

-- the device stopped before the text's end
pub returns-in_default-clause-refused : goal.returns-in_default-clause-refused
returns-in_default-clause-refused g c before h =
    let history = g.S.Device.history in
    let bytes = c.read_text_on.new.bytes.items in
    let stop = c.in_ok-stop.stop in
    let count : c.len.result ≡ length bytes = search rules in
    subst (λ (n : ℕ). GrewBy (ReadsRefuse (fault.Read stop n)) before (history c.read_text_on.new.device)) (sym count)
    (refused_for before (history c.read_text_on.new.device) bytes stop
    (c.in_ok-stop.ensures.read before (rw (first_held c.clear.ensures.items c.in_ok-extend_from_slice.ensures.items) at h))
    (fault.Read stop (length bytes)) (text_not_read bytes stop c.in_ok-stop.ensures.text c.in_default.not-Whole))

-- the text is read to its end
pub returns-in-Whole-clause-read : goal.returns-in-Whole-clause-read
returns-in-Whole-clause-read g c before h =
    let history = g.S.Device.history in
    let bytes = c.read_text_on.new.bytes.items in
    subst (λ (stop : ReadStop). GrewBy (λ reads. IsRead IsEnough reads bytes stop) before (history c.read_text_on.new.device)) c.in-Whole.is
    (c.in_ok-stop.ensures.read before (rw (first_held c.clear.ensures.items c.in_ok-extend_from_slice.ensures.items) at h))

-- the text is all of the known bytes
pub returns-in-Whole-clause-known : goal.returns-in-Whole-clause-known
returns-in-Whole-clause-known g c before h =
    let remaining = g.S.Source.remaining in
    known_all before (remaining c.read_text_on.new.device) c.read_text_on.new.bytes.items
    (c.in_ok-stop.ensures.known before (rw (first_held c.clear.ensures.items c.in_ok-extend_from_slice.ensures.items) at h))
    (c.in_ok-stop.ensures.end c.in-Whole.is)

-- there is no memory for the first of the known bytes
pub returns-in_err-extend_from_slice-clause-known_refused : goal.returns-in_err-extend_from_slice-clause-known_refused
returns-in_err-extend_from_slice-clause-known_refused g c before h =
    let p = err_from_is_err_and c.from_residual.result c.from_residual.ensures.1 in
    rw (p.1, p.2) (input_ran_out before)

-- there is no memory for the known bytes
pub returns-in_err-stop-clause-known_refused : goal.returns-in_err-stop-clause-known_refused
returns-in_err-stop-clause-known_refused g c before h =
    let p = err_from_is_err_and c.from_residual-in_err-stop.result c.from_residual-in_err-stop.ensures.1 in
    rw (p.1, p.2) (input_ran_out before)

-- the device stopped before the end of the known bytes
pub returns-in_default-clause-known_refused : goal.returns-in_default-clause-known_refused
returns-in_default-clause-known_refused g c before h =
    let bytes = c.read_text_on.new.bytes.items in
    let stop = c.in_ok-stop.stop in
    let count : c.len.result ≡ length bytes = search rules in
    subst (λ (n : ℕ). IfSome before (λ t. RefusesInput t (fault.Read stop n))) (sym count)
    (text_unread before (g.S.Source.remaining c.read_text_on.new.device) bytes stop c.in_default.not-Whole
    (c.in_ok-stop.ensures.known before (rw (first_held c.clear.ensures.items c.in_ok-extend_from_slice.ensures.items) at h)))
