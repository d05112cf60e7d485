use Rattle.std.proofs.Common.{◌≡◌, None, ℕ, List, Option, length, subst}
use Rattle.std.specs.Prelude.{IfSome}
use Rattle.std.proofs.lemmas.Result.{IfErr-at_err}
use Rattle.jls_io.specs.Event.{GrewBy}
use Rattle.jls_io.proofs.Growing.{grew_as}
use Rattle.jls_station.specs.Given.{Given}
use Rattle.jls_station.specs.Inputs.{IsEnough, ReadsGive}
use Rattle.jls_station.specs.KnownCopies.{BytesGive}
use Rattle.jls_station.specs.KnownInputs.{CountsWithin, RefusesInput}
use Rattle.jls_station.specs.declared.input.InputFault.TheVariants as InputFault
use Rattle.jls_callers.proofs.Answered.{fault_at, ok_then, ok_with}
use Rattle.jls_callers.proofs.Stops.{shown, not_failed, all_made, input_whole_if_few, only_turns, input_shows}
use Rattle.jls_callers.proofs.WholeBytes.{whole_given, whole_gives_none}
use Rattle.jls_callers.proofs.unfailed.read_unfailed.Goals as goal

pub returns-clause-stops : goal.returns-clause-stops
returns-clause-stops g c =
    ok_then _ _ _ c.read_input.ensures.given
    (λ given. grew_as _ _ _ _ (λ reads r none. all_made given.stop (length r.bytes) reads
    (not_failed given.stop (length r.bytes) reads (shown IsEnough reads r.bytes given.stop r.is_read) none)))

pub returns-clause-whole : goal.returns-clause-whole
returns-clause-whole g c = λ bytes is below.
    let left = g.S.Source.remaining c.args.device.now in
    let source = c.args.source in
    let known = ok_with c.read_input.result
    (λ (given : Given). (given.copy ≡ None → ⊥) → IfSome left (BytesGive source given.partial given.stop))
    (λ (given : Given). IfSome left (CountsWithin given))
    (λ (given : Given). ((given.copy ≡ None → ⊥) → BytesGive source given.partial given.stop bytes) × CountsWithin given bytes)
    c.read_input.ensures.known_copy c.read_input.ensures.known_count
    (λ given b n. (
      λ copied. subst (λ (o : Option (List ℕ)). IfSome o (BytesGive source given.partial given.stop)) is (b copied),
      subst (λ (o : Option (List ℕ)). IfSome o (CountsWithin given)) is n,
    )) in
    ok_with c.read_input.result
    (λ (given : Given). GrewBy (ReadsGive source given) (g.S.Device.history c.args.device.now) (g.S.Device.history c.read_input.new.device))
    (λ (given : Given). ((given.copy ≡ None → ⊥) → BytesGive source given.partial given.stop bytes) × CountsWithin given bytes) _
    c.read_input.ensures.given known
    (λ given t k. grew_as _ _ _ _ (λ reads r none.
    let shows = shown IsEnough reads r.bytes given.stop r.is_read in
    let whole = input_whole_if_few source r.bytes bytes given reads r.gives k.1 (not_failed given.stop (length r.bytes) reads shows none)
    below in (
      whole,
      λ copied.
          whole_given c.copies_have_one_course.ensures c.final_ends_stay.ensures source given.partial given.stop bytes (k.0 copied) whole,
    )) t)

pub returns-clause-bad_text : goal.returns-clause-bad_text
returns-clause-bad_text g c = λ bytes f is e. fault_at _ _ RefusesInput bytes _ is e c.read_input.ensures.known_refused

pub returns-clause-no_picture : goal.returns-clause-no_picture
returns-clause-no_picture g c = λ bytes f offset is e.
    let h = fault_at _ _ RefusesInput bytes _ is e c.read_input.ensures.known_refused in
    (h.0, whole_gives_none c.copies_have_one_course.ensures c.final_ends_stay.ensures bytes h.1 f offset h.2 h.3)

pub returns-clause-not_read : goal.returns-clause-not_read
returns-clause-not_read g c = λ bytes stop count is e.
    let h = fault_at _ _ RefusesInput bytes _ is e c.read_input.ensures.known_refused in
    grew_as _ _ _ _ (λ reads r none. only_turns stop count reads bytes h.0 h.1.following
    (input_shows (InputFault.Read stop count) reads r) none h.3 h.2 h.1.bytes_are) (IfErr-at_err _ e c.read_input.ensures.refused)
