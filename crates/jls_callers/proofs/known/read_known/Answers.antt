use Rattle.std.proofs.Common.{List, ℕ, Option, subst}
use Rattle.std.specs.Prelude.{IfSome}
use Rattle.jls_partial.specs.Text.{IsTextOf}
use Rattle.jls_station.specs.KnownCopies.{BytesGive}
use Rattle.jls_station.specs.KnownInputs.{RefusesInput}
use Rattle.jls_callers.proofs.Answered.{fault_at, ok_then}
use Rattle.jls_callers.proofs.WholeBytes.{whole_given, whole_gives_none}
use Rattle.jls_callers.proofs.known.read_known.Goals as goal

pub returns-clause-text : goal.returns-clause-text
returns-clause-text g c = λ bytes is.
    ok_then c.read_input.result _ _ c.read_input.ensures.known
    (λ given h none. subst (λ (o : Option (List ℕ)). IfSome o (λ b. IsTextOf b given.partial)) is (h none))

pub returns-clause-copy : goal.returns-clause-copy
returns-clause-copy g c = λ bytes is.
    ok_then c.read_input.result _ _ c.read_input.ensures.known_copy
    (λ given h copied. whole_given c.copies_have_one_course.ensures c.final_ends_stay.ensures c.args.source given.partial given.stop bytes
    (subst (λ (o : Option (List ℕ)). IfSome o (BytesGive c.args.source given.partial given.stop)) is (h copied)))

pub returns-clause-some : goal.returns-clause-some
returns-clause-some g c = λ bytes is.
    ok_then c.read_input.result _ _ c.read_input.ensures.known_copy
    (λ given h copied. subst (λ (o : Option (List ℕ)). IfSome o (BytesGive c.args.source given.partial given.stop)) is (h copied))

pub returns-clause-bad_text : goal.returns-clause-bad_text
returns-clause-bad_text g c = λ bytes f is e. fault_at _ _ RefusesInput bytes _ is e c.read_input.ensures.known_refused

pub returns-clause-no_picture : goal.returns-clause-no_picture
returns-clause-no_picture g c = λ bytes f offset is e.
    let h = fault_at _ _ RefusesInput bytes _ is e c.read_input.ensures.known_refused in
    (h.0, whole_gives_none c.copies_have_one_course.ensures c.final_ends_stay.ensures bytes h.1 f offset h.2 h.3)

pub returns-clause-not_read : goal.returns-clause-not_read
returns-clause-not_read g c = λ bytes stop count is e.
    let h = fault_at _ _ RefusesInput bytes _ is e c.read_input.ensures.known_refused in
    (h.0, h.1.following, h.1.bytes_are, h.2, h.3)
