use Rattle.std.proofs.Common.{◌≤◌, ℕ, List, Option, length, subst, arith}
use Rattle.std.specs.Prelude.{IfSome}
use Rattle.std.proofs.lemmas.Result.{IfErr-at_err}
use Rattle.jls_io.specs.Event.{GrewBy}
use Rattle.jls_io.proofs.Growing.{grew_as}
use Rattle.jls_station.specs.Given.{CopyReport}
use Rattle.jls_station.specs.KnownCopies.{TakesBytes, RefusesBytes}
use Rattle.jls_station.specs.TakingCopies.{TakesCopy}
use Rattle.jls_station.specs.declared.take_copy.TakeFault.TheVariants as TakeFault
use Rattle.jls_callers.proofs.Answered.{fault_at, ok_then, ok_with}
use Rattle.jls_callers.proofs.Stops.{not_failed, whole_if_few, only_turns, taken_shows, refusal_shows}
use Rattle.jls_callers.proofs.WholeBytes.{other_shape_read, whole_taken, whole_gives_none}
use Rattle.jls_callers.proofs.unfailed.take_unfailed.Goals as goal

pub returns-clause-stops : goal.returns-clause-stops
returns-clause-stops g c =
    ok_then _ _ _ c.take_copy.ensures.taken
    (λ report. grew_as _ _ _ _
    (λ reads t. not_failed report.stop report.found.count reads (taken_shows c.args.source t.given report reads t.gives)))

pub returns-clause-whole : goal.returns-clause-whole
returns-clause-whole g c = λ bytes is below.
    let old = c.args.station.now in
    let new = c.take_copy.new.self in
    let source = c.args.source in
    let left = g.S.Source.remaining c.args.device.now in
    let known = ok_with c.take_copy.result (λ (report : CopyReport). IfSome left (TakesBytes source old new report.stop))
    (λ (report : CopyReport). IfSome left (λ b. report.found.count ≤ length b))
    (λ (report : CopyReport). TakesBytes source old new report.stop bytes × (report.found.count ≤ length bytes))
    c.take_copy.ensures.known c.take_copy.ensures.known_count
    (λ report k n. (
      subst (λ (o : Option (List ℕ)). IfSome o (TakesBytes source old new report.stop)) is k,
      subst (λ (o : Option (List ℕ)). IfSome o (λ b. report.found.count ≤ length b)) is n,
    )) in
    ok_with c.take_copy.result
    (λ (report : CopyReport). GrewBy (TakesCopy source old new report) (g.S.Device.history c.args.device.now)
    (g.S.Device.history c.take_copy.new.device))
    (λ (report : CopyReport). TakesBytes source old new report.stop bytes × (report.found.count ≤ length bytes)) _
    c.take_copy.ensures.taken known
    (λ report t k. grew_as _ _ _ _ (λ reads h none.
    let counted = k.1 in
    let whole = whole_if_few report.stop report.found.count reads
    (not_failed report.stop report.found.count reads (taken_shows source h.given report reads h.gives) none)
    (λ many. absurd (omega (arith, below, counted, many))) in
    let w = whole_taken c.copies_have_one_course.ensures c.final_ends_stay.ensures source old new report.stop bytes k.0 whole in
    (whole, w.0, w.1, w.2, w.3)) t)

pub returns-clause-not_read : goal.returns-clause-not_read
returns-clause-not_read g c = λ bytes stop count is e.
    let h = fault_at _ _ (RefusesBytes c.args.source c.args.station.now) bytes _ is e c.take_copy.ensures.known_refused in
    grew_as _ _ _ _ (λ reads r none. only_turns stop count reads bytes h.0 h.1.following
    (refusal_shows c.args.source c.args.station.now c.take_copy.new.self (TakeFault.Read stop count) reads r) none
    h.3 h.2 h.1.bytes_are) (IfErr-at_err _ e c.take_copy.ensures.refused)

pub returns-clause-no_picture : goal.returns-clause-no_picture
returns-clause-no_picture g c = λ bytes f offset is e.
    let h = fault_at _ _ (RefusesBytes c.args.source c.args.station.now) bytes _ is e c.take_copy.ensures.known_refused in
    whole_gives_none c.copies_have_one_course.ensures c.final_ends_stay.ensures bytes h.0 f offset h.1 h.2

pub returns-clause-other_shape : goal.returns-clause-other_shape
returns-clause-other_shape g c = λ bytes is e.
    other_shape_read c.args.source c.args.station.now bytes
    (fault_at _ _ (RefusesBytes c.args.source c.args.station.now) bytes _ is e c.take_copy.ensures.known_refused)
