use Rattle.std.proofs.Common.{◌≡◌, ℕ, List, Option, refl, subst}
use Rattle.std.specs.Prelude.{IfSome}
use Rattle.jls_io.specs.Event.{Event}
use Rattle.jls_partial.specs.Partial.{PartialPicture}
use Rattle.jls_station.specs.KnownCopies.{TakesBytes, RefusesBytes}
use Rattle.jls_station.specs.TakingCopies.{RefusesCopy, gives_none, other_shape, no_memory}
use Rattle.jls_station.specs.declared.take_copy.TakeFault.{TakeFault}
use Rattle.jls_station.specs.declared.take_copy.TakeFault.TheVariants as take
use Rattle.jls_callers.proofs.Answered.{fault_at, fault_then, ok_then}
use Rattle.jls_callers.proofs.WholeBytes.{other_shape_read, whole_taken, whole_gives_none}
use Rattle.jls_callers.proofs.known.take_known.Goals as goal

pub returns-clause-taken : goal.returns-clause-taken
returns-clause-taken g c = λ bytes is.
    let old = c.args.station.now in
    let new = c.take_copy.new.self in
    ok_then c.take_copy.result _ _ c.take_copy.ensures.known
    (λ report h. whole_taken c.copies_have_one_course.ensures c.final_ends_stay.ensures c.args.source old new report.stop bytes
    (subst (λ (o : Option (List ℕ)). IfSome o (TakesBytes c.args.source old new report.stop)) is h))

pub returns-clause-no_picture : goal.returns-clause-no_picture
returns-clause-no_picture g c = λ bytes f offset is e.
    let h = fault_at _ _ (RefusesBytes c.args.source c.args.station.now) bytes _ is e c.take_copy.ensures.known_refused in
    whole_gives_none c.copies_have_one_course.ensures c.final_ends_stay.ensures bytes h.0 f offset h.1 h.2

pub returns-clause-not_read : goal.returns-clause-not_read
returns-clause-not_read g c = λ bytes stop count is e.
    let h = fault_at _ _ (RefusesBytes c.args.source c.args.station.now) bytes _ is e c.take_copy.ensures.known_refused in
    (h.0, h.1.following, h.1.bytes_are, h.2, h.3)

pub returns-clause-other_shape : goal.returns-clause-other_shape
returns-clause-other_shape g c = λ bytes is e.
    other_shape_read c.args.source c.args.station.now bytes
    (fault_at _ _ (RefusesBytes c.args.source c.args.station.now) bytes _ is e c.take_copy.ensures.known_refused)

pub returns-clause-some : goal.returns-clause-some
returns-clause-some g c = λ bytes is.
    ok_then c.take_copy.result _ _ c.take_copy.ensures.known
    (λ report h. subst (λ (o : Option (List ℕ)).
    IfSome o (TakesBytes c.args.source c.args.station.now c.take_copy.new.self report.stop)) is h)

-- only want of memory changes what is held
kept : (source : Option ℕ) (old new : PartialPicture) (f : TakeFault) (reads : List Event) → RefusesCopy source old new f reads
    → (f ≡ take.OutOfMemory → ⊥) → new ≡ old
kept _ _ _ _ _ (gives_none source old f reads stops) other = refl
kept _ _ _ _ _ (other_shape source old p report reads gives differs) other = refl
kept _ _ _ _ _ (no_memory source old new p report reads gives one between) other = absurd (other refl)

pub returns-clause-unchanged : goal.returns-clause-unchanged
returns-clause-unchanged g c =
    fault_then c.take_copy.result _ _ c.take_copy.ensures.refused
    (λ f t. kept c.args.source c.args.station.now c.take_copy.new.self f t.events t.they_are)
