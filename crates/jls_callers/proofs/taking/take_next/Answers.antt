use Rattle.std.proofs.Common.{List, subst, ◌⊎◌, inl, inr}
use Rattle.std.specs.Prelude.{ℕ, Option}
use Rattle.jls_io.specs.Event.{Event}
use Rattle.jls_io.proofs.Growing.{grew_as}
use Rattle.jls_partial.specs.Partial.{PartialPicture}
use Rattle.jls_station.specs.Given.{CopyReport}
use Rattle.jls_station.specs.TakingCopies.{CopyGives, RefusesCopy, gives_none, other_shape, no_memory}
use Rattle.jls_station.specs.declared.take_copy.TakeFault.{TakeFault}
use Rattle.jls_headline.specs.Collected.{Knowledge, Collected, copy_taken, copy_refused, copy_ran_out}
use Rattle.jls_headline.specs.Sources.{SourcedCopy}
use Rattle.jls_callers.proofs.Answered.{ok_then, fault_then}
use Rattle.jls_callers.proofs.taking.take_next.Goals as goal

-- where memory ran out, the station holds what it held, or all of the copy was read
early : (known : Knowledge) (source : Option ℕ) (old new : PartialPicture) (f : TakeFault) (reads : List Event) (copies over : List SourcedCopy)
    → Collected known old copies over → RefusesCopy source old new f reads → Collected known new copies over
    ⊎ ((p : PartialPicture) × (report : CopyReport) × CopyGives source p report reads)
early known source old new f reads copies over collected (gives_none _ _ _ _ stops) = inl collected
early known source old new f reads copies over collected (other_shape _ _ _ _ _ gives differs) = inl collected
early known source old new f reads copies over collected (no_memory _ _ _ p report _ gives one between) = inr (p, report, gives)

pub returns-clause-ran_out_early : goal.returns-clause-ran_out_early
returns-clause-ran_out_early g c = λ known copies over collected.
    fault_then c.take_copy.result _ _ c.take_copy.ensures.refused
    (λ f t e. grew_as _ _ _ _ (λ reads h. early known c.args.source c.args.station.now c.take_copy.new.self f reads copies over collected h) t)

pub returns-clause-taken : goal.returns-clause-taken
returns-clause-taken g c = λ known copies over collected.
    ok_then c.take_copy.result _ _ c.take_copy.ensures.taken
    (λ report. grew_as _ _ _ _
    (λ reads h. copy_taken c.args.source c.args.station.now c.take_copy.new.self report reads copies over collected h))

pub returns-clause-refused : goal.returns-clause-refused
returns-clause-refused g c = λ known copies over collected.
    fault_then c.take_copy.result _ _ c.take_copy.ensures.refused
    (λ f t other. copy_refused c.args.source c.args.station.now c.take_copy.new.self f t.events copies over collected t.they_are other)

pub returns-clause-ran_out : goal.returns-clause-ran_out
returns-clause-ran_out g c = λ known copies over collected.
    fault_then c.take_copy.result _ _ c.take_copy.ensures.refused
    (λ f t e. grew_as _ _ _ _ (λ reads h. copy_ran_out c.args.source c.args.station.now c.take_copy.new.self reads copies over collected
    (subst (λ (x : TakeFault). RefusesCopy c.args.source c.args.station.now c.take_copy.new.self x reads) e h)) t)
