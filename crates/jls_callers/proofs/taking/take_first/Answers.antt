use Rattle.std.proofs.Common.{[], subst}
use Rattle.std.specs.Prelude.{IfSome}
use Rattle.std.proofs.lemmas.Result.{err_from_is_err_and}
use Rattle.jls_io.proofs.Growing.{grew_as}
use Rattle.jls_partial.specs.Partial.{PartialPicture}
use Rattle.jls_station.specs.KnownCopies.{RefusesBytes}
use Rattle.jls_station.specs.TakingCopies.{RefusesCopy}
use Rattle.jls_headline.specs.Collected.{new_station, copy_taken}
use Rattle.jls_callers.proofs.taking.take_first.Goals as goal

pub returns-clause-taken : goal.returns-clause-taken
returns-clause-taken g c = λ known.
    let taken = c.in_ok-take_copy.ensures.taken in
    record {
      events = taken.events;
      grew = taken.grew;
      they_are = copy_taken c.args.source c.new-station.result c.take_copy.new.self c.in_ok-take_copy.field-0 taken.events [] []
          (new_station c.args.shape c.new-station.result c.new-station.ensures) taken.they_are;
    }

pub returns-in_err-take_copy-clause-refused : goal.returns-in_err-take_copy-clause-refused
returns-in_err-take_copy-clause-refused g c =
    let p = err_from_is_err_and c.from_residual.result c.from_residual.ensures.1 in
    let held = c.take_copy.new.self in
    let fault = c.in_err-take_copy.field-0.0 in
    rw (p.1, p.2) (grew_as (λ reads. RefusesCopy c.args.source c.new-station.result held fault reads) _ _ _
    (λ reads h. (held, subst (λ (empty : PartialPicture). RefusesCopy c.args.source empty held fault reads) c.new-station.ensures h))
    c.in_err-take_copy.ensures.refused)

pub returns-in_err-take_copy-clause-known_refused : goal.returns-in_err-take_copy-clause-known_refused
returns-in_err-take_copy-clause-known_refused g c =
    let p = err_from_is_err_and c.from_residual.result c.from_residual.ensures.1 in
    rw (p.1, p.2) (subst (λ (empty : PartialPicture). IfSome (g.S.Source.remaining c.args.first.now)
    (λ bytes. RefusesBytes c.args.source empty bytes c.in_err-take_copy.field-0.0)) c.new-station.ensures
    c.in_err-take_copy.ensures.known_refused)
