use Rattle.std.proofs.Common.{◌≡◌, subst}
use Rattle.std.specs.Prelude.{OnOk, IfOk, IfErr}
use Rattle.jls_partial.specs.Partial.{PartialPicture}
use Rattle.jls_partial.specs.Status.{IsSettled}
use Rattle.jls_write.specs.Picture.{picture_of}
use Rattle.jls_write.specs.Unsettled.{NamesFirstUnsettled}
use Rattle.jls_callers.proofs.writing.station_picture.Goals as goal

pub returns-clause-damaged : goal.returns-clause-damaged
returns-clause-damaged c = λ pic copies is collected damaged each.
    (c.same_copies_give_the_picture.ensures.damaged pic is c.args.station.now copies collected damaged each).picture c.of.result
    (subst (λ (p : PartialPicture). IfOk c.of.result (λ answer. answer ≡ picture_of p)) c.partial-held.ensures c.of.ensures.picture)
    (subst (λ (p : PartialPicture). IfErr c.of.result (λ fault. NamesFirstUnsettled p fault)) c.partial-held.ensures c.of.ensures.unsettled)

pub returns-clause-settled : goal.returns-clause-settled
returns-clause-settled c = subst (λ (p : PartialPicture). OnOk c.of.result (IsSettled p)) c.partial-held.ensures c.of.ensures.settled

pub returns-clause-picture : goal.returns-clause-picture
returns-clause-picture c =
    subst (λ (p : PartialPicture). IfOk c.of.result (λ answer. answer ≡ picture_of p)) c.partial-held.ensures c.of.ensures.picture

pub returns-clause-unsettled : goal.returns-clause-unsettled
returns-clause-unsettled c =
    subst (λ (p : PartialPicture). IfErr c.of.result (λ fault. NamesFirstUnsettled p fault)) c.partial-held.ensures c.of.ensures.unsettled
