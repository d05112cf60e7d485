use Rattle.std.proofs.Common.{sym, subst, ◌∷◌, []}
use Rattle.jls_search.specs.Choices.{IsPath, prefix_of}
use Rattle.jls_search.specs.Stations.{TakesFiles}
use Rattle.jls_search.proofs.Members.{whole_at}
use Rattle.jls_search.proofs.TakenFiles.{takes_none, splices_taken}
use Rattle.jls_search.proofs.taking.take_splices.Goals as goal

pub loop-choices-init : goal.loop-choices-init
loop-choices-init c = takes_none c.args.source c.args.station.now

pub take_splice-requires-clause-path : goal.take_splice-requires-clause-path
take_splice-requires-clause-path c =
    let v = c.choices-item.result in
    let w = whole_at c.args.parts.now c.args.splices.now c.loop-choices.choices-index v v c.requires.whole
    c.loop-choices-test.true c.choices-item.is in
    subst (IsPath c.args.parts.now) (sym c.deref.ensures.value) w.0

pub take_splice-requires-clause-few : goal.take_splice-requires-clause-few
take_splice-requires-clause-few c = c.requires.short c.deref.result.now (take_splice-requires-clause-path c)

pub loop-choices-preserved : goal.loop-choices-preserved
loop-choices-preserved c =
    splices_taken c.args.source c.args.station.now c.loop-choices.station c.take_splice.new.station c.args.parts.now
    c.args.splices.now c.loop-choices.choices-index c.choices-item.result c.loop-choices-test.true c.choices-item.is
    c.loop-choices.invariant
    (subst (λ choices. TakesFiles c.args.source (prefix_of c.args.parts.now choices ∷ []) c.loop-choices.station
    c.take_splice.new.station) c.deref.ensures.value c.in_ok-take_splice.ensures)
