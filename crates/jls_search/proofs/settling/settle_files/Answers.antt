use Rattle.std.proofs.Common.{sym, subst, ap, ◌∙◌, map}
use Rattle.jls_values.specs.Shape.{PictureShape}
use Rattle.jls_partial.specs.Partial.{nothing_known}
use Rattle.jls_diff.specs.PartsOf.{bytes_of}
use Rattle.jls_search.specs.Files.{AreVerdicts, files_taken, splices_found}
use Rattle.jls_search.specs.Seen.{AreSeen, verdict_of}
use Rattle.jls_search.specs.Shapes.{IsShapeFound}
use Rattle.jls_search.specs.Stations.{TakesFiles}
use Rattle.jls_search.specs.declared.shape_found.ShapeFound.TheVariants.{Taken}
use Rattle.jls_search.proofs.Verdicts.{verdicts_seen}
use Rattle.jls_search.proofs.settling.settle_files.Goals as goal

pub find_shape-requires-clause-seen : goal.find_shape-requires-clause-seen
find_shape-requires-clause-seen c =
    subst (AreSeen (files_taken c.args.files.now)) (sym c.deref.ensures.value) c.in_ok-seen.ensures.seen

pub returns-in-Taken-clause-settled : goal.returns-in-Taken-clause-settled
returns-in-Taken-clause-settled c =
    let files = c.args.files.now in
    let station = c.in_ok-station-in-Taken.station in
    let same = sym c.in_ok-station-in-Taken.ensures.shape in (
      subst (λ (shape : PictureShape). IsShapeFound (bytes_of files.copies.now) (splices_found files) (Taken shape)) same
          c.in-Taken.ensures,
      subst (λ (shape : PictureShape). TakesFiles c.args.source (files_taken files) (nothing_known shape) station) same
          c.in_ok-station-in-Taken.ensures.readings,
    )

pub returns-in-Taken-clause-verdicts : goal.returns-in-Taken-clause-verdicts
returns-in-Taken-clause-verdicts c =
    let files = files_taken c.args.files.now in
    subst (AreVerdicts files) (sym (c.in_ok-faultless-in-Taken.ensures ∙ ap (map verdict_of) c.deref-in-Taken.ensures.value))
    (verdicts_seen files c.in_ok-seen.field-0.seen.items c.in_ok-seen.ensures.seen)
