use Rattle.std.proofs.Common.{subst, rules, ◌≡◌}
use Rattle.jls_values.specs.Shape.{PictureShape}
use Rattle.jls_partial.specs.Partial.{nothing_known}
use Rattle.jls_search.specs.Files.{files_taken}
use Rattle.jls_search.specs.Reading.{HasTakenFiles}
use Rattle.jls_search.specs.Stations.{TakesFiles}
use Rattle.jls_search.proofs.settling.station_of.Goals as goal

pub returns-then-eq-clause-readings : goal.returns-then-eq-clause-readings
returns-then-eq-clause-readings c =
    let station = c.in-Some.station in
    let files = files_taken c.args.files.now in
    let same : station.shape ≡ c.args.shape = search rules in
    subst (λ (shape : PictureShape). TakesFiles c.args.source files (nothing_known shape) station) same
    (subst (HasTakenFiles c.args.source files) c.in-Some.is c.requires.taken)
