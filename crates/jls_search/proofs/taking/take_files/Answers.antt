use Rattle.std.proofs.Common.{subst}
use Rattle.jls_partial.specs.Partial.{PartialPicture, nothing_known}
use Rattle.jls_diff.specs.PartsOf.{bytes_of}
use Rattle.jls_search.specs.Files.{files_taken, splices_found}
use Rattle.jls_search.specs.Stations.{TakesFiles}
use Rattle.jls_search.proofs.TakenFiles.{takes_more, shape_kept}
use Rattle.jls_search.proofs.taking.take_files.Goals as goal

pub returns-clause-readings : goal.returns-clause-readings
returns-clause-readings c =
    let copies = bytes_of c.args.files.now.copies.now in
    takes_more c.args.source copies (splices_found c.args.files.now) (nothing_known c.args.shape) c.take_copies.new.station
    c.take_splices.new.station
    (subst (λ (p : PartialPicture). TakesFiles c.args.source copies p c.take_copies.new.station) c.new-station.ensures
    c.in_ok-take_copies.ensures) c.in_ok-take_splices.ensures

pub returns-clause-shape : goal.returns-clause-shape
returns-clause-shape c =
    shape_kept c.args.source (files_taken c.args.files.now) (nothing_known c.args.shape) c.take_splices.new.station
    (returns-clause-readings c)
