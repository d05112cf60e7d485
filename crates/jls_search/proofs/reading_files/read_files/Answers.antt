use Rattle.std.proofs.lemmas.Result.{IfOk-weaker}
use Rattle.jls_diff.specs.PartsOf.{bytes_of}
use Rattle.jls_search.specs.Files.{files_taken, splices_found}
use Rattle.jls_search.specs.Reading.{AreRead, ReadsMore}
use Rattle.jls_search.proofs.reading_files.read_files.Goals as goal

pub returns : goal.returns
returns c =
    let files = c.args.files.now in
    let copies = c.in_ok-copies in
    IfOk-weaker c.read_splices.result (ReadsMore c.args.source (splices_found files) copies.copies)
    (AreRead c.args.source (files_taken files))
    (λ read more. more (bytes_of files.copies.now) copies.ensures) c.read_splices.ensures
