use Rattle.std.proofs.Common.{sym, subst}
use Rattle.jls_diff.specs.PartsOf.{bytes_of}
use Rattle.jls_search.specs.Files.{AreVerdicts, splices_found}
use Rattle.jls_search.proofs.Verdicts.{after_copies, enough, of_copies}
use Rattle.jls_splice_run.proofs.listing.name_files.Goals as goal

pub split_at-requires : goal.split_at-requires
split_at-requires c =
    let files = c.args.files.now in enough (splices_found files) files.copies.now c.args.verdicts.now c.requires.verdicts

pub name_copies-requires : goal.name_copies-requires
name_copies-requires c =
    let files = c.args.files.now in
    subst (AreVerdicts (bytes_of files.copies.now)) (sym c.split_at.ensures.front)
    (of_copies (splices_found files) files.copies.now c.args.verdicts.now c.requires.verdicts)

pub name_splices-requires-clause-verdicts : goal.name_splices-requires-clause-verdicts
name_splices-requires-clause-verdicts c =
    let files = c.args.files.now in
    subst (AreVerdicts (splices_found files)) (sym c.split_at.ensures.back)
    (after_copies (splices_found files) files.copies.now c.args.verdicts.now c.requires.verdicts)
