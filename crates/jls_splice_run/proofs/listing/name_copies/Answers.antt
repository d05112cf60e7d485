use Rattle.std.proofs.Common.{List, [], sym, subst, arith}
use Rattle.jls_search.proofs.Verdicts.{on_copy, one_a_copy}
use Rattle.jls_splice_run.specs.Listing.{AreNamed, named_files, none_named}
use Rattle.jls_splice_run.specs.declared.listing.NumberedFile.{NumberedFile}
use Rattle.jls_splice_run.proofs.listing.name_copies.Goals as goal

pub bounds-verdicts-place : goal.bounds-verdicts-place
bounds-verdicts-place c =
    let count = one_a_copy c.args.copies.now c.args.verdicts.now c.requires in omega (arith, count, c.loop-place-test.true)

pub name_file-requires : goal.name_file-requires
name_file-requires c = on_copy c.args.copies.now c.args.verdicts.now c.loop-place.place _ _ c.requires c.loop-place-test.true

pub loop-place-init : goal.loop-place-init
loop-place-init c =
    subst (λ (xs : List NumberedFile). AreNamed c.args.naming.most c.args.naming.prefix.now [] (named_files xs))
    (sym c.new-named.ensures.items) none_named
