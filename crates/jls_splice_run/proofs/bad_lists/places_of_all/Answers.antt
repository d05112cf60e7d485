use Rattle.std.proofs.Common.{◌+◌, List, Vec, Global, inl, inr, subst, sym, take, ⊎_elim}
use Rattle.std.specs.List.{AllZip}
use Rattle.jls_bad.specs.declared.place.Place.{Place}
use Rattle.jls_station.specs.CopyFiles.{copies_of, copy_of}
use Rattle.jls_splice_run.specs.BadLists.{IsList, IsListRefused, places_held}
use Rattle.jls_splice_run.proofs.ListedCopies.{lists_more, refused_for_list, stopped_at}
use Rattle.jls_splice_run.proofs.bad_lists.places_of_all.Goals as goal

pub returns-in-Err-clause-stopped : goal.returns-in-Err-clause-stopped
returns-in-Err-clause-stopped c =
    let file = c.index-files-index.result in
    let told = c.refusal_at.ensures in
    ⊎_elim (λ m. inl (told.memory m))
    (λ r. inr (stopped_at _ c.args.names.now c.args.files.now c.loop-index.index file
    (places_held c.loop-index.all.items) c.refusal_at.result
    c.requires c.loop-index-test.true c.index-files-index.is c.loop-index.invariant
    (subst (IsListRefused (copy_of file)) (sym told.cause) r) (told.name (refused_for_list (copy_of file) c.in-Err.cause r))))
    c.in-Err.ensures.refused

pub loop-index-preserved : goal.loop-index-preserved
loop-index-preserved c =
    let i = c.loop-index.index in
    subst (λ (all : List (Vec Place Global)). AllZip IsList (copies_of (take (i + 1) c.args.files.now)) (places_held all))
    (sym c.in-Ok-push.ensures.items)
    (lists_more c.args.files.now i c.index-files-index.result c.loop-index.all.items c.in-Ok.places c.loop-index-test.true
    c.index-files-index.is c.in-Ok.ensures.named c.loop-index.invariant)
