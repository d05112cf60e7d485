use Rattle.std.proofs.Common.{◌∙◌, ap, sym, take}
use Rattle.jls_station.specs.declared.copy.CopyFile.{CopyFile}
use Rattle.jls_bad.specs.Copies as bad
use Rattle.jls_station.specs.CopyFiles.{copies_of}
use Rattle.jls_splice_run.specs.BadLists as spec
use Rattle.jls_splice_run.specs.BadLists.{places_held}
use Rattle.jls_splice_run.specs.Copies.{bytes_read}
use Rattle.jls_splice_run.proofs.ListedCopies.{listed_push, with_places_more}
use Rattle.jls_splice_run.proofs.bad_lists.with_places.Goals as goal

pub loop-index-preserved : goal.loop-index-preserved
loop-index-preserved c =
    let i = c.loop-index.index in
    let file = c.index-read-index.result in
    let own = c.index-own-index.result in
    let before = spec.with_places (bytes_read (copies_of (take i c.args.read.now))) (places_held (take i c.args.own.now)) in
    ap bad.copies_of c.in_ok-push.ensures.items
    ∙ (listed_push c.loop-index.listed.items
    (record { bytes = c.deref.result; places = c.deref-in-loop-index.result }) before file.bytes.items
    own.items c.loop-index.invariant
    (c.deref.ensures.value ∙ ap (λ (f : CopyFile). f.bytes.items) (sym c.index-read-index.is))
    c.deref-in-loop-index.ensures.value
    ∙ sym (with_places_more c.args.read.now c.args.own.now i file own c.requires c.loop-index-test.true c.index-read-index.is
    c.index-own-index.is))
