use Rattle.std.proofs.Common.{◌∙◌, ap, length, map}
use Rattle.std.proofs.lemmas.Result.{IfOk-weaker}
use Rattle.jls_bad.specs.Copies as bad
use Rattle.jls_cli.specs.BadValues.{list_of}
use Rattle.jls_station.specs.CopyFiles.{copies_of}
use Rattle.jls_splice_run.specs.BadLists.{places_held}
use Rattle.jls_splice_run.specs.Copies.{bytes_read}
use Rattle.jls_splice_run.proofs.ListedCopies.{known_as, known_count, own_count}
use Rattle.jls_splice_run.proofs.bad_lists.known_files.Goals as goal

pub with_places-requires : goal.with_places-requires
with_places-requires c =
    ap length c.deref.ensures.value
    ∙ own_count (map list_of c.args.lists.now) (places_held c.args.places.now)
    (length c.args.read.now) c.in_ok-own.own.items c.in_ok-own.ensures

pub with_stops-requires : goal.with_stops-requires
with_stops-requires c =
    let many = ap length c.deref.ensures.value
    ∙ own_count (map list_of c.args.lists.now) (places_held c.args.places.now) (length c.args.read.now) c.in_ok-own.own.items
    c.in_ok-own.ensures in
    known_count c.known_copies_are_whole.ensures.count c.args.read.now c.deref.result.now (bad.copies_of c.deref-2.result.now)
    c.in_ok-known.known.items many (ap bad.copies_of c.deref-2.ensures.value ∙ c.in_ok-listed.ensures) c.in_ok-known.ensures

pub returns-clause-known : goal.returns-clause-known
returns-clause-known c =
    IfOk-weaker c.with_stops.result _ _
    (λ files h. known_as (map list_of c.args.lists.now) (places_held c.args.places.now) c.args.read.now (places_held c.deref.result.now)
    (bad.copies_of c.deref-2.result.now) (bad.bytes_in c.in_ok-known.known.items) (bytes_read (copies_of files.items))
    (ap places_held c.deref.ensures.value ∙ c.in_ok-own.ensures) (ap bad.copies_of c.deref-2.ensures.value ∙ c.in_ok-listed.ensures)
    c.in_ok-known.ensures h)
    c.with_stops.ensures.bytes
