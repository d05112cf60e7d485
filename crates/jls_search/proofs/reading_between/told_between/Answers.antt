use Rattle.std.proofs.Common.{◌≡◌, length, ap, subst, sym, arith, rules}
use Rattle.std.specs.Prelude.{IsTrue}
use Rattle.std.specs.List.{Contains}
use Rattle.jls_copy.specs.ReadCopy.{ReadCopy}
use Rattle.jls_marker.specs.declared.profile.Profile.TheVariants.{Wide}
use Rattle.jls_search.specs.ReadsBetween.{Reaches}
use Rattle.jls_search.proofs.Records.{NoneBetween, does_reach, many_faults, no_record, read_between}
use Rattle.jls_search.proofs.reading_between.told_between.Goals as goal

pub returns-clause-reads : goal.returns-clause-reads
returns-clause-reads c = λ yes file reads.
    let read : ReadCopy = c.args.read.now in
    let reported : IsTrue c.reaches.result = search rules in
    let pieces = ap length c.pieces-records.ensures in
    let count : read.piece_count ≡ length read.pieces = omega (arith, pieces, c.piece_count.ensures, c.if-piece_count-records.false) in
    read_between (c.records_are_of_faulty_pieces_under.ensures Wide) c.args.from c.args.to file read reads count
    (subst (NoneBetween c.args.from c.args.to) c.pieces-records.ensures (c.has_record_between.ensures.none c.if-has_record_between.false))
    (subst (Reaches c.args.from c.args.to) c.ended.ensures (c.reaches.ensures.0 reported))

pub returns-clause-unread : goal.returns-clause-unread
returns-clause-unread c = λ no file reads low between.
    let read : ReadCopy = c.args.read.now in
    let reported : IsTrue c.reaches.result → ⊥ = search rules in
    reported (c.reaches.ensures.1 (subst (Reaches c.args.from c.args.to) (sym c.ended.ensures)
    (does_reach (c.records_are_of_faulty_pieces_under.ensures Wide) c.args.from c.args.to file read reads low between)))

pub returns-then-has_record_between-clause-unread : goal.returns-then-has_record_between-clause-unread
returns-then-has_record_between-clause-unread c = λ _ file reads low between.
    let read : ReadCopy = c.args.read.now in
    let some = c.has_record_between.ensures.some c.if-has_record_between.true in
    no_record (c.records_are_of_faulty_pieces_under.ensures Wide) c.args.from c.args.to file read reads low between some.0
    (subst (λ rs. Contains rs some.0) c.pieces-records.ensures some.1) some.2

pub returns-then-piece_count-records-clause-many : goal.returns-then-piece_count-records-clause-many
returns-then-piece_count-records-clause-many c = λ _ file reads.
    let read : ReadCopy = c.args.read.now in
    let pieces = ap length c.pieces-records.ensures in
    many_faults (c.records_are_of_faulty_pieces_under.ensures Wide) file read reads
    (λ e. let f = c.if-piece_count-records.true in omega (arith, pieces, c.piece_count.ensures, f, e))
