use Rattle.std.proofs.Common.{sym, ◌∙◌, subst, rules}
use Rattle.std.specs.Prelude.{IsTrue}
use Rattle.jls_search.specs.Faultless.{EndsWell, IsEachLineRead}
use Rattle.jls_search.proofs.FaultlessFiles.{read_faultless, faultless_read}
use Rattle.jls_marker.specs.declared.profile.Profile.TheVariants.{Wide}
use Rattle.jls_search.proofs.faultless.is_read_faultless.Goals as goal

pub returns-then-piece_count-ne0-clause-faulty : goal.returns-then-piece_count-ne0-clause-faulty
returns-then-piece_count-ne0-clause-faulty c = λ _ file reads low faultless.
    let r = faultless_read (c.records_are_of_faulty_pieces_under.ensures Wide) file c.args.read.now reads low faultless in
    c.if-piece_count-ne0.true (c.piece_count.ensures ∙ r.0)

pub returns-then-not-well_ended-clause-faulty : goal.returns-then-not-well_ended-clause-faulty
returns-then-not-well_ended-clause-faulty c = λ _ file reads low faultless.
    let r = faultless_read (c.records_are_of_faulty_pieces_under.ensures Wide) file c.args.read.now reads low faultless in
    let reported : IsTrue c.ends_well-well_ended.result = c.ends_well-well_ended.ensures.1 (subst EndsWell (sym c.ended.ensures) r.1) in
    search rules

pub returns-clause-faultless : goal.returns-clause-faultless
returns-clause-faultless c = λ yes file reads.
    let well : IsTrue c.ends_well-well_ended.result = search rules in
    let each : IsTrue c.is_each_line_read.result = search rules in
    read_faultless (c.records_are_of_faulty_pieces_under.ensures Wide) file c.args.read.now reads
    (sym c.piece_count.ensures ∙ c.if-piece_count-ne0.false)
    (subst EndsWell c.ended.ensures (c.ends_well-well_ended.ensures.0 well))
    (subst IsEachLineRead c.partial.ensures (c.is_each_line_read.ensures.0 each))

pub returns-clause-ends : goal.returns-clause-ends
returns-clause-ends c = λ yes.
    let well : IsTrue c.ends_well-well_ended.result = search rules in
    subst EndsWell c.ended.ensures (c.ends_well-well_ended.ensures.0 well)

pub returns-clause-faulty : goal.returns-clause-faulty
returns-clause-faulty c = λ no file reads low faultless.
    let r = faultless_read (c.records_are_of_faulty_pieces_under.ensures Wide) file c.args.read.now reads low faultless in
    let reported : IsTrue c.is_each_line_read.result = c.is_each_line_read.ensures.1 (subst IsEachLineRead (sym c.partial.ensures) r.2) in
    search rules
