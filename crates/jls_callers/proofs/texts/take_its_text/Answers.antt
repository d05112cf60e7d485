use Rattle.std.proofs.Common.{◌++◌}
use Rattle.jls_values.specs.Join.{IsBetween}
use Rattle.jls_partial.specs.Partial.{union}
use Rattle.jls_partial.specs.TextMerging.{MergesText}
use Rattle.jls_headline.specs.Collected.{Collected, text_taken, text_ran_out}
use Rattle.jls_callers.proofs.Answered.{ok_both, err_then}
use Rattle.jls_callers.proofs.texts.take_its_text.Goals as goal

pub returns-clause-taken : goal.returns-clause-taken
returns-clause-taken c = λ known copies over more further g k.
    let old = c.args.station.now in
    let new = c.take_text.new.self in
    let bytes = c.args.bytes.now in
    ok_both c.take_text.result (MergesText old bytes new) (MergesText old bytes new) (Collected known new (copies ++ more) (over ++ further))
    c.take_text.ensures.ok c.take_text.ensures.ok
    (λ t again. text_taken old new c.args.other.now copies over more further bytes g k c.requires t)

pub returns-clause-ran_out : goal.returns-clause-ran_out
returns-clause-ran_out c = λ known copies over more further g k.
    let old = c.args.station.now in
    let new = c.take_text.new.self in
    let other = c.args.other.now in
    err_then c.take_text.result (IsBetween union old new (union old other)) (Collected known new copies (over ++ (more ++ further)))
    (c.take_text.ensures.between other c.requires)
    (λ between. text_ran_out old new other copies over more further c.args.bytes.now g k c.requires between)

pub returns-clause-between : goal.returns-clause-between
returns-clause-between c = c.take_text.ensures.between c.args.other.now c.requires
