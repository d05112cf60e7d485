use Rattle.jls_partial.specs.TextMerging.{MergesText}
use Rattle.jls_callers.proofs.Answered.{ok_both}
use Rattle.jls_callers.proofs.known.take_any_text.Goals as goal

pub returns-clause-taken : goal.returns-clause-taken
returns-clause-taken c =
    let old = c.args.station.now in
    let new = c.take_text.new.self in
    let bytes = c.args.bytes.now in
    ok_both c.take_text.result (MergesText old bytes new) (MergesText old bytes new) _ c.take_text.ensures.ok c.take_text.ensures.ok
    (λ t again. (t.said, t.is_text, t.union_is))
