use Rattle.std.proofs.Common.{true, Some}
use Rattle.std.proofs.lemmas.Result.{on_ok_weaker}
use Rattle.jls_host.specs.Disk.{Went}
use Rattle.jls_host.specs.Moments.{Shows, IsGoingOn, IsWhole, IsReady}
use Rattle.jls_host.specs.Recorded.{calls_of, number_of}
use Rattle.jls_host.proofs.Runs.{at_both}
use Rattle.jls_host.proofs.ending.end_beside.Goals as goal

pub returns-clause-whole : goal.returns-clause-whole
returns-clause-whole g c = λ no x bytes p. at_both (λ n o. Went (IsReady n o (number_of c.args.held.now) x bytes p) (IsWhole n x bytes p)
    (IsWhole n x bytes p) (calls_of c.args.machine.now) (calls_of c.end_named.new.machine)) _ _ _ _ c.as_str-name.ensures.value
    c.as_str-own.ensures.value (c.end_named.ensures.whole x bytes p)

pub returns-clause-kept : goal.returns-clause-kept
returns-clause-kept g c = λ is. on_ok_weaker c.end_named.result (λ w no x bytes p. at_both
    (λ n o. Went (IsReady n o (number_of c.args.held.now) x bytes p) (IsWhole n x bytes p) (Shows n (Some (bytes, true)))
    (calls_of c.args.machine.now) (calls_of c.end_named.new.machine)) _ _ _ _ c.as_str-name.ensures.value c.as_str-own.ensures.value
    (w x bytes p)) (c.end_named.ensures.kept is)

pub returns-clause-dropped : goal.returns-clause-dropped
returns-clause-dropped g c = λ is no x. at_both (λ n o. Went (IsGoingOn n o (number_of c.args.held.now) x) (Shows n x) (Shows n x)
    (calls_of c.args.machine.now) (calls_of c.end_named.new.machine)) _ _ _ _ c.as_str-name.ensures.value c.as_str-own.ensures.value
    (c.end_named.ensures.dropped is x)
