use Rattle.jls_host.specs.Disk.{removes}
use Rattle.jls_host.specs.Recorded.{calls_of, number_of}
use Rattle.jls_host.proofs.Runs.{and_then, with_less, either}
use Rattle.jls_host.proofs.Takes.{whole_old}
use Rattle.jls_host.proofs.Steps.{left_removed, going_removed}
use Rattle.jls_host.proofs.ending.end_named.Goals as goal

pub returns-in-Drop-clause-dropped : goal.returns-in-Drop-clause-dropped
returns-in-Drop-clause-dropped g c = λ is x.
    let last = either c.remove.result (removes c.args.own.now) (calls_of c.args.machine.now) (calls_of c.remove.new.self)
    c.remove.ensures.noted c.remove.ensures.failed in
    going_removed c.args.name.now c.args.own.now (number_of c.args.held.now) x last.0 last.1

pub returns-in-Drop-clause-whole : goal.returns-in-Drop-clause-whole
returns-in-Drop-clause-whole g c = λ x bytes p.
    let last = either c.remove.result (removes c.args.own.now) (calls_of c.args.machine.now) (calls_of c.remove.new.self)
    c.remove.ensures.noted c.remove.ensures.failed in
    with_less (λ d r. r.going) (whole_old c.args.name.now x bytes p) (whole_old c.args.name.now x bytes p)
    (going_removed c.args.name.now c.args.own.now (number_of c.args.held.now) x last.0 last.1)

pub returns-in-Ok-clause-whole : goal.returns-in-Ok-clause-whole
returns-in-Ok-clause-whole g c = λ x bytes p. with_less (λ d r. r) (λ d w. w) (λ d t. t.whole) (c.in-Ok.ensures.ok x bytes p)

pub returns-in-Ok-clause-kept : goal.returns-in-Ok-clause-kept
returns-in-Ok-clause-kept g c = λ is x bytes p. with_less (λ d r. r) (λ d w. w) (λ d t. t.shows) (c.in-Ok.ensures.ok x bytes p)

pub returns-in-Err-clause-whole : goal.returns-in-Err-clause-whole
returns-in-Err-clause-whole g c = λ x bytes p.
    let last = either c.remove-in-Err.result (removes c.args.own.now) (calls_of c.put_named.new.machine)
    (calls_of c.remove-in-Err.new.self) c.remove-in-Err.ensures.noted c.remove-in-Err.ensures.failed in
    and_then (c.in-Err.ensures.err x bytes p) (left_removed c.args.name.now c.args.own.now x bytes p last.0 last.1)
