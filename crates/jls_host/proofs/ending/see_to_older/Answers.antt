use Rattle.std.proofs.Common.{◌≡◌, Bool, false, [], ◌∷◌, ◌++◌, Some, sym, ◌∙◌, ap, rules}
use Rattle.jls_host.specs.Disk.{asks_equal}
use Rattle.jls_host.specs.Standings.{maybe_partial}
use Rattle.jls_host.specs.Steps.{Beside}
use Rattle.jls_host.specs.Recorded.{calls_of}
use Rattle.jls_host.proofs.Runs.{and_then, with_less}
use Rattle.jls_host.proofs.Takes.{may_take, kept_takes}
use Rattle.jls_host.proofs.Steps.{asked_partial, asked_equal, partial_told, input_told, equal_told}
use Rattle.jls_host.proofs.ending.see_to_older.Goals as goal

found : (b : Bool) {a : Bool} → b ≡ a → b ≡ false → a ≡ false
found b e f = sym e ∙ f

pub returns-then-is_protected-clause-err : goal.returns-then-is_protected-clause-err
returns-then-is_protected-clause-err g c = λ x i bytes p.
    with_less (λ d s. s) (λ d s. s) (λ d s. s.steady) (asked_partial c.args.name.now (maybe_partial c.kind-kind.result)
    c.kind-kind.ensures.noted (λ d s. s.steady.shows))

-- what stands at the name is not precious
pub returns-then-not-is_precious-clause-ok : goal.returns-then-not-is_precious-clause-ok
returns-then-not-is_precious-clause-ok g c = λ x i bytes p.
    let held : Beside = (c.args.own.now, i, bytes) in
    with_less (λ d s. s) (λ d s. s) (λ d t. may_take c.args.guard c.kind-kind.result c.is_input-is_input.result c.args.name.now x held p d
    (found c.is_protected.result c.is_protected.ensures (search rules))
    (found c.is_precious.result c.is_precious.ensures (search rules)) t)
    (and_then (partial_told c.args.name.now x held p (maybe_partial c.kind-kind.result) c.kind-kind.ensures.noted)
    (input_told c.args.name.now x held p (maybe_partial c.kind-kind.result) c.is_input-is_input.result
    c.is_input-is_input.ensures.noted))

-- the two files could not be compared
pub returns-in-Err-clause-err : goal.returns-in-Err-clause-err
returns-in-Err-clause-err g c = λ x i bytes p.
    let held : Beside = (c.args.own.now, i, bytes) in
    with_less (λ d s. s) (λ d s. s) (λ d t. t.stored.steady)
    (and_then (partial_told c.args.name.now x held p (maybe_partial c.kind-kind.result) c.kind-kind.ensures.noted)
    (and_then (input_told c.args.name.now x held p (maybe_partial c.kind-kind.result) c.is_input-is_input.result
    c.is_input-is_input.ensures.noted)
    (asked_equal c.args.own.now c.args.name.now false c.in-Err.ensures.failed (λ d t. t.stored.steady.shows))))

-- the older file has the same bytes
pub returns-then-is_there-clause-ok : goal.returns-then-is_there-clause-ok
returns-then-is_there-clause-ok g c = λ x i bytes p.
    let held : Beside = (c.args.own.now, i, bytes) in
    and_then (partial_told c.args.name.now x held p (maybe_partial c.kind-kind.result) c.kind-kind.ensures.noted)
    (and_then (input_told c.args.name.now x held p (maybe_partial c.kind-kind.result) c.is_input-is_input.result
    c.is_input-is_input.ensures.noted)
    (equal_told c.args.name.now c.args.own.now x i bytes p (maybe_partial c.kind-kind.result) c.is_input-is_input.result
    (c.in-Ok.ensures.noted ∙ ap (λ (b : Bool). calls_of c.is_input-is_input.new.self ++ (asks_equal c.args.own.now c.args.name.now, b)
    ∷ []) c.if-is_there.true)))

-- the older file is kept, and the new one may take the name
pub returns-in-Ok-keep-clause-ok : goal.returns-in-Ok-keep-clause-ok
returns-in-Ok-keep-clause-ok g c = λ x i bytes p.
    let held : Beside = (c.args.own.now, i, bytes) in
    with_less (λ d s. s) (λ d s. s) (kept_takes c.args.name.now x held p)
    (and_then (with_less (λ d s. s) (λ d s. s) (λ d t. t.stored.steady)
    (and_then (partial_told c.args.name.now x held p (maybe_partial c.kind-kind.result) c.kind-kind.ensures.noted)
    (and_then (input_told c.args.name.now x held p (maybe_partial c.kind-kind.result) c.is_input-is_input.result
    c.is_input-is_input.ensures.noted)
    (asked_equal c.args.own.now c.args.name.now c.in-Ok.is_there c.in-Ok.ensures.noted (λ d t. t.stored.steady.shows)))))
    (c.in-Ok-keep.ensures.ok x (Some held)))

-- the older file could not be kept
pub returns-in-Err-keep-clause-err : goal.returns-in-Err-keep-clause-err
returns-in-Err-keep-clause-err g c = λ x i bytes p.
    let held : Beside = (c.args.own.now, i, bytes) in
    and_then (with_less (λ d s. s) (λ d s. s) (λ d t. t.stored.steady)
    (and_then (partial_told c.args.name.now x held p (maybe_partial c.kind-kind.result) c.kind-kind.ensures.noted)
    (and_then (input_told c.args.name.now x held p (maybe_partial c.kind-kind.result) c.is_input-is_input.result
    c.is_input-is_input.ensures.noted)
    (asked_equal c.args.own.now c.args.name.now c.in-Ok.is_there c.in-Ok.ensures.noted (λ d t. t.stored.steady.shows)))))
    (c.in-Err-keep.ensures.err x (Some held))
