use Rattle.std.proofs.Common.{◌≡◌, ℕ, Bool, true, List, [], ◌∷◌, ◌++◌, sym, ◌∙◌, ap, rules}
use Rattle.jls_host.specs.Standings.{plainly, maybe_partial}
use Rattle.jls_host.specs.Recorded.{calls_of}
use Rattle.jls_host.proofs.Runs.{and_then}
use Rattle.jls_host.proofs.Steps.{asked_plain, asked_partial, asked_input, asked_one, plain_seen, one_seen}
use Rattle.jls_host.proofs.Takes.{can_go_plain}
use Rattle.jls_host.specs.Disk.{asks_plain, asks_one}
use Rattle.jls_host.proofs.older.see_kept.Goals as goal

went : (b : Bool) {a : Bool} → b ≡ a → b ≡ true → a ≡ true
went b e f = sym e ∙ f

pub returns-then-not-can_go-clause-same : goal.returns-then-not-can_go-clause-same
returns-then-not-can_go-clause-same g c = λ x held.
    and_then (asked_plain c.args.kept.now (plainly c.standing-standing.result) c.standing-standing.ensures.noted (λ d s. s.shows))
    (and_then (asked_partial c.args.kept.now (maybe_partial c.kind-kind.result) c.kind-kind.ensures.noted (λ d s. s.shows))
    (asked_input c.args.kept.now c.is_input-is_input.result c.is_input-is_input.ensures.noted (λ d s. s.shows)))

pub returns-clause-same : goal.returns-clause-same
returns-clause-same g c = λ x held.
    and_then (asked_plain c.args.kept.now (plainly c.standing-standing.result) c.standing-standing.ensures.noted (λ d s. s.shows))
    (and_then (asked_partial c.args.kept.now (maybe_partial c.kind-kind.result) c.kind-kind.ensures.noted (λ d s. s.shows))
    (and_then (asked_input c.args.kept.now c.is_input-is_input.result c.is_input-is_input.ensures.noted (λ d s. s.shows))
    (asked_one c.args.name.now c.args.kept.now c.are_one.result c.are_one.ensures.noted (λ d s. s.shows))))

-- both names lead to one file, which is kept already
pub returns-clause-kept : goal.returns-clause-kept
returns-clause-kept g c = λ is x held.
    and_then (plain_seen c.args.name.now (plainly c.standing-standing.result)
    (c.standing-standing.ensures.noted ∙ ap (λ (k : List ℕ). calls_of c.args.machine.now ++
    (asks_plain k, plainly c.standing-standing.result) ∷ []) c.requires) x held)
    (and_then (asked_partial c.args.kept.now (maybe_partial c.kind-kind.result) c.kind-kind.ensures.noted (λ d s. s.steady.shows))
    (and_then (asked_input c.args.kept.now c.is_input-is_input.result c.is_input-is_input.ensures.noted (λ d s. s.steady.shows))
    (one_seen c.args.name.now (plainly c.standing-standing.result)
    (can_go_plain c.standing-standing.result c.kind-kind.result c.is_input-is_input.result
    (went c.can_go.result c.can_go.ensures (search rules)))
    (c.are_one.ensures.noted ∙ (ap (λ (b : Bool). calls_of c.is_input-is_input.new.self ++ (asks_one c.args.name.now c.args.kept.now, b) ∷
    []) is ∙ ap (λ (k : List ℕ). calls_of c.is_input-is_input.new.self ++ (asks_one c.args.name.now k, true) ∷ []) c.requires)) x
    held)))
