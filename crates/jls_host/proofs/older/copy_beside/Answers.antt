use Rattle.std.proofs.Common.{ℕ, true, List, [], ◌∷◌, ◌++◌, ◌∙◌, ap}
use Rattle.jls_host.specs.Disk.{removes}
use Rattle.jls_host.specs.Recorded.{calls_of, number_of}
use Rattle.jls_host.proofs.Runs.{and_then, either}
use Rattle.jls_host.proofs.Steps.{looked, opened_removed}
use Rattle.jls_host.proofs.older.copy_beside.Goals as goal

pub returns-in-Err-clause-none : goal.returns-in-Err-clause-none
returns-in-Err-clause-none g c = λ x held.
    and_then (looked c.args.name.now true c.mode-mode.ensures.noted (λ d s. s.shows)) (c.in-Err.ensures.none x held)

pub returns-in-Ok-copy_and_sync-clause-found : goal.returns-in-Ok-copy_and_sync-clause-found
returns-in-Ok-copy_and_sync-clause-found g c = λ x held.
    and_then (looked c.args.name.now true c.mode-mode.ensures.noted (λ d s. s.shows))
    (and_then (c.in-Ok.ensures.found x held) (c.in-Ok-copy_and_sync.ensures.ok c.in-Ok.made.1.bytes x held))

-- the copy could not be made, and is removed
pub returns-clause-none : goal.returns-clause-none
returns-clause-none g c = λ x held.
    let last = either c.remove.result (removes c.as_str.result.now) (calls_of c.copy_and_sync.new.machine) (calls_of c.remove.new.self)
    c.remove.ensures.noted c.remove.ensures.failed in
    and_then (looked c.args.name.now true c.mode-mode.ensures.noted (λ d s. s.shows))
    (and_then (c.in-Ok.ensures.found x held)
    (and_then (c.in-Err-copy_and_sync.ensures.err c.in-Ok.made.1.bytes x held)
    (opened_removed c.args.name.now c.in-Ok.made.1.bytes (number_of c.in-Ok.made.0) last.0
    (last.1 ∙ ap (λ (s : List ℕ). calls_of c.copy_and_sync.new.machine ++ (removes s, last.0) ∷ []) c.as_str.ensures.value) x held)))
