use Rattle.std.proofs.Common.{ℕ, true, false, List, [], ◌∷◌, ◌++◌, ◌∙◌, ap}
use Rattle.jls_host.specs.Disk.{renames, removes}
use Rattle.jls_host.specs.Recorded.{calls_of}
use Rattle.jls_host.proofs.Runs.{and_then, either}
use Rattle.jls_host.proofs.Steps.{kept_went, kept_failed, unkept_removed, looked}
use Rattle.jls_host.proofs.older.set_aside.Goals as goal

pub returns-in-Ok-clause-ok : goal.returns-in-Ok-clause-ok
returns-in-Ok-clause-ok g c = λ x held.
    and_then (kept_went c.args.name.now c.args.second.now (c.in-Ok.ensures.noted ∙ ap
    (λ (k : List ℕ). calls_of c.args.machine.now ++ (renames c.args.second.now k, true) ∷ []) c.requires) x held)
    (looked c.args.kept.now c.sync_folder.ensures.noted.0 c.sync_folder.ensures.noted.1 (λ d k. k.steady.shows))

-- the rename failed, and the second file is removed
pub returns-in-Err-clause-err : goal.returns-in-Err-clause-err
returns-in-Err-clause-err g c = λ x held.
    let last = either c.remove.result (removes c.args.second.now) (calls_of c.rename.new.self) (calls_of c.remove.new.self)
    c.remove.ensures.noted c.remove.ensures.failed in
    and_then (kept_failed c.args.name.now c.args.second.now (c.in-Err.ensures.failed ∙ ap
    (λ (k : List ℕ). calls_of c.args.machine.now ++ (renames c.args.second.now k, false) ∷ []) c.requires) x held)
    (unkept_removed c.args.name.now c.args.second.now last.0 last.1 x held)
