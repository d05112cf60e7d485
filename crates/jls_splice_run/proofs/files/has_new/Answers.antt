use Rattle.std.proofs.Common.{◌≡◌, ℕ, false, List, sym, ap, ◌∙◌}
use Rattle.jls_search.specs.Files.{files_taken}
use Rattle.jls_splice_run.specs.Files.{is_copy}
use Rattle.jls_splice_run.proofs.NewFiles.{new_at}
use Rattle.jls_splice_run.proofs.files.has_new.Goals as goal

pub returns-then-not-taken : goal.returns-then-not-taken
returns-then-not-taken c =
    let taken = files_taken c.args.files.now in
    let v = c.file-item.result in
    let none : is_copy taken v.bytes.items ≡ false =
    sym (ap (λ (z : List ℕ). is_copy taken z) c.deref.ensures.value) ∙ sym c.in_ok-taken.ensures ∙ c.if-not-taken.true in
    sym (new_at taken c.args.numbered.now c.loop-file.file-index v c.loop-file-test.true c.file-item.is none)
