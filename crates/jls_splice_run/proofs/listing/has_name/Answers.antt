use Rattle.std.proofs.Common.{ℕ, List, ap, ◌∙◌}
use Rattle.std.specs.Str.{bytes_eq}
use Rattle.jls_splice_run.specs.declared.listing.NumberedFile.{NumberedFile}
use Rattle.jls_splice_run.proofs.Named.{is_named_at}
use Rattle.jls_splice_run.proofs.listing.has_name.Goals as goal

pub returns-then-eq : goal.returns-then-eq
returns-then-eq c =
    let v = c.other-item.result in
    is_named_at c.args.named.now c.args.file.now c.loop-other.other-index v c.loop-other-test.true
    (c.if-eq.ensures ∙ ap (λ (bytes : List ℕ). bytes_eq bytes c.args.file.now) c.deref.ensures.value
    ∙ ap (λ (f : NumberedFile). bytes_eq f.bytes.items c.args.file.now) c.other-item.is)
