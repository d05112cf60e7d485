use Rattle.std.proofs.Common.{Result, sym, subst}
use Rattle.std.proofs.lemmas.Result.{err_from_is_err_and}
use Rattle.jls_partial.specs.declared.text_fault.TextFault.{TextFault}
use Rattle.jls_partial.specs.Partial.{PartialPicture}
use Rattle.jls_partial.specs.TextReading.{GivesText}
use Rattle.jls_partial.proofs.TextMerges.{head_fault, text_after}
use Rattle.jls_partial.proofs.text_reading.read_partial.Goals as goal

pub returns-in_err-read_head : goal.returns-in_err-read_head
returns-in_err-read_head c =
    let p = err_from_is_err_and c.from_residual.result c.from_residual.ensures.1 in
    rw (p.1, p.2) (head_fault c.in_err-read_head.field-0.0 c.args.bytes.now c.in_err-read_head.ensures)

-- the picture read is that of the text
pub returns : goal.returns
returns c =
    let head = c.in_ok-read_head.field-0 in
    subst (λ (f : Result PartialPicture TextFault). GivesText (λ q. q) c.read_after.result f)
    (sym (text_after c.args.bytes.now (head.form.size, head.form.version, head.shape, head.count, head.rest.now) c.in_ok-read_head.ensures))
    c.read_after.ensures
