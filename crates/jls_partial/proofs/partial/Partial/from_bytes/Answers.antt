use Rattle.std.proofs.Common.{subst, arith, Result}
use Rattle.jls_partial.specs.declared.text_fault.TextFault.{TextFault}
use Rattle.jls_partial.specs.Partial.{PartialPicture}
use Rattle.jls_partial.specs.TextReading.{GivesText}
use Rattle.jls_partial.proofs.TextLaws.{is_found, read_again}
use Rattle.jls_partial.proofs.partial.Partial.from_bytes.Goals as goal

pub returns-clause-found : goal.returns-clause-found
returns-clause-found c = is_found c.args.bytes.now c.read_partial.result (λ i. omega (arith, c.type_inv.bytes i)) c.read_partial.ensures

pub returns-clause-only : goal.returns-clause-only
returns-clause-only c = λ p is. subst (λ (f : Result PartialPicture TextFault). GivesText (λ q. q) c.read_partial.result f)
    (read_again c.args.bytes.now p is) c.read_partial.ensures
