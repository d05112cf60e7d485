use Rattle.std.proofs.Common.{ℕ, Option, ap, sym}
use Rattle.jls_partial.specs.TextReading.{is_source_above}
use Rattle.jls_partial.proofs.text_fields.is_source_above.Goals as goal

pub returns-in-Some : goal.returns-in-Some
returns-in-Some c = ap (λ (before : Option ℕ). is_source_above before c.args.source) (sym c.in-Some.is)
