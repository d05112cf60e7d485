use Rattle.std.proofs.Common.{length, sym, ap, ◌∙◌}
use Rattle.std.proofs.lemmas.Bool.{eqb-true, eq-eqb}
use Rattle.jls_bits.specs.Bits.{bits}
use Rattle.jls_bits.proofs.NumberBits.{bits_none, length-bits}
use Rattle.jls_bits.proofs.chunk.Chunk.is_empty.Goals as goal

-- no bit is counted exactly where there is none
pub returns : goal.returns
returns c =
    let n = c.self.inside.count in let v = c.self.inside.value in (
      λ t. sym c.self.view_is ∙ ap (λ z. bits z v) (eqb-true n 0 t) ∙ bits_none v,
      λ e. eq-eqb n 0 (sym (length-bits n v) ∙ ap length (c.self.view_is ∙ e)),
    )
