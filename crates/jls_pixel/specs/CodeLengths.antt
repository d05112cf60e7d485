-- What bounds the codes of a scan's samples (T.87 A.2.1 and A.5.3).
use Rattle.std.specs.Prelude.{◌≡◌, ◌≤◌, ◌+◌}
use Rattle.jls_values.specs.Params.{CodingParameters, qbpp, limit}
use Rattle.jls_pixel.specs.declared.code_lengths.CodeLengths.{CodeLengths}

-- these are qbpp, LIMIT and MAXVAL, and so within these bounds
pub record AreLengths (p : CodingParameters) (lengths : CodeLengths) : Type 0 where
  pub qbpp_is : lengths.qbpp ≡ qbpp p
  pub limit_is : lengths.limit ≡ limit p
  pub maxval_is : lengths.maxval ≡ p.maxval
  pub qbpp_at_least : 1 ≤ lengths.qbpp
  pub qbpp_at_most : lengths.qbpp ≤ 16
  pub limit_at_least : lengths.qbpp + 18 ≤ lengths.limit
  pub limit_at_most : lengths.limit ≤ 64
