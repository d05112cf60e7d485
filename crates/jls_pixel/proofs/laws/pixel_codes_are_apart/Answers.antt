use Rattle.jls_pixel.proofs.CodesApart.{codes_apart}
use Rattle.jls_pixel.proofs.laws.pixel_codes_are_apart.Goals as goal

pub returns : goal.returns
returns c = codes_apart
