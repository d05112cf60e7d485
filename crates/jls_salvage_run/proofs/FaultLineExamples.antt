-- Worked lines on the fault output that this program alone has, as they are printed.
use Rattle.std.proofs.Common.{◌≡◌, true, false, refl}
use Rattle.std.specs.Prelude.{codes}
use Rattle.std.specs.Char.{encode_utf8}
use Rattle.std.specs.Str.{chars}
use Rattle.jls_salvage_run.specs.FaultLines.{not_replaced_line, unknown_value_line}

not_replaced : not_replaced_line (codes "A.jls") ≡ codes "jls-salvage: A.jls is a JPEG file, and join does not replace one\n"
unfolding chars encode_utf8
not_replaced = refl

-- values that options do not take
unknown_format : unknown_value_line false ≡ codes "jls-salvage: --as takes jls or pnm\n"
unknown_format = refl

unknown_mode : unknown_value_line true ≡ codes "jls-salvage: --ilv takes none or line\n"
unknown_mode = refl
