-- Worked lines on the fault output that this program alone has, as they are printed.
use Rattle.std.proofs.Common.{◌≡◌, refl}
use Rattle.std.specs.Prelude.{codes}
use Rattle.std.specs.Char.{encode_utf8}
use Rattle.std.specs.Str.{chars}
use Rattle.jls_splice_run.specs.FaultLines.{bad_value_line, named_twice_line, not_replaced_line, not_understood_line, numbered_out_line}

not_replaced : not_replaced_line (codes "A.jls") ≡ codes "jls-splice: A.jls is a JPEG file, and jls-splice replaces none\n"
unfolding chars encode_utf8
not_replaced = refl

named_twice : named_twice_line (codes "A.jls") ≡ codes "jls-splice: A.jls: is named as OUT and by --file\n"
unfolding chars encode_utf8
named_twice = refl

numbered_out : numbered_out_line (codes "A-1") ≡ codes "jls-splice: A-1: is named as OUT and by --files\n"
unfolding chars encode_utf8
numbered_out = refl

bad_value : bad_value_line (codes "3:m")
    ≡ codes "jls-splice: 3:m: --bad wants N:LIST, with the number of a COPY, and a LIST that is no output and not -\n"
unfolding chars encode_utf8
bad_value = refl

not_understood : not_understood_line ≡ codes "jls-splice: one COPY is enough only with --bad N:LIST or --witness FILE\n"
not_understood = refl
