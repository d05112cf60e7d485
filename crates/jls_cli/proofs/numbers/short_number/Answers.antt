use Rattle.std.proofs.Common.{refl, arith}
use Rattle.jls_cli.proofs.NumbersRead.{number_read, number_refused}
use Rattle.jls_cli.proofs.numbers.short_number.Goals as goal

pub returns-in-Ok : goal.returns-in-Ok
returns-in-Ok c =
    number_read 16 65535 refl (omega arith) 0 c.args.value.now c.parse.result
    c.in-Ok.number c.parse.ensures.value.0 c.in-Ok.is (omega arith)

pub returns-in-Err : goal.returns-in-Err
returns-in-Err c =
    number_refused 16 65535 refl (omega arith) 0 c.args.value.now c.parse.result
    c.in-Err.field-0 c.parse.ensures.value.0 c.in-Err.is
