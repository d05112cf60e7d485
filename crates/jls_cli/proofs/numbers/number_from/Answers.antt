use Rattle.std.proofs.Common.{refl, arith}
use Rattle.jls_cli.proofs.NumbersRead.{number_low, number_read, number_refused}
use Rattle.jls_cli.proofs.numbers.number_from.Goals as goal

pub returns-then-number-least : goal.returns-then-number-least
returns-then-number-least c =
    number_low 32 4294967295 refl (omega arith) c.args.least c.args.value.now c.parse.result
    c.in-Ok.number c.parse.ensures.value.0 c.in-Ok.is (omega arith)

pub returns-else-number-least : goal.returns-else-number-least
returns-else-number-least c =
    number_read 32 4294967295 refl (omega arith) c.args.least c.args.value.now c.parse.result
    c.in-Ok.number c.parse.ensures.value.0 c.in-Ok.is (omega arith)

pub returns-in-Err : goal.returns-in-Err
returns-in-Err c =
    number_refused 32 4294967295 refl (omega arith) c.args.least c.args.value.now c.parse.result
    c.in-Err.field-0 c.parse.ensures.value.0 c.in-Err.is
