use Rattle.std.proofs.Common.{◌≡◌, ◌*◌, List, Result, Err, ℕ}
use Rattle.jls_interval.specs.declared.decode_piece.PieceFault.{PieceFault}
use Rattle.jls_interval.specs.declared.decode_piece.PieceFault.TheVariants.{OutOfMemory}
use Rattle.jls_interval.proofs.Finishing.{read_of}
use Rattle.jls_interval.proofs.interval_decoder.IntervalDecoder.finish.Goals as goal

pub returns-clause-read : goal.returns-clause-read
returns-clause-read c =
    let v = c.args.self in let result : Result (List (List ℕ)) PieceFault = c.outcome.result in
    read_of v.parameters v.width v.components (v.rows * v.components) c.outcome.ensures.in_range c.outcome.ensures.width result
    (result ≡ Err OutOfMemory) v.bytes c.outcome.ensures.outcome
