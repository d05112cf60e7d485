use Rattle.std.proofs.Common.{ℕ, sym, subst}
use Rattle.jls_interval.specs.Lines.{interval_shape}
use Rattle.jls_interval.specs.Heads.{IsHead}
use Rattle.jls_interval.proofs.interval_reader.IntervalReader.into_head.Goals as goal

pub returns : goal.returns
returns c = λ p given h.
    let d = c.args.self in let w : ℕ = d.reader.width in let n : ℕ = d.components in
    subst (IsHead (interval_shape p w n d.count) given) (sym c.new.ensures) (c.is_cut-is_cut.ensures.no c.if-is_cut.false p given h)
