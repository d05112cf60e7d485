use Rattle.std.proofs.Common.{true, refl, ap, ◌∙◌, arith}
use Rattle.jls_copy.specs.declared.place.CopyPosition.TheVariants.{Start}
use Rattle.jls_copy.proofs.Idle.{fill_at_start}
use Rattle.jls_copy.proofs.MachineTakes.{takes_fill}
use Rattle.jls_copy.proofs.machine.Machine.take_at_start.Goals as goal

-- fill bytes are taken at once
pub returns-then-count-gt0 : goal.returns-then-count-gt0
returns-then-count-gt0 c =
    takes_fill c.args.self.now c.args.bytes.now c.fill_len-count.result (Start true) (c.requires.place ∙ ap Start c.if-fill.true)
    (omega (arith, c.if-count-gt0.true)) c.fill_len-count.ensures.within
    (fill_at_start _ _ c.fill_len-count.ensures.within c.fill_len-count.ensures.fill) refl tt c.requires.header_bytes
