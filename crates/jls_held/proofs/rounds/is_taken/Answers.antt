use Rattle.std.proofs.Common.{ap, ◌∙◌, sym, Some}
use Rattle.jls_partial.proofs.Marked.{got_held}
use Rattle.jls_held.proofs.HeldReadings.{same_numbers}
use Rattle.jls_held.proofs.rounds.is_taken.Goals as goal

pub returns-then-eq : goal.returns-then-eq
returns-then-eq c _ =
    let same = same_numbers c.reading.result.now c.args.samples.now (sym c.eq.ensures ∙ c.if-eq.true) in
    got_held c.args.held.now c.args.component c.args.row c.loop-i.i c.args.samples.now (c.reading.ensures.value ∙ ap (λ z. Some z) same)
