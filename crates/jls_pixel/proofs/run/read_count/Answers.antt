use Rattle.std.proofs.Common.{ℕ, ◌^◌, ◌<◌, false, ◌∷◌, ◌++◌, refl, sym, ap, ◌∙◌, subst}
use Rattle.jls_bits.specs.Bits.{bits}
use Rattle.jls_interval.proofs.BlocksTaken.{broken_here, no_run_zero, no_run_long}
use Rattle.jls_pixel.proofs.run.read_count.Goals as goal

pub returns-in-None-clause-none : goal.returns-in-None-clause-none
returns-in-None-clause-none c = λ r0 given t.
    no_run_zero r0 c.args.width given c.args.run_index c.args.columns (false ∷ c.args.pending.now) t c.requires.some
    c.args.pending.now refl (λ n rest a b e. c.in-None.ensures.none n rest (e ∙ ap (λ z. bits z n
    ++ rest) (sym c.run_order.ensures.value)))

pub returns-then-value-columns-clause-run : goal.returns-then-value-columns-clause-run
returns-then-value-columns-clause-run c = λ r0 given t.
    let n : ℕ = c.in-Some.value in let o = c.run_order.ensures.value in let unread = c.read_number.new.pending in
    broken_here r0 c.args.width given c.args.run_index c.args.columns (false ∷ c.args.pending.now) t n unread
    (subst (λ z. n < 2 ^ z) o c.in-Some.ensures.below)
    (ap (λ z. false ∷ z) (c.in-Some.ensures.bits ∙ ap (λ z. bits z n ++ unread) o))

pub returns-else-value-columns-clause-none : goal.returns-else-value-columns-clause-none
returns-else-value-columns-clause-none c = λ r0 given t.
    let n : ℕ = c.in-Some.value in let o = c.run_order.ensures.value in let unread = c.read_number.new.pending in
    no_run_long r0 c.args.width given c.args.run_index c.args.columns (false ∷ c.args.pending.now) t c.requires.some n
    c.args.pending.now unread refl (subst (λ z. n < 2 ^ z) o c.in-Some.ensures.below)
    (c.in-Some.ensures.bits ∙ ap (λ z. bits z n ++ unread) o) c.if-value-columns.false
