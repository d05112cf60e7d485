use Rattle.std.proofs.Common.{◌≡◌, ◌<◌, true, ◌∷◌, ap, ◌∙◌, subst, arith}
use Rattle.jls_interval.specs.Reading.{Taken}
use Rattle.jls_interval.proofs.BlocksTaken.{taken_start, ended_short}
use Rattle.jls_pixel.proofs.RunReads.{block_taken, blocks_end}
use Rattle.jls_pixel.proofs.CutRuns.{blocks_cut}
use Rattle.jls_pixel.proofs.cut_run.read_run_end.Goals as goal

pub loop-bit-init : goal.loop-bit-init
loop-bit-init c = record {
  taken = taken_start c.args.run_index c.args.width c.args.pending.now c.requires.run_index;
  some = c.requires.width;
  within = omega arith;
  small = c.requires.run_index;
}

pub returns-then-columns-block-clause-end : goal.returns-then-columns-block-clause-end
returns-then-columns-block-clause-end c =
    let i = c.loop-bit.invariant in let left' = c.read_bit.new.self in
    let one : c.loop-bit.pending ≡ true ∷ left' = c.in-Some.ensures.some ∙ ap (λ b. b ∷ left') c.if-not-bit.false in
    ended_short c.args.run_index c.args.width c.args.pending.now c.loop-bit.now c.loop-bit.columns c.loop-bit.pending i.taken
    left' i.some (subst (λ z. c.loop-bit.columns < z) c.block_columns-block.ensures c.if-columns-block.true) one

pub returns-then-columns-eq0-clause-end : goal.returns-then-columns-eq0-clause-end
returns-then-columns-eq0-clause-end c =
    let i = c.loop-bit.invariant in let left' = c.read_bit.new.self in
    let one : c.loop-bit.pending ≡ true ∷ left' = c.in-Some.ensures.some ∙ ap (λ b. b ∷ left') c.if-not-bit.false in
    blocks_end c.args.run_index c.args.width c.args.pending.now c.loop-bit.now c.loop-bit.columns c.loop-bit.pending left' i.taken
    one c.raised-now.result c.block_columns-block.result c.raised-now.ensures.value c.block_columns-block.ensures c.if-columns-block.false
    c.if-columns-eq0.true

pub loop-bit-preserved : goal.loop-bit-preserved
loop-bit-preserved c =
    let i = c.loop-bit.invariant in let left' = c.read_bit.new.self in
    let one : c.loop-bit.pending ≡ true ∷ left' = c.in-Some.ensures.some ∙ ap (λ b. b ∷ left') c.if-not-bit.false in
    let none = c.if-columns-eq0.false in let within = i.within in
    record {
      taken = block_taken c.args.run_index c.args.width c.args.pending.now c.loop-bit.now c.loop-bit.columns c.loop-bit.pending
          left'
          i.taken one c.raised-now.result c.block_columns-block.result c.raised-now.ensures.value c.block_columns-block.ensures
          c.if-columns-block.false;
      some = omega arith;
      within = omega arith;
      small = c.raised-now.ensures.at_most;
    }

pub returns-clause-end : goal.returns-clause-end
returns-clause-end c =
    let i = c.loop-bit.invariant in
    blocks_cut c.args.run_index c.args.width c.args.pending.now c.loop-bit.now c.loop-bit.columns
    (subst (Taken c.args.run_index c.args.width c.args.pending.now c.loop-bit.now c.loop-bit.columns) c.in_default.ensures.none.0 i.taken)
    i.some
