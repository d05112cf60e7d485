use Rattle.std.proofs.Common.{◌≡◌, ℕ, ◌+◌, ◌-◌, ◌*◌, List, refl, arith}
use Rattle.jls_c.specs.Lines.{shown_line}
use Rattle.jls_c.proofs.Rows.{put_row, length_rows_more}
use Rattle.jls_c.proofs.samples.put_component.Goals as goal

pub loop-line-preserved : goal.loop-line-preserved
loop-line-preserved c =
    let p = c.args.partial.now in
    let f : ℕ → List ℕ = shown_line p c.args.component in
    let so_far = c.loop-line.invariant in
    let width : c.from-width.result ≡ p.shape.width = cc in
    let start = c.from.result * c.from-width.result in
    let at : c.from.result * c.from-width.result ≡ c.loop-line.line * p.shape.width = cc in
    record {
      long = length_rows_more f p.shape.width c.loop-line.line c.put_line.new.out so_far.long c.put_line.ensures.shown
          c.put_line.ensures.wide;
      out = put_row f p.shape.width c.loop-line.line start
          (start + c.from-width.result - start) c.args.out.now c.loop-line.out _ c.put_line.new.out
          so_far.long so_far.out c.put_line.ensures.shown at (omega (arith, width)) refl;
    }
