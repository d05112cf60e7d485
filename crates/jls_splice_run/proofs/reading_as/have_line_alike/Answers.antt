use Rattle.std.proofs.Common.{◌≡◌, ◌∙◌, ℕ, List, [], ◌∷◌, length, ap, sym, arith}
use Rattle.jls_partial.specs.Partial.{readings_at}
use Rattle.jls_partial.specs.PartialLaws.{same_list}
use Rattle.jls_splice_run.proofs.ReadAlike.{alone}
use Rattle.jls_splice_run.proofs.reading_as.have_line_alike.Goals as goal

pub returns : goal.returns
returns c =
    λ same.
    let read = readings_at c.args.read.now c.args.component c.args.line in
    let picture = readings_at c.args.picture.now c.args.component c.args.line in
    let one : length read ≡ 1 = omega (arith, c.count.ensures, c.if-count-ne1.false) in
    let other : length picture ≡ 1 = omega (arith, c.count-else-count-ne1.ensures, c.if-count-ne1-2.false) in
    let equal = same_list c.reading.result.now c.reading-2.result.now (sym c.eq.ensures ∙ same) in (
      c.reading.result.now,
      alone read c.reading.result.now one c.reading.ensures.value,
      alone picture c.reading-2.result.now other c.reading-2.ensures.value ∙ ap (λ (x : List ℕ). x ∷ []) (sym equal),
    )
