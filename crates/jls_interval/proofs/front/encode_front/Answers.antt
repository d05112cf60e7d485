use Rattle.std.proofs.Common.{ℕ, List, Bor, map, sym, ap, subst}
use Rattle.jls_values.specs.Params.{CodingParameters}
use Rattle.jls_context.specs.Variables.{Variables}
use Rattle.jls_interval.specs.Encoding.{AreWritten}
use Rattle.jls_interval.proofs.EncodedLines.{written_start}
use Rattle.jls_interval.proofs.front.encode_front.Goals as goal

abbrev items : List (Bor (List ℕ)) → List (List ℕ)
items lines = map (λ l. l.now) lines

-- before the first line nothing is written
pub write_with_ends-requires-clause-start : goal.write_with_ends-requires-clause-start
write_with_ends-requires-clause-start c =
    let p : CodingParameters = c.args.params.now in let coder = c.new-2.result in let lines = items c.args.lines.now in
    subst (λ q. AreWritten q c.args.width c.args.components lines 0
    (record { cells = coder.cells; run_indices = coder.run_indices; written = c.new.result }))
    (ap (λ (z : Variables). z.parameters) (sym c.new-2.ensures.cells))
    (written_start p c.args.width c.args.components lines coder.cells coder.run_indices c.new.result c.new-2.ensures.cells
    c.new-2.ensures.run_indices c.new.ensures)
