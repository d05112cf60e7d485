use Rattle.std.proofs.Common.{◌≡◌, ℕ, Bool, List, Vec, Global, Bor, map, sym, ap, subst, ◌∙◌}
use Rattle.std.proofs.lemmas.Result.{IfOk-weaker}
use Rattle.jls_values.specs.Params.{CodingParameters}
use Rattle.jls_bits.specs.Pad.{IsPad, pad}
use Rattle.jls_bits.proofs.Padding.{one_pad, pad_is_pad}
use Rattle.jls_context.specs.Variables.{Variables}
use Rattle.jls_interval.specs.Code.{code}
use Rattle.jls_interval.specs.Encoding.{AreWritten}
use Rattle.jls_interval.proofs.EncodedLines.{written_start}
use Rattle.jls_interval.proofs.encode.encode_interval.Goals as goal

abbrev items : List (Bor (List ℕ)) → List (List ℕ)
items lines = map (λ l. l.now) lines

-- before the first line nothing is written
pub write_lines-requires-clause-start : goal.write_lines-requires-clause-start
write_lines-requires-clause-start c =
    let p : CodingParameters = c.args.params.now in let coder = c.new-2.result in let lines = items c.args.lines.now in
    subst (λ q. AreWritten q c.args.width c.args.components lines 0
    (record { cells = coder.cells; run_indices = coder.run_indices; written = c.new.result }))
    (ap (λ (z : Variables). z.parameters) (sym c.new-2.ensures.cells))
    (written_start p c.args.width c.args.components lines coder.cells coder.run_indices c.new.result c.new-2.ensures.cells
    c.new-2.ensures.run_indices c.new.ensures)

-- the bytes are the packed lines
pub returns-clause-packed : goal.returns-clause-packed
returns-clause-packed c =
    let given : List Bool = c.write_lines.new.encoder.writer in let lines = items c.args.lines.now in
    let is : given ≡ code c.args.params.now c.args.width c.args.components lines = c.in_ok-write_lines.ensures
    ∙ ap (λ q. code q c.args.width c.args.components lines) (ap (λ (z : Variables). z.parameters) c.new-2.ensures.cells) in
    IfOk-weaker _ _ _ (λ (v : Vec ℕ Global) (h : IsPad given v.items). one_pad given v.items (pad given) h (pad_is_pad given) ∙ ap pad is)
    c.finish.ensures

-- the bytes are the pad of the lines' code
pub returns-clause-pad : goal.returns-clause-pad
returns-clause-pad c =
    let given : List Bool = c.write_lines.new.encoder.writer in let lines = items c.args.lines.now in
    let is : given ≡ code c.args.params.now c.args.width c.args.components lines = c.in_ok-write_lines.ensures
    ∙ ap (λ q. code q c.args.width c.args.components lines) (ap (λ (z : Variables). z.parameters) c.new-2.ensures.cells) in
    IfOk-weaker _ _ _ (λ (v : Vec ℕ Global) h. subst (λ (z : List Bool). IsPad z v.items) is h) c.finish.ensures
