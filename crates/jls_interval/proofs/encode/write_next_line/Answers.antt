use Rattle.std.proofs.Common.{◌≡◌, ℕ, ◌%◌, ◌<◌, ◌≤◌, List, [], map, take, length, get_or, Bor, sym, ap, ◌∙◌, subst, arith}
use Rattle.std.specs.List.{AllByRecursion}
use Rattle.std.proofs.lemmas.List.{length-map, length-take-le, take-map}
use Rattle.jls_values.specs.Params.{CodingParameters}
use Rattle.jls_interval.specs.Events.{Above, above}
use Rattle.jls_interval.specs.Place.{above_of}
use Rattle.jls_interval.specs.Encoding.{Written, written_by}
use Rattle.jls_interval.proofs.EncodedLines.{written_more, line_in, back_small}
use Rattle.jls_interval.proofs.encode.write_next_line.Goals as goal

abbrev items : List (Bor (List ℕ)) → List (List ℕ)
items lines = map (λ l. l.now) lines

-- the lines above the next one are in their ranges
pub write_line-requires-clause-above : goal.write_line-requires-clause-above
write_line-requires-clause-above c =
    let p : CodingParameters = c.args.encoder.now.coder.cells.parameters in let L = items c.args.lines.now in let j : ℕ = c.args.j in
    let components : ℕ = c.args.components in
    let n = length-map c.args.lines.now (λ (l : Bor (List ℕ)). l.now) in let t = c.requires.within in
    let s = c.requires.components_at_least in let r = c.from.ensures in
    let is : above_of c.after-place.result ≡ above components (take j L) = c.after-place.ensures.above
    ∙ ap (λ z. above c.from.result z) (sym (take-map (λ (l : Bor (List ℕ)). l.now) j c.args.lines.now))
    ∙ ap (λ z. above z (take j L)) r in
    subst (λ (z : Above). AllByRecursion (λ s. s ≤ p.maxval) z.line_above) (sym is)
    (back_small p c.args.width L j components c.requires.each (omega arith) (omega arith))

pub write_line-requires-clause-samples : goal.write_line-requires-clause-samples
write_line-requires-clause-samples c =
    let p : CodingParameters = c.args.encoder.now.coder.cells.parameters in let L = items c.args.lines.now in
    let n = length-map c.args.lines.now (λ (l : Bor (List ℕ)). l.now) in let t = c.requires.within in
    subst (AllByRecursion (λ s. s ≤ p.maxval)) (sym c.line_at.ensures)
    (line_in p c.args.width L c.args.j c.requires.each (omega arith)).1

-- the lines up to this one are written
pub returns-clause-written : goal.returns-clause-written
returns-clause-written c =
    let p : CodingParameters = c.args.encoder.now.coder.cells.parameters in let L = items c.args.lines.now in let w : ℕ = c.args.width in
    let components : ℕ = c.args.components in let j : ℕ = c.args.j in
    let n = length-map c.args.lines.now (λ (l : Bor (List ℕ)). l.now) in let t = c.requires.within in let r = c.from.ensures in
    let within : j < length L = omega arith in let place = c.after-place.result in
    let prefix = sym (take-map (λ (l : Bor (List ℕ)). l.now) j c.args.lines.now) in
    let up : Above = above_of place in
    let up_is : up ≡ above components (take j L) = c.after-place.ensures.above ∙ ap (λ z. above c.from.result z) prefix
    ∙ ap (λ z. above z (take j L)) r in
    let taken : length (take j c.args.lines.now) ≡ j = length-take-le j c.args.lines.now (omega arith) in
    let k : ℕ = place.component in
    let k_is : k ≡ j % components = c.after-place.ensures.component ∙ ap (λ z. z % c.from.result) taken ∙ ap (λ z. j % z) r in
    let line : List ℕ = c.line_at.result.now in let line_is : line ≡ get_or L j [] = c.line_at.ensures in
    let wide : length line ≡ w = ap length line_is ∙ (line_in p w L j c.requires.each within).0 in
    let old : Written = written_by c.args.encoder.now in let new : Written = written_by c.write_line.new.encoder in
    written_more p w components L j old c.requires.before k up line new within k_is up_is line_is wide
    c.in_ok-write_line.ensures.written
