use Rattle.std.proofs.Common.{ℕ, ◌≤◌, List, [], ◌∷◌, length, refl, sym, ◌∙◌, subst, arith}
use Rattle.std.specs.List.{AllByRecursion}
use Rattle.jls_values.specs.Params.{CodingParameters}
use Rattle.jls_interval.specs.Events.{Above, stretch}
use Rattle.jls_interval.specs.Place.{above_of}
use Rattle.jls_interval.specs.Encoding.{Written, Writes, WritesColumns, written_by}
use Rattle.jls_interval.proofs.GrownLines.{stretch_moves}
use Rattle.jls_interval.proofs.EncodedLines.{columns_none, columns_one, columns_then, columns_end}
use Rattle.jls_interval.proofs.encode_line.write_line.Goals as goal

-- before the first column nothing is written
pub loop-x-init : goal.loop-x-init
loop-x-init c = record {
  parameters = refl;
  written = columns_none c.args.encoder.now.coder.cells.parameters c.args.place.now.component (above_of c.args.place.now) c.args.line.now 0
      (written_by c.args.encoder.now);
}

pub write_samples-requires-clause-samples : goal.write_samples-requires-clause-samples
write_samples-requires-clause-samples c =
    subst (λ (q : CodingParameters). AllByRecursion (λ s. s ≤ q.maxval) c.args.line.now) (sym c.loop-x.invariant.parameters)
    c.requires.samples

pub write_stretch-requires-clause-above : goal.write_stretch-requires-clause-above
write_stretch-requires-clause-above c =
    subst (λ (q : CodingParameters). AllByRecursion (λ s. s ≤ q.maxval) c.args.place.now.line_above.now)
    (sym (c.write_samples.ensures.parameters ∙ c.loop-x.invariant.parameters)) c.requires.above

pub write_stretch-requires-clause-samples : goal.write_stretch-requires-clause-samples
write_stretch-requires-clause-samples c =
    subst (λ (q : CodingParameters). AllByRecursion (λ s. s ≤ q.maxval) c.args.line.now)
    (sym (c.write_samples.ensures.parameters ∙ c.loop-x.invariant.parameters)) c.requires.samples

-- a stretch goes past a column at least
pub loop-x-smaller : goal.loop-x-smaller
loop-x-smaller c =
    let e = c.in_ok-next.ensures in
    let m = stretch_moves (length c.args.line.now) c.args.place.now.component (above_of c.args.place.now) c.args.line.now c.in_ok-next.next
    e.within in
    omega (arith, c.in_ok-x.ensures.column, e.from, e.within, c.loop-x-test.true)

-- one stretch more of the line is written
pub loop-x-preserved : goal.loop-x-preserved
loop-x-preserved c =
    let up : Above = above_of c.args.place.now in let k : ℕ = c.args.place.now.component in
    let p : CodingParameters = c.args.encoder.now.coder.cells.parameters in
    let line : List ℕ = c.args.line.now in let i = c.loop-x.invariant in let e = c.in_ok-next.ensures in let x : ℕ = c.loop-x.x in
    let y : ℕ = c.in_ok-next.next in let z : ℕ = c.in_ok-x.x in
    let old : Written = written_by c.args.encoder.now in let before : Written = written_by c.loop-x.encoder in
    let middle : Written = written_by c.write_samples.new.encoder in let new : Written = written_by c.write_stretch.new.encoder in
    let samples : WritesColumns p k up line x y before middle =
    subst (λ q. WritesColumns q k up line x y before middle) i.parameters e.written in
    let one : Writes p middle new ((stretch (length line) k up line y).event ∷ []) =
    subst (λ q. Writes q middle new ((stretch (length line) k up line y).event ∷ [])) (c.write_samples.ensures.parameters ∙ i.parameters)
    c.in_ok-x.ensures.written in
    record {
      parameters = c.write_stretch.ensures.parameters ∙ c.write_samples.ensures.parameters ∙ i.parameters;
      written = columns_then p k up line 0 y z old middle new (columns_then p k up line 0 x y old before middle i.written samples)
          (columns_one p k up line y z middle new e.within one c.in_ok-x.ensures.column);
    }

pub returns-clause-written : goal.returns-clause-written
returns-clause-written c =
    columns_end c.args.encoder.now.coder.cells.parameters c.args.place.now.component (above_of c.args.place.now) c.args.line.now c.loop-x.x
    (written_by c.args.encoder.now) (written_by c.loop-x.encoder) c.loop-x-test.false c.loop-x.invariant.written
