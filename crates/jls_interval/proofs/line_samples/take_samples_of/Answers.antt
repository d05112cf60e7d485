use Rattle.std.proofs.Common.{◌≡◌, ℕ, ◌+◌, ◌-◌, ◌<◌, List, [], ◌∷◌, ◌++◌, length, length-append, w32, to_z, of_z, refl, ap, sym, ◌∙◌, subst}
use Rattle.std.proofs.Common.{arith}
use Rattle.std.proofs.lemmas.Int.{ints}
use Rattle.std.specs.Prelude.{pos, ◌-ℤ◌}
use Rattle.jls_values.specs.Params.{CodingParameters}
use Rattle.jls_context.specs.Mode.{IsQuantizedGradient, quantized_gradient}
use Rattle.jls_interval.specs.Events.{Above, neighbours}
use Rattle.jls_interval.specs.CodeLengths.{AreLengths}
use Rattle.jls_interval.specs.Place.{above_of}
use Rattle.jls_interval.proofs.LineSamples.{taken_more, taken_none, taken_same, begun_same}
use Rattle.jls_interval.proofs.line_samples.take_samples_of.Goals as goal

-- an event has begun: nothing is taken
pub returns-in_default : goal.returns-in_default
returns-in_default c =
    record {
      taken = taken_none c.args.place.now.component (above_of c.args.place.now) c.args.reader.now c.args.chunk.now;
      width = refl;
      parameters = refl;
    }

pub returns-in-Begun-clause-taken : goal.returns-in-Begun-clause-taken
returns-in-Begun-clause-taken c =
    let i = c.columns.invariant in let s = c.in-Begun.ensures.prefix in
    begun_same c.args.place.now.component (above_of c.args.place.now) c.args.reader.now c.columns.reader c.args.chunk.now c.columns.chunk
    c.take_sample.new.chunk c.columns.near c.in-Begun.code c.take_sample.new.coder s.0 s.1 i.open_event i.parameters i.near i.taking

pub returns-then-looked_for-gt1-clause-taken : goal.returns-then-looked_for-gt1-clause-taken
returns-then-looked_for-gt1-clause-taken c =
    let i = c.columns.invariant in let s = c.in-Begun.ensures.prefix in
    taken_same c.args.place.now.component (above_of c.args.place.now) c.args.reader.now c.columns.reader c.args.chunk.now c.columns.chunk
    c.fork-before.result c.take_sample.new.coder s.1 c.fork-before.ensures i.taking

pub returns-in-Other-clause-taken : goal.returns-in-Other-clause-taken
returns-in-Other-clause-taken c =
    let none = c.in-Other.ensures.prefix in
    taken_same c.args.place.now.component (above_of c.args.place.now) c.args.reader.now c.columns.reader c.args.chunk.now c.columns.chunk
    c.take_sample.new.chunk c.take_sample.new.coder none.0 none.1 c.columns.invariant.taking

pub returns-then-count-reader-clause-taken : goal.returns-then-count-reader-clause-taken
returns-then-count-reader-clause-taken c =
    let i = c.columns.invariant in let now = c.columns.reader in
    taken_more c.args.place.now.component (above_of c.args.place.now) c.args.reader.now now
    (record now { coder = c.take_sample.new.coder; line = c.push.new.self }) c.args.chunk.now c.columns.chunk c.take_sample.new.chunk
    c.columns.near c.in-Taken.value c.in-Taken.ensures.prefix i.open_event i.open_event refl c.in_ok-push-in-Taken.ensures.items
    i.parameters i.near i.columns i.taking

-- one sample more is taken, and the neighbours have moved along
pub columns-preserved : goal.columns-preserved
columns-preserved c =
    let i = c.columns.invariant in let now = c.columns.reader in let w : ℕ = now.width in let line : List ℕ = now.line.items in
    let line' : List ℕ = c.push.new.self.items in
    let up : Above = above_of c.args.place.now in let x : ℕ = c.len-count.result - 1 in let v : ℕ = c.in-Taken.value in
    let grown : line' ≡ line ++ v ∷ [] = c.in_ok-push-in-Taken.ensures.items in let a = length-append line (v ∷ []) in
    let b = ap length grown in
    let len : c.len-count.result ≡ length line' = omega (arith, c.len-count.ensures) in let at : x ≡ length line = omega arith in
    let room : x + 2 < w = omega arith in
    let at' : x + 1 ≡ length line' = omega arith in
    let next = c.neighbours_after-near.ensures.following w line at (i.near ∙ ap (neighbours w up line) (sym at)) room in
    let near = c.columns.near in let near' = c.neighbours_after-near.result in
    let same : to_z w32 (of_z w32 c.gradient-first.result) ≡ c.gradient-first.result = omega (arith, ints) in
    let rolled = c.neighbours_after-near.ensures.rolled in
    record {
      columns = omega arith;
      lengths = subst (λ (q : CodingParameters). AreLengths q c.args.reader.now.coder.lengths) (sym c.take_sample.ensures.parameters)
          i.lengths;
      width = i.width;
      parameters = c.take_sample.ensures.parameters ∙ i.parameters;
      open_event = i.open_event;
      near = next ∙ ap (λ z. neighbours w up z (x + 1)) (sym grown) ∙ ap (neighbours w up line') at';
      second = same ∙ c.gradient-first.ensures.value
          ∙ ap (λ (q : CodingParameters). quantized_gradient q (pos near.rd -ℤ pos near.rb)) (sym c.take_sample.ensures.parameters)
          ∙ ap (λ z. quantized_gradient c.take_sample.new.coder.cells.parameters (pos z -ℤ pos near.rb)) (sym rolled.0)
          ∙ ap (λ z. quantized_gradient c.take_sample.new.coder.cells.parameters (pos near'.rb -ℤ pos z)) (sym rolled.1);
      step = subst IsQuantizedGradient (sym same) c.gradient-first.ensures.step;
      taking = taken_more c.args.place.now.component up c.args.reader.now now
          (record now { coder = c.take_sample.new.coder; line = c.push.new.self }) c.args.chunk.now c.columns.chunk c.take_sample.new.chunk
          c.columns.near v c.in-Taken.ensures.prefix i.open_event i.open_event refl grown i.parameters i.near (omega arith) i.taking;
    }
