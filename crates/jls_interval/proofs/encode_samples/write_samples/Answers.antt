use Rattle.std.proofs.Common.{◌≡◌, ℕ, ◌+◌, ◌<◌, List, [], ◌∷◌, get_or, length, w32, to_z, of_z, refl, sym, ap, ◌∙◌, subst, arith}
use Rattle.std.specs.Prelude.{pos, ◌-ℤ◌}
use Rattle.std.proofs.lemmas.Int.{ints}
use Rattle.jls_values.specs.Params.{CodingParameters}
use Rattle.jls_context.specs.Mode.{IsQuantizedGradient, AreGradients, quantized_gradient}
use Rattle.jls_context.specs.declared.mode.Neighbours.{Neighbours}
use Rattle.jls_interval.specs.Events.{Above, regular}
use Rattle.jls_interval.specs.Place.{above_of}
use Rattle.jls_interval.specs.Encoding.{Written, Writes, written_by}
use Rattle.jls_interval.proofs.EncodedLines.{columns_none, columns_sample, neighbours_next}
use Rattle.jls_interval.proofs.encode_samples.write_samples.Goals as goal

-- before the first sample nothing more is written
pub columns-init : goal.columns-init
columns-init c =
    let same : to_z w32 (of_z w32 c.gradient-second.result) ≡ c.gradient-second.result = omega (arith, ints) in
    record {
      from = omega arith;
      within = c.requires.column;
      parameters = refl;
      near = c.neighbours-near.ensures;
      second = same ∙ c.gradient-second.ensures.value;
      step = subst IsQuantizedGradient (sym same) c.gradient-second.ensures.step;
      written = columns_none c.args.encoder.now.coder.cells.parameters c.args.place.now.component (above_of c.args.place.now)
          c.args.line.now c.args.x (written_by c.args.encoder.now);
    }

-- one sample more is written, and the neighbours have moved along
pub columns-preserved : goal.columns-preserved
columns-preserved c =
    let i = c.columns.invariant in let up : Above = above_of c.args.place.now in let line : List ℕ = c.args.line.now in
    let w : ℕ = length line in let y : ℕ = c.columns.column in
    let room : y + 2 < w = c.columns-test.true in let p : CodingParameters = c.args.encoder.now.coder.cells.parameters in
    let p' : CodingParameters = c.write_regular.new.encoder.coder.cells.parameters in
    let near : Neighbours = c.columns.near in let near' : Neighbours = c.neighbours_after-near.result in let sample : ℕ = get_or line y 0 in
    let rolled = c.neighbours_after-near.ensures.rolled in
    let same : to_z w32 (of_z w32 c.gradient-first.result) ≡ c.gradient-first.result = omega (arith, ints) in
    let third : to_z w32 (of_z w32 c.gradient-third.result) ≡ c.gradient-third.result = omega (arith, ints) in
    let gradients : AreGradients c.columns.encoder.coder.cells.parameters near (to_z w32 (of_z w32 c.gradient-first.result))
    (to_z w32 c.columns.second-bits) (to_z w32 (of_z w32 c.gradient-third.result)) =
    record { first = same ∙ c.gradient-first.ensures.value; second = i.second; third = third ∙ c.gradient-third.ensures.value } in
    let old : Written = written_by c.args.encoder.now in let middle : Written = written_by c.columns.encoder in
    let new : Written = written_by c.write_regular.new.encoder in
    let writes : Writes p middle new (regular near sample ∷ []) =
    subst (λ q. Writes q middle new (regular near sample ∷ [])) i.parameters c.in_ok-write_regular-in-Regular.ensures.written in
    record {
      from = omega (arith, i.from);
      within = omega (arith, room);
      parameters = c.write_regular.ensures.parameters ∙ i.parameters;
      near = neighbours_next w up line y sample near near' (omega (arith, room)) refl i.near
          (λ before at is. c.neighbours_after-near.ensures.following w before at is room);
      second = same ∙ c.gradient-first.ensures.value
          ∙ ap (λ (q : CodingParameters). quantized_gradient q (pos near.rd -ℤ pos near.rb)) (sym c.write_regular.ensures.parameters)
          ∙ ap (λ z. quantized_gradient p' (pos z -ℤ pos near.rb)) (sym rolled.0)
          ∙ ap (λ z. quantized_gradient p' (pos near'.rb -ℤ pos z)) (sym rolled.1);
      step = subst IsQuantizedGradient (sym same) c.gradient-first.ensures.step;
      written = columns_sample p c.args.place.now.component up line c.args.x y old middle new near sample (omega (arith, room)) i.near
          (c.in-Regular.ensures near gradients).not_run refl i.written writes;
    }
