use Rattle.std.proofs.Common.{◌≡◌, w32, to_z, of_z, ◌∙◌, arith}
use Rattle.std.proofs.lemmas.Int.{ints}
use Rattle.jls_context.proofs.cells.Cells.mode.Goals as goal

-- the mode by the three gradients is that of the sample
pub returns : goal.returns
returns c =
    let a : to_z w32 (of_z w32 c.gradient-first.result) ≡ c.gradient-first.result = omega (arith, ints) in
    let b : to_z w32 (of_z w32 c.gradient-second.result) ≡ c.gradient-second.result = omega (arith, ints) in
    let d : to_z w32 (of_z w32 c.gradient-third.result) ≡ c.gradient-third.result = omega (arith, ints) in
    c.mode_of.ensures (record { ra = c.args.ra; rb = c.args.rb; rc = c.args.rc; rd = c.args.rd })
    (record {
      first = a ∙ c.gradient-first.ensures.value;
      second = b ∙ c.gradient-second.ensures.value;
      third = d
          ∙ c.gradient-third.ensures.value;
    })
