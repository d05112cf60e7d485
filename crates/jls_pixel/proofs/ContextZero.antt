-- Context 0: that of a sample whose gradients are all 0.
use Rattle.std.proofs.Common.{◌≡◌, ℕ, true, false, ◌&&◌, refl, ap, ◌∙◌, arith}
use Rattle.std.specs.Prelude.{pos, ◌-ℤ◌, ◌==◌}
use Rattle.std.proofs.lemmas.Int.{ints}
use Rattle.std.proofs.lemmas.Bool.{and_parts, eqb-true}
use Rattle.jls_values.specs.Params.{CodingParameters}
use Rattle.jls_context.specs.declared.mode.Neighbours.{Neighbours}
use Rattle.jls_context.specs.Mode.{is_run_mode, quantized_gradient, is_negative, context}

at_zero : (p : CodingParameters) → quantized_gradient p (pos 0) ≡ pos 0
unfolding quantized_gradient
at_zero p = refl

no_gradient : (p : CodingParameters) (x y : ℕ) → x ≡ y → quantized_gradient p (pos x -ℤ pos y) ≡ pos 0
no_gradient p x y e = let z : pos x -ℤ pos y ≡ pos 0 = omega (arith, ints) in ap (quantized_gradient p) z ∙ at_zero p

zeros : (p : CodingParameters) (near : Neighbours) → quantized_gradient p (pos near.rd -ℤ pos near.rb) ≡ pos 0
    → quantized_gradient p (pos near.rb -ℤ pos near.rc) ≡ pos 0
    → quantized_gradient p (pos near.rc -ℤ pos near.ra) ≡ pos 0 → (context p near ≡ 0) × (is_negative p near ≡ false)
unfolding context is_negative
zeros p near x y z = (rw (x, y, z) refl, rw (x, y, z) refl)

pub zero_context : (p : CodingParameters) (near : Neighbours) → is_run_mode near ≡ true → (context p near
    ≡ 0) × (is_negative p near ≡ false)
zero_context p near h =
    let a = and_parts ((near.rd == near.rb) && (near.rb == near.rc)) (near.rc == near.ra) h in
    let b = and_parts (near.rd == near.rb) (near.rb == near.rc) a.0 in
    zeros p near (no_gradient p near.rd near.rb (eqb-true near.rd near.rb b.0))
    (no_gradient p near.rb near.rc (eqb-true near.rb near.rc b.1)) (no_gradient p near.rc near.ra (eqb-true near.rc near.ra a.1))
