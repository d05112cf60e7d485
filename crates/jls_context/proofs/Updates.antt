-- What an error changes in a cell.
use Rattle.std.proofs.Common.{◌≡◌, ℕ, ◌+◌, ◌/◌, refl, Bool, true, false, eqb, subst, ap, ◌∙◌}
use Rattle.std.specs.Prelude.{T, ℤ, pos, negsuc, neg_ℤ, ◌+ℤ◌, ◌-ℤ◌, ◌<ℤ◌, ◌≤ℤ◌, int_lt, int_le, unsigned_abs}
use Rattle.std.specs.Int.{int_div_euclid, int_max, int_min}
use Rattle.std.specs.Int.Signed.{le_z_yes, lt_z_yes, clash_ℤ}
use Rattle.std.proofs.lemmas.Bool.{eq-eqb, ne_eqb}
use Rattle.jls_context.specs.declared.regular.Cell.{Cell}
use Rattle.jls_context.specs.BiasSteps.{computed_bias, computed_correction}
use Rattle.jls_context.specs.Regular.{with_error, halved, counted, bias_computed, updated}
use Rattle.jls_context.proofs.BiasSteps.{cell_is}

holds : (b : Bool) → T b → b ≡ true
holds true h = refl
holds false h = absurd h

fails : (a b : ℤ) (t : Bool) → t ≡ int_le a b → b <ℤ a → t ≡ false
fails a b true is h = clash_ℤ h (le_z_yes (subst T is tt))
fails a b false is h = refl

not_above : (a b : ℤ) (t : Bool) → t ≡ int_lt a b → b ≤ℤ a → t ≡ false
not_above a b true is h = clash_ℤ (lt_z_yes (subst T is tt)) h
not_above a b false is h = refl

pub bias_low : (n : ℕ) (b : ℤ) → b ≤ℤ neg_ℤ (pos n) → computed_bias n b ≡ int_max (b +ℤ pos n) (pos 1 -ℤ pos n)
bias_low n b h = let low : int_le b (neg_ℤ (pos n)) ≡ true = holds _ h.le in rw low refl

pub bias_high : (n : ℕ) (b : ℤ) → neg_ℤ (pos n) <ℤ b → pos 0 <ℤ b → computed_bias n b ≡ int_min (b -ℤ pos n) (pos 0)
bias_high n b h i =
    let low : int_le b (neg_ℤ (pos n)) ≡ false = fails b (neg_ℤ (pos n)) _ refl h in let high : int_lt (pos 0) b ≡ true = holds _ i.lt in
    rw (low, high) refl

pub correction_low : (n : ℕ) (b c : ℤ) → b ≤ℤ neg_ℤ (pos n) → computed_correction n b c ≡ int_max (c -ℤ pos 1) (negsuc 127)
correction_low n b c h = let low : int_le b (neg_ℤ (pos n)) ≡ true = holds _ h.le in rw low refl

pub correction_high : (n : ℕ) (b c : ℤ) → neg_ℤ (pos n) <ℤ b → pos 0 <ℤ b → computed_correction n b c ≡ int_min (c +ℤ pos 1) (pos 127)
correction_high n b c h i =
    let low : int_le b (neg_ℤ (pos n)) ≡ false = fails b (neg_ℤ (pos n)) _ refl h in let high : int_lt (pos 0) b ≡ true = holds _ i.lt in
    rw (low, high) refl

-- a bias within its range
pub neither : (n : ℕ) (b c : ℤ) → neg_ℤ (pos n) <ℤ b → b ≤ℤ pos 0 → (computed_bias n b ≡ b) × (computed_correction n b c ≡ c)
neither n b c h i =
    let low : int_le b (neg_ℤ (pos n)) ≡ false = fails b (neg_ℤ (pos n)) _ refl h in
    let high : int_lt (pos 0) b ≡ false = not_above (pos 0) b _ refl i in (rw (low, high) refl, rw (low, high) refl)

-- before RESET
pub updated-grown : (reset : ℕ) (cell : Cell) (e : ℤ) (grown : Cell) → (cell.occurrences ≡ reset → ⊥)
    → grown.magnitudes ≡ cell.magnitudes + unsigned_abs e → grown.occurrences ≡ cell.occurrences + 1 → grown.bias ≡ cell.bias +ℤ e
    → grown.correction ≡ cell.correction
    → bias_computed grown ≡ updated reset cell e
unfolding updated
updated-grown reset cell e grown other m n b c =
    let test : eqb cell.occurrences reset ≡ false = ne_eqb cell.occurrences reset other in
    ap bias_computed (cell_is grown (counted (with_error cell e)) m n b c) ∙ rw test refl

-- at RESET
pub updated-aged : (reset : ℕ) (cell : Cell) (e : ℤ) (aged : Cell) → cell.occurrences ≡ reset
    → aged.magnitudes ≡ (cell.magnitudes + unsigned_abs e) / 2 → aged.occurrences ≡ cell.occurrences / 2 + 1 → aged.bias
    ≡ int_div_euclid (cell.bias +ℤ e) (pos 2) → aged.correction ≡ cell.correction
    → bias_computed aged ≡ updated reset cell e
unfolding updated
updated-aged reset cell e aged same m n b c =
    let test : eqb cell.occurrences reset ≡ true = eq-eqb cell.occurrences reset same in
    ap bias_computed (cell_is aged (counted (halved (with_error cell e))) m n b c) ∙ rw test refl
