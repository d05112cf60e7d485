-- Runs that break off.
use mir.Val.{bool_byte}
use Rattle.std.proofs.Common.{◌≡◌, ℕ, zero, suc, ◌+◌, ◌-◌, ◌*◌, ◌/◌, ◌^◌, ◌<◌, ◌≤◌, Bool, false, eqb, ◌%◌, List, [], ◌∷◌, ◌++◌, refl, sym}
use Rattle.std.proofs.Common.{ap, ◌∙◌, subst, arith, append_assoc}
use Rattle.std.proofs.lemmas.List.{append-nil}
use Rattle.std.proofs.lemmas.Nat.{shl_below, shl-shr, pow_pos}
use Rattle.std.proofs.Math.Nat.{mul-le-mul_right, pow-succ'}
use Rattle.jls_bits.specs.Bits.{bits}
use Rattle.jls_bits.proofs.NumberBits.{bits_more, bits_split}
use Rattle.jls_interval.specs.Runs.{run_order, blocks}
use Rattle.jls_interval.specs.Reading.{NoRun, Taken}
use Rattle.jls_interval.specs.RunState.{IsRunState, RunAt}
use Rattle.jls_interval.specs.CutEventsOpen.{BeginsRun}
use Rattle.jls_interval.specs.declared.run_reader.RunState.{RunState}
use Rattle.jls_interval.specs.declared.run_reader.RunState.TheVariants.{Blocks, Count}
use Rattle.jls_interval.proofs.EventsApart.{j_small}
use Rattle.jls_interval.proofs.BlocksTaken.{taken_with}
use Rattle.jls_interval.proofs.RunSteps.{digit_taken, no_whole, counted, counted_long}
use Rattle.jls_interval.proofs.OpenEventBits.{broken_with}

module _ (r0 w0 : ℕ) (fed : List Bool) (r w : ℕ) where
  -- a count below the columns left, of which more bits follow
  goes_on : (n : ℕ) (b : Bool) (more : List Bool) → Taken r0 w0 (fed ++ b ∷ more) r w (false ∷ bits (run_order r) n) → n < 2 ^ run_order r
      → w ≤ w0 → n < w
      → BeginsRun r0 w0 fed
  goes_on n b more t small within short =
      let c = counted r0 w0 (fed ++ b ∷ more) r w (run_order r) n t refl small within short in
      record {
        count = w0 - w + n;
        short = c.0;
        cut = λ sample. record {
          missing = b;
          more_missing = more ++ sample;
          whole_is = sym (broken_with (blocks r0 (w0 - w + n)) [] sample) ∙ ap (λ z. z ++ sample) (sym c.1)
              ∙ append_assoc fed (b ∷ more) sample;
        };
      }

  -- the bits of full blocks, with columns left after them, are the first bits of some run
  pub blocks_go_on : IsRunState w0 (Blocks r w) → RunAt r0 w0 fed (Blocks r w) → BeginsRun r0 w0 fed
  blocks_go_on i t =
      let q = pow_pos (run_order r) in
      goes_on 0 false (bits (run_order r) 0) (taken_with r0 w0 fed r w [] t (false ∷ bits (run_order r) 0)) (omega arith) i.2 i.1

  module _ (have x : ℕ) (i : IsRunState w0 (Count r w have x)) (t : RunAt r0 w0 fed (Count r w have x)) where
    pub count_goes_on : x * 2 ^ (run_order r - have) < w → BeginsRun r0 w0 fed
    count_goes_on l =
        let d = run_order r - have in let n = x * 2 ^ d in let few = i.3 in
        let whole : have + d ≡ run_order r = omega arith in
        let fits : n < 2 ^ run_order r = subst (λ z. n < 2 ^ z) whole (shl_below x have d i.5) in
        let first : bits d n ≡ eqb (n / 2 ^ (d - 1) % 2) 1 ∷ bits (d - 1) n = bits_more d n (omega arith) in
        let parts : bits have x ++ bits d n ≡ bits (run_order r) n = ap (λ v. bits have v ++ bits d n) (sym (shl-shr x d))
        ∙ sym (bits_split have d n) ∙ ap (λ z. bits z n) whole in
        let after = taken_with r0 w0 fed r w (false ∷ bits have x) t (bits d n) in
        goes_on n (eqb (n / 2 ^ (d - 1) % 2) 1) (bits (d - 1) n)
        (subst (λ z. Taken r0 w0 (fed ++ z) r w (false ∷ bits (run_order r) n)) first
        (subst (λ z. Taken r0 w0 (fed ++ bits d n) r w (false ∷ z)) parts after)) fits i.2 l

regroup : (x y : ℕ) → x * (2 * y) ≡ 2 * x * y
regroup x y = omega arith

twice : (x d : ℕ) → x * 2 ^ suc d ≡ 2 * x * 2 ^ d
twice x d = ap (λ z. x * z) (pow-succ' 2 d) ∙ regroup x (2 ^ d)

more_times : (a b c : ℕ) → a * c ≤ (a + b) * c
more_times a b c = mul-le-mul_right c (omega arith)

-- a count that can only pass the columns left
pub count_too_long : (d r0 w0 : ℕ) (fed : List Bool) (r w have x : ℕ) → have + d ≡ run_order r → have ≤ 15 → r ≤ 31 → 0 < w → w ≤ w0
    → x < 2 ^ have → w ≤ x * 2 ^ d
    → Taken r0 w0 fed r w (false ∷ bits have x) → (more : List Bool) → NoRun r0 w0 (fed ++ more)
count_too_long zero r0 w0 fed r w have x whole most small some within fits long t more =
    let e : have ≡ run_order r = omega arith in counted_long r0 w0 fed r w have x t e fits some (omega arith) more
count_too_long (suc d) r0 w0 fed r w have x whole most small some within fits long t [] =
    let j = j_small r in
    subst (NoRun r0 w0) (sym (append-nil fed))
    (no_whole r0 w0 fed (Count r w have x) (small, some, within, omega arith, omega arith, fits) t)
count_too_long (suc d) r0 w0 fed r w have x whole most small some within fits long t (b ∷ more) =
    let j = j_small r in let n = digit_taken r0 w0 fed r w have x t b fits in
    let double : x * 2 ^ suc d ≡ 2 * x * 2 ^ d = twice x d in
    let grows : 2 * x * 2 ^ d ≤ (2 * x + bool_byte b) * 2 ^ d = more_times (2 * x) (bool_byte b) (2 ^ d) in
    subst (NoRun r0 w0) (append_assoc fed (b ∷ []) more)
    (count_too_long d r0 w0 (fed ++ b ∷ []) r w (have + 1) (2 * x + bool_byte b) (omega arith) (omega arith) small some within n.1
    (omega (arith, double, grows)) n.0 more)

-- by the state of the run
abbrev pub Continues : RunState → Type 0
Continues (Blocks r w) = Unit {0}
Continues (Count r w have x) = x * 2 ^ (run_order r - have) < w

abbrev pub Passes : RunState → Type 0
Passes (Blocks r w) = ⊥
Passes (Count r w have x) = w ≤ x * 2 ^ (run_order r - have)

pub run_continues : (r0 w0 : ℕ) (fed : List Bool) (s : RunState) → IsRunState w0 s → RunAt r0 w0 fed s → Continues s
    → BeginsRun r0 w0 fed
run_continues r0 w0 fed (Blocks r w) i t g = blocks_go_on r0 w0 fed r w i t
run_continues r0 w0 fed (Count r w have x) i t g = count_goes_on r0 w0 fed r w have x i t g

-- bits of a run that passes the columns left are those of no run
pub run_passes : (r0 w0 : ℕ) (fed : List Bool) (s : RunState) → IsRunState w0 s → RunAt r0 w0 fed s → Passes s → (more : List Bool)
    → NoRun r0 w0 (fed ++ more)
run_passes r0 w0 fed (Blocks r w) i t g = absurd g
run_passes r0 w0 fed (Count r w have x) i t g =
    let few = i.3 in
    count_too_long (run_order r - have) r0 w0 fed r w have x (omega arith) (let m = i.4 in omega arith) i.0 i.1 i.2 i.5 g t
