-- The intervals of a scan: they part its lines, and what makes a scan of a frame's values.
use Rattle.std.proofs.Common.{◌≡◌, ℕ, zero, suc, ◌+◌, ◌-◌, ◌*◌, ◌/◌, ◌%◌, ◌<◌, ◌≤◌, ◌^◌, min, length, if◌then◌else◌, refl, sym, ◌∙◌, arith}
use Rattle.std.specs.Prelude.{◌==◌}
use Rattle.std.specs.List.{AllByRecursion}
use Rattle.std.proofs.Math.Nat.{div-mul-le_self, mul-le-mul_left, mul-le-mul_right}
use Rattle.std.proofs.lemmas.Nat.{le-div, div_below}
use Rattle.std.proofs.lemmas.Bool.{ne_eqb}
use Rattle.std.proofs.lemmas.Grind.{div_ceil_times}
use Rattle.jls_values.specs.Params.{AreCodingParameters}
use Rattle.jls_marker.specs.Scan.{Scan, intervals, row_count, IsScan, PartTheLines}

-- a quotient rounded up
pub ceil_is : (x y : ℕ) → 0 < y → x / y + min 1 (x % y) ≡ (x + y - 1) / y
ceil_is x y h =
    let q : ℕ = x / y + min 1 (x % y) in
    let t : (x ≤ q * y) × (q * y < x + y) = div_ceil_times x y h in
    let a : q ≤ (x + y - 1) / y = le-div q (x + y - 1) y h (omega (arith, t.1)) in
    let b : (x + y - 1) / y < suc q = div_below (x + y - 1) y (suc q) h (omega (arith, t.0)) in
    omega (arith, a, b)

-- of a height and Ri: the number of intervals, and the rows of one
abbrev pub count : ℕ → ℕ → ℕ
count h r = if r == 0 then 1 else (h + r - 1) / r

abbrev pub rows : ℕ → ℕ → ℕ → ℕ
rows h r k = if r == 0 then h else min r (h - k * r)

count-suc : (h r : ℕ) → count h (suc r) ≡ (h + suc r - 1) / suc r
count-suc h r = rw (ne_eqb (suc r) 0 (λ e. absurd (omega (arith, e)))) refl

rows-suc : (h r k : ℕ) → rows h (suc r) k ≡ min (suc r) (h - k * suc r)
rows-suc h r k = rw (ne_eqb (suc r) 0 (λ e. absurd (omega (arith, e)))) refl

-- an interval begins inside the picture
pub first_below : (h r k : ℕ) → 1 ≤ h → k < count h r → k * r < h
first_below h zero k one lt = omega arith
first_below h (suc r) k one lt =
    let n : ℕ = (h + suc r - 1) / suc r in
    let e = count-suc h r in
    let below : k < n = omega arith in
    let b : n * suc r ≤ h + suc r - 1 = div-mul-le_self (h + suc r - 1) (suc r) in
    let c : suc k * suc r ≤ n * suc r = mul-le-mul_right (suc r) below in
    omega arith

-- each interval has a row
pub rows_some : (h r k : ℕ) → 1 ≤ h → k < count h r → 1 ≤ rows h r k
rows_some h zero k one lt = one
rows_some h (suc r) k one lt =
    let e = rows-suc h r k in
    let a : k * suc r < h = first_below h (suc r) k one lt in
    omega arith

-- none is longer than the first
pub rows_first : (h r k : ℕ) → rows h r k ≤ rows h r 0
rows_first h zero k = omega arith
rows_first h (suc r) k = let e = rows-suc h r k in let f = rows-suc h r 0 in omega arith

-- a scan has an interval
pub some_interval : (h r : ℕ) → 1 ≤ h → 1 ≤ count h r
some_interval h zero one = omega arith
some_interval h (suc r) one =
    let e = count-suc h r in
    let a : 1 ≤ (h + suc r - 1) / suc r = le-div 1 (h + suc r - 1) (suc r) (omega arith) (omega arith) in
    omega arith

-- a scan has no more intervals than lines
pub count_at_most : (h r : ℕ) → 1 ≤ h → count h r ≤ h
count_at_most h zero one = one
count_at_most h (suc r) one =
    let e = count-suc h r in
    let a : h ≤ h * suc r = omega arith in
    let b : (h + suc r - 1) / suc r < suc h = div_below (h + suc r - 1) (suc r) (suc h) (omega arith) (omega arith) in
    omega arith

-- a row stands in the interval that its number by Ri gives
place : (j r row : ℕ) → j * suc r ≤ row → row < j * suc r + suc r → j ≡ row / suc r
place j r row a b =
    let c : j ≤ row / suc r = le-div j row (suc r) (omega arith) a in
    let d : row / suc r < suc j = div_below row (suc r) (suc j) (omega arith) (omega arith) in
    omega arith

-- each row is in some interval
pub each_row : (h r row : ℕ) → row < h → (k : ℕ) × (k < count h r) × ((k * r ≤ row) × (row < k * r + rows h r k))
each_row h zero row lt = (0, omega arith, (omega arith, omega arith))
each_row h (suc r) row lt =
    let k : ℕ = row / suc r in
    let a : k * suc r ≤ row = div-mul-le_self row (suc r) in
    let b : row < k * suc r + suc r = omega arith in
    let c : suc k ≤ (h + suc r - 1) / suc r = le-div (suc k) (h + suc r - 1) (suc r) (omega arith) (omega arith) in
    let e = count-suc h r in
    let f = rows-suc h r k in
    (k, omega arith, (a, omega arith))

-- a row is in one interval alone
pub one_interval : (h r row j k : ℕ) → j < count h r → k < count h r → (j * r ≤ row) × (row < j * r + rows h r j)
    → (k * r ≤ row) × (row < k * r + rows h r k) → j ≡ k
one_interval h zero row j k p q u v = omega arith
one_interval h (suc r) row j k p q u v =
    let e = rows-suc h r j in
    let f = rows-suc h r k in
    place j r row u.0 (omega (arith, u.1)) ∙ sym (place k r row v.0 (omega (arith, v.1)))

-- each row of an interval is one of the frame
pub row_within : (h r row k : ℕ) → 1 ≤ h → k < count h r → row < k * r + rows h r k → row < h
row_within h zero row k one lt u = omega arith
row_within h (suc r) row k one lt u =
    let e = rows-suc h r k in
    let a : k * suc r < h = first_below h (suc r) k one lt in
    omega arith

-- the intervals of a scan part its lines
pub part_the_lines : (s : Scan) → 1 ≤ s.height → PartTheLines s
part_the_lines s one = record {
  each = λ row lt. each_row s.height s.restart_interval row lt;
  once = λ row j k p q u v. one_interval s.height s.restart_interval row j k p q u v;
  within = λ row k p u. row_within s.height s.restart_interval row k one p u.1;
}

-- values in their ranges make a scan in its ranges
pub scan_is : (s : Scan) → AreCodingParameters s.params → 1 ≤ s.width → s.width < 2 ^ 16 → 1 ≤ s.height → s.height < 2 ^ 16
    → 1 ≤ length s.components → length s.components ≤ 4 → AllByRecursion (λ c. c < 256) s.components
    → s.width * length s.components * row_count s 0 ≤ 2 ^ 28 → IsScan s
scan_is s params w1 w h1 h c1 c4 bytes samples = record {
  params = params;
  width_at_least = w1;
  width_below = w;
  height_at_least = h1;
  height_below = h;
  components_at_least = c1;
  components_at_most = c4;
  components_are_bytes = bytes;
  some_interval = some_interval s.height s.restart_interval h1;
  intervals_below = let a : intervals s ≤ s.height = count_at_most s.height s.restart_interval h1 in omega (arith, a, h);
  first_rows = λ k lt. first_below s.height s.restart_interval k h1 lt;
  rows_at_least = λ k lt. rows_some s.height s.restart_interval k h1 lt;
  samples_at_most = λ k lt.
      let a : s.width * length s.components * row_count s k ≤ s.width * length s.components * row_count s 0 =
      mul-le-mul_left (s.width * length s.components) (rows_first s.height s.restart_interval k) in
      omega (arith, a, samples);
}
