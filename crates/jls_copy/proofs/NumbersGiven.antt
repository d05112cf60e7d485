-- The computed number is the least one, and marks with short gaps give the true numbers back.
use Rattle.std.proofs.Common.{◌≡◌, ℕ, ◌+◌, ◌-◌, ◌<◌, ◌≤◌, ◌%◌, true, false, [], ◌∷◌, refl, ap, arith}
use Rattle.std.specs.Prelude.{nat_lt}
use Rattle.std.proofs.lemmas.Bool.Decides.{nat_tests}
use Rattle.jls_copy.specs.Numbers.{next_number, Interval, mark_before}
use Rattle.jls_copy.specs.CutLaws.{NumbersAreLeast, LostMarksAreBridged, MarksBeyondChangeNothing}

pub number_above : (last m : ℕ) → last < next_number last m
number_above last m = omega arith

number_mark : (last m : ℕ) → m < 8 → (next_number last m - 1) % 8 ≡ m
number_mark last m below = omega arith

number_least : (last m other : ℕ) → m < 8 → last < other → (other - 1) % 8 ≡ m → next_number last m ≤ other
number_least last m other below above mark = omega arith

-- the law: the number that a mark gives is the least one above the last that fits it
pub numbers_are_least : NumbersAreLeast
numbers_are_least last m below = record {
  above = number_above last m;
  mark = number_mark last m below;
  least = λ other above mark. number_least last m other below above mark;
}

-- the mark before a number that is one to eight above the last gives that number
pub number_given_back : (last number : ℕ) → last < number → number ≤ last + 8 → next_number last (mark_before number) ≡ number
number_given_back last number above near = omega arith

-- the law: marks of which few in a row are lost give the true numbers
pub lost_marks_are_bridged : LostMarksAreBridged
lost_marks_are_bridged intervals last [] rise = refl
lost_marks_are_bridged intervals last (number ∷ more) rise =
    let given : next_number last (mark_before number) ≡ number = number_given_back last number rise.0 rise.1 in
    let below : nat_lt number intervals ≡ true = grind (arith, nat_tests) in
    rw (given, below) (ap (λ numbers. Interval number ∷ numbers) (lost_marks_are_bridged intervals number more rise.3))

pub marks_beyond_change_nothing : MarksBeyondChangeNothing
marks_beyond_change_nothing intervals last m marks beyond =
    let above : nat_lt (next_number last m) intervals ≡ false = grind (arith, nat_tests, beyond) in rw above refl
