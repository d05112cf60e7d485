-- Two and three copies of a few bytes, their parts and their splices, by hand.
use Rattle.std.proofs.Common.{◌≡◌, ℕ, zero, suc, ◌<◌, List, [], ◌∷◌, refl, arith}
use Rattle.std.specs.Prelude.{get_or}
use Rattle.jls_diff.specs.Parts.{Part, Same, Differ, made, AreParts, IsSplice, splice_of, splices}

-- a byte changed in the second copy, and a byte lost in it
abbrev first : List ℕ
first = 1 ∷ 2 ∷ 3 ∷ 4 ∷ 5 ∷ []

abbrev second : List ℕ
second = 1 ∷ 9 ∷ 3 ∷ 5 ∷ []

abbrev parts : List Part
parts = Same (1 ∷ []) ∷ Differ ((2 ∷ []) ∷ (9 ∷ []) ∷ []) ∷ Same (3 ∷ []) ∷ Differ ((4 ∷ []) ∷ [] ∷ []) ∷ Same (5 ∷ []) ∷ []

pub are_parts : AreParts (first ∷ second ∷ []) parts
are_parts = record { ways = (tt, (refl, (tt, (refl, (tt, tt))))); make = by }
  where
    by : (j : ℕ) → j < 2 → made j parts ≡ get_or (first ∷ second ∷ []) j []
    by zero l = refl
    by (suc zero) l = refl
    by (suc (suc j)) l = absurd (omega (arith, l))

pub four_splices : splices parts
    ≡ first ∷ (1 ∷ 2 ∷ 3 ∷ 5 ∷ []) ∷ (1 ∷ 9 ∷ 3 ∷ 4 ∷ 5 ∷ []) ∷ second ∷ []
four_splices = refl

pub one_of_choices : splice_of parts (0 ∷ 1 ∷ 0 ∷ 0 ∷ 1 ∷ []) ≡ 1 ∷ 9 ∷ 3 ∷ 4 ∷ 5 ∷ []
one_of_choices = refl

-- what no copy has whole: the second byte of the second copy, the fourth of the first
pub one_splice : IsSplice 2 parts (1 ∷ 9 ∷ 3 ∷ 4 ∷ 5 ∷ [])
one_splice = (
  0,
  omega arith,
  9 ∷ 3 ∷ 4 ∷ 5 ∷ [],
  refl,
  (
    1,
    omega arith,
    3 ∷ 4 ∷ 5 ∷ [],
    refl,
    (0, omega arith, 4 ∷ 5 ∷ [], refl, (0, omega arith, 5 ∷ [], refl, (0, omega arith, [], refl, refl))),
  ),
)

-- three copies, of which the third has other bytes and one more
abbrev of_three : List Part
of_three = Differ ((1 ∷ []) ∷ (1 ∷ []) ∷ (7 ∷ 8 ∷ []) ∷ []) ∷ Same (2 ∷ 3 ∷ []) ∷ []

pub of_three_are_parts : AreParts ((1 ∷ 2 ∷ 3 ∷ []) ∷ (1 ∷ 2 ∷ 3 ∷ []) ∷ (7 ∷ 8 ∷ 2 ∷ 3 ∷ []) ∷ []) of_three
of_three_are_parts = record { ways = (refl, (tt, tt)); make = by }
  where
    by : (j : ℕ) → j < 3 → made j of_three ≡ get_or ((1 ∷ 2 ∷ 3 ∷ []) ∷ (1 ∷ 2 ∷ 3 ∷ []) ∷ (7 ∷ 8 ∷ 2 ∷ 3 ∷ []) ∷ []) j []
    by zero l = refl
    by (suc zero) l = refl
    by (suc (suc zero)) l = refl
    by (suc (suc (suc j))) l = absurd (omega (arith, l))

-- equal ways are listed as often as they stand there
pub splices_of_three : splices of_three ≡ (1 ∷ 2 ∷ 3 ∷ []) ∷ (1 ∷ 2 ∷ 3 ∷ []) ∷ (7 ∷ 8 ∷ 2 ∷ 3 ∷ []) ∷ []
splices_of_three = refl
