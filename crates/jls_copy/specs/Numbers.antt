-- The numbers that restart markers give to the pieces after them. That the least number is taken, so that fewer than eight markers in
-- a row can be lost, is this project's choice; T.81 B.2.1 counts the markers modulo 8.
use Rattle.std.specs.Prelude.{◌≡◌, ℕ, ◌+◌, ◌-◌, ◌<◌, ◌≤◌, ◌%◌, List, [], ◌∷◌, nat_lt, if◌then◌else◌}

-- Interval i, if it is not the last, is closed by the mark i mod 8. After the mark m, where the number `last` was given last, the piece
-- has this number: the least one above `last` whose interval follows one that m closes (T.81 B.2.1)
pub record IsNextNumber (last m number : ℕ) : Type 0 where
  pub above : last < number
  pub mark : (number - 1) % 8 ≡ m
  pub least : (other : ℕ) → last < other → (other - 1) % 8 ≡ m → number ≤ other

-- the number of the piece after the mark m, where the number `last` was given last: the least one above `last` from which m is one less,
-- modulo 8, if m is at most 7 (T.81 B.2.1)
abbrev pub next_number : ℕ → ℕ → ℕ
next_number last m = last + 1 + (m + 8 - last % 8) % 8

-- the number of a piece: that of an interval of its scan, or one beyond the last interval (T.81 B.2.1)
pub data PieceNumber : Type 0 where
  Interval : ℕ → PieceNumber
  BeyondLast : ℕ → PieceNumber

-- a number in a scan of so many intervals (T.81 B.2.1)
abbrev pub numbered : ℕ → ℕ → PieceNumber
numbered intervals number = if nat_lt number intervals then Interval number else BeyondLast number

-- the number of the piece after the mark m in a scan of so many intervals, where `last` was given last (T.81 B.2.1)
abbrev pub number_after : ℕ → ℕ → ℕ → PieceNumber
number_after intervals last m = numbered intervals (next_number last m)

-- the number given last, after a piece of this number: one beyond the last interval isn't given (T.81 B.2.1)
abbrev pub given_last : ℕ → PieceNumber → ℕ
given_last last (Interval number) = number
given_last last (BeyondLast number) = last

-- the numbers that these marks give, one after the other, where `last` was given last (T.81 B.2.1)
abbrev pub numbers_after : ℕ → ℕ → List ℕ → List PieceNumber
numbers_after intervals last [] = []
numbers_after intervals last (m ∷ marks) =
    let number = number_after intervals last m in number ∷ numbers_after intervals (given_last last number) marks

-- numbers of intervals that rise by one to eight each, from `last` on (T.81 B.2.1)
abbrev pub RiseByEightAtMost : ℕ → ℕ → List ℕ → Type 0
RiseByEightAtMost intervals last [] = Unit {0}
RiseByEightAtMost intervals last (number ∷ more) =
    (last < number) × (number ≤ last + 8) × (number < intervals) × RiseByEightAtMost intervals number more

-- the mark before the piece of this number (T.81 B.2.1)
abbrev pub mark_before : ℕ → ℕ
mark_before number = (number - 1) % 8
