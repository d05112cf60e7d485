-- The pieces of scan data whose marks are those of numbers that rise by one to eight each.
use Rattle.std.proofs.Common.{◌≡◌, ℕ, ◌+◌, ◌<◌, ◌≤◌, true, List, [], ◌∷◌, map, refl, sym, ap, subst, ◌∙◌, arith, inl, inr}
use Rattle.std.specs.Prelude.{nat_lt}
use Rattle.std.specs.List.{AllByRecursion, Contains, zip}
use Rattle.std.proofs.lemmas.Bool.Decides.{nat_tests}
use Rattle.jls_marker.specs.Scan.{intervals}
use Rattle.jls_copy.specs.Numbers.{PieceNumber, Interval, next_number, number_after, given_last, RiseByEightAtMost, mark_before}
use Rattle.jls_copy.specs.Numbers.{numbers_after}
use Rattle.jls_copy.specs.Pieces.{value_of}
use Rattle.jls_copy.proofs.NumbersGiven.{number_given_back}
use Rattle.jls_copy_laws.specs.CopyScans.{ScanPiece, ScanWithData}
use Rattle.jls_headline.specs.Damaged.{AreNumbers, numbered_pieces}
use Rattle.jls_headline.specs.LostIntervalLaws.{NumbersComeBack, NumberedPiecesGive}
use Rattle.jls_copy_laws.proofs.Members.{is_first, in_rest, none_in, first_or_rest}

-- a mark gives its number
after_is : (n number next : ℕ) → number < next → next ≤ number + 8 → next < n → number_after n number (mark_before next) ≡ Interval next
after_is n number next above near low =
    let back : next_number number (mark_before next) ≡ next = number_given_back number next above near in
    let under : nat_lt next n ≡ true = grind (arith, nat_tests) in
    rw (back, under) refl

come_back : (n last : ℕ) (numbers : List ℕ) → RiseByEightAtMost n last numbers
    → numbers_after n last (map mark_before numbers) ≡ map Interval numbers
come_back n last [] rise = refl
come_back n last (next ∷ numbers) rise =
    let is = after_is n last next rise.0 rise.1 rise.2 in
    ap (λ number. number ∷ numbers_after n (given_last last number) (map mark_before numbers)) is
    ∙ ap (λ later. Interval next ∷ later) (come_back n next numbers rise.3)

pub numbers_come_back : NumbersComeBack
numbers_come_back d numbers are =
    ap (numbers_after (intervals d.scan) 0) are.marks_are ∙ come_back (intervals d.scan) 0 numbers are.rise

-- Numbered pieces --------------------------------------------------------------------------------------------------

-- a piece under the number of an interval is one under that number
under_interval : (numbers : List ℕ) (pieces : List ScanPiece) (k : ℕ) (piece : ScanPiece)
    → Contains (zip (map Interval numbers) pieces) (Interval k, piece) → Contains (zip numbers pieces) (k, piece)
under_interval [] pieces k piece c = absurd (none_in (Interval k, piece) c)
under_interval (number ∷ numbers) [] k piece c = absurd (none_in (Interval k, piece) c)
under_interval (number ∷ numbers) (p ∷ pieces) k piece c =
    elim (first_or_rest (Interval k, piece) (Interval number, p) (zip (map Interval numbers) pieces) c) [
      | inl e ↦ subst (λ (x : ℕ × ScanPiece). Contains ((number, p) ∷ zip numbers pieces) x)
          (ap (λ (x : PieceNumber × ScanPiece). (value_of x.0, x.1)) e) (is_first (number, p) (zip numbers pieces))
      | inr later ↦ in_rest (k, piece) (number, p) (zip numbers pieces) (under_interval numbers pieces k piece later)
    ]

-- and the other way round
under_number : (numbers : List ℕ) (pieces : List ScanPiece) (k : ℕ) (piece : ScanPiece) → Contains (zip numbers pieces) (k, piece)
    → Contains (zip (map Interval numbers) pieces) (Interval k, piece)
under_number [] pieces k piece c = absurd (none_in (k, piece) c)
under_number (number ∷ numbers) [] k piece c = absurd (none_in (k, piece) c)
under_number (number ∷ numbers) (p ∷ pieces) k piece c =
    elim (first_or_rest (k, piece) (number, p) (zip numbers pieces) c) [
      | inl e ↦ subst (λ (x : PieceNumber × ScanPiece). Contains ((Interval number, p) ∷ zip (map Interval numbers) pieces) x)
          (ap (λ (x : ℕ × ScanPiece). (Interval x.0, x.1)) e) (is_first (Interval number, p) (zip (map Interval numbers) pieces))
      | inr later ↦ in_rest (Interval k, piece) (Interval number, p) (zip (map Interval numbers) pieces)
          (under_number numbers pieces k piece later)
    ]

pub numbered_pieces_give : NumberedPiecesGive
numbered_pieces_give d numbers are r = (
  λ g. (
    g.0,
    g.1,
    under_interval (0 ∷ numbers) d.pieces g.0 g.1
        (subst (λ ns. Contains (zip (Interval 0 ∷ ns) d.pieces) (Interval g.0, g.1)) (numbers_come_back d numbers are) g.2),
    g.3,
  ),
  λ g. (
    g.0,
    g.1,
    subst (λ ns. Contains (zip (Interval 0 ∷ ns) d.pieces) (Interval g.0, g.1)) (sym (numbers_come_back d numbers are))
        (under_number (0 ∷ numbers) d.pieces g.0 g.1 g.2),
    g.3,
  ),
)

-- Numbers of intervals -----------------------------------------------------------------------------------------

-- each number is that of an interval, where the first is
all_low : (n number : ℕ) (numbers : List ℕ) → number < n → RiseByEightAtMost n number numbers
    → AllByRecursion (λ k. k < n) (number ∷ numbers)
all_low n number [] low rise = (low, tt)
all_low n number (next ∷ numbers) low rise = (low, all_low n next numbers rise.2 rise.3)

low_in_zip : (n : ℕ) (numbers : List ℕ) (pieces : List ScanPiece) (k : ℕ) (piece : ScanPiece) → AllByRecursion (λ k. k < n) numbers
    → Contains (zip numbers pieces) (k, piece) → k < n
low_in_zip n [] pieces k piece low c = absurd (none_in (k, piece) c)
low_in_zip n (number ∷ numbers) [] k piece low c = absurd (none_in (k, piece) c)
low_in_zip n (number ∷ numbers) (p ∷ pieces) k piece low c =
    elim (first_or_rest (k, piece) (number, p) (zip numbers pieces) c) [
      | inl e ↦ subst (λ (x : ℕ × ScanPiece). x.0 < n) e low.0
      | inr later ↦ low_in_zip n numbers pieces k piece low.1 later
    ]

pub number_low : (d : ScanWithData) (numbers : List ℕ) (k : ℕ) (piece : ScanPiece) → 1 ≤ intervals d.scan → AreNumbers d numbers
    → Contains (numbered_pieces d numbers) (k, piece) → k < intervals d.scan
number_low d numbers k piece some are c =
    low_in_zip (intervals d.scan) (0 ∷ numbers) d.pieces k piece (all_low (intervals d.scan) 0 numbers some are.rise) c
