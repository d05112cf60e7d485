-- The data of a scan are cut where they were joined, and its pieces give the lines of its intervals.
use Rattle.std.proofs.Common.{◌≡◌, ℕ, zero, suc, ◌+◌, ◌-◌, ◌%◌, ◌<◌, true, List, [], ◌∷◌, ◌++◌, length, refl, sym, ◌∙◌, ap, append_assoc}
use Rattle.std.proofs.Common.{arith}
use Rattle.std.specs.Prelude.{nat_lt}
use Rattle.std.proofs.lemmas.List.{append-nil}
use Rattle.std.proofs.lemmas.Bool.{ne_eqb}
use Rattle.std.proofs.lemmas.Bool.Decides.{nat_tests}
use Rattle.std.specs.List.{flat_map, AllByRecursion, range_with_len}
use Rattle.jls_partial.specs.Reading.{Reading}
use Rattle.jls_marker.specs.Scan.{Scan, intervals}
use Rattle.jls_copy.specs.ScanData.{ClosedPiece, closed_bytes, IsClosedPiece, IsPiece}
use Rattle.jls_copy.specs.Numbers.{PieceNumber, Interval, BeyondLast, number_after, next_number}
use Rattle.jls_copy.specs.Pieces.{FoundPiece, PieceOutcome, Lines, IsOutcome, readings_of, AreOutcomes, readings, records, pieces_from}
use Rattle.jls_copy.specs.Pieces.{piece_begun}
use Rattle.jls_write.specs.Picture.{WholePicture}
use Rattle.jls_write.specs.Options.{WriteOptions}
use Rattle.jls_write.specs.WrittenFile.{interval_lines, interval_code, restart_marker, before_interval, marked_interval, scan_of}
use Rattle.jls_file_laws.specs.Covering.{interval_readings}
use Rattle.jls_file_laws.specs.FileLaw.{IsWritable}
use Rattle.jls_file_laws.proofs.WrittenPieces.{packed_is_piece, reads_lines, only_lines}

-- ---- the cut

module _ (pic : WholePicture) (s : Scan) where
  abbrev pub closed_from : ℕ → ℕ → List ClosedPiece
  closed_from k zero = []
  closed_from k (suc n) = record { piece = interval_code pic s k; fill = 0; mark = k % 8 } ∷ closed_from (k + 1) n

  abbrev pub last_from : ℕ → ℕ → List ℕ
  last_from k zero = interval_code pic s k
  last_from k (suc n) = last_from (k + 1) n

  marker_before : (k : ℕ) → before_interval pic s (k + 1) ≡ restart_marker k
  marker_before k =
      let back : k + 1 - 1 ≡ k = omega arith in
      rw (ne_eqb (k + 1) 0 (λ e. absurd (omega (arith, e)))) (ap restart_marker back)

  pub bytes_are : (k n : ℕ)
      → interval_code pic s k ++ flat_map (marked_interval pic s) (range_with_len (k + 1) n) ≡ flat_map closed_bytes (closed_from k n)
      ++ last_from k n
  bytes_are k zero = append-nil (interval_code pic s k)
  bytes_are k (suc n) =
      let later : List ℕ = flat_map (marked_interval pic s) (range_with_len (k + 1 + 1) n) in
      ap (λ t. interval_code pic s k ++ t) (append_assoc (before_interval pic s (k + 1)) (interval_code pic s (k + 1)) later)
      ∙ ap (λ t. interval_code pic s k ++ (t ++ (interval_code pic s (k + 1) ++ later))) (marker_before k)
      ∙ ap (λ t. interval_code pic s k ++ (restart_marker k ++ t)) (bytes_are (k + 1) n)
      ∙ sym (append_assoc (interval_code pic s k) (restart_marker k) (flat_map closed_bytes (closed_from (k + 1) n) ++ last_from (k + 1) n))
      ∙ sym (append_assoc (interval_code pic s k ++ restart_marker k) (flat_map closed_bytes (closed_from (k + 1) n)) (last_from (k + 1) n))

  pub each_closed : (k n : ℕ) → AllByRecursion IsClosedPiece (closed_from k n)
  each_closed k zero = tt
  each_closed k (suc n) =
      ((packed_is_piece s.params s.width (length s.components) (interval_lines pic s k), omega arith), each_closed (k + 1) n)

  pub last_piece : (k n : ℕ) → IsPiece (last_from k n)
  last_piece k zero = packed_is_piece s.params s.width (length s.components) (interval_lines pic s k)
  last_piece k (suc n) = last_piece (k + 1) n

-- the number after the mark of interval k is k + 1
number_is : (n k : ℕ) → k + 1 < n → number_after n k (k % 8) ≡ Interval (k + 1)
number_is n k h =
    let back : next_number k (k % 8) ≡ k + 1 = omega arith in
    let under : nat_lt (k + 1) n ≡ true = grind (arith, nat_tests, h) in
    rw (back, under) refl

-- ---- what the pieces give

-- a piece is that of an interval, and is judged to be the picture's lines of it and nothing else
abbrev pub GivesLines : WholePicture → FoundPiece → Type 0
GivesLines pic p =
    (k : ℕ) × (p.number ≡ Interval k) × IsOutcome p (Lines (interval_lines pic p.plan k))
    × ((out : PieceOutcome) → IsOutcome p out → out ≡ Lines (interval_lines pic p.plan k))

abbrev lines_at : WholePicture → Scan → PieceNumber → List Reading
lines_at pic s (Interval k) = interval_readings pic s k
lines_at pic s (BeyondLast k) = []

abbrev pub lines_of : WholePicture → FoundPiece → List Reading
lines_of pic p = lines_at pic p.plan p.number

module _ (pic : WholePicture) where
  one_gives : (p : FoundPiece) (k : ℕ) (n : PieceNumber) → p.number ≡ n → n ≡ Interval k
      → readings_of p (Lines (interval_lines pic p.plan k)) ≡ lines_of pic p
  one_gives p k n e f = let g = e ∙ f in rw g refl

  pub all_give : (ps : List FoundPiece) (os : List PieceOutcome) → AllByRecursion (GivesLines pic) ps → AreOutcomes ps os
      → (readings ps os ≡ flat_map (lines_of pic) ps) × (records ps os ≡ [])
  all_give [] [] h are = (refl, refl)
  all_give [] (out ∷ os) h are = absurd are
  all_give (p ∷ ps) [] h are = absurd are
  all_give (p ∷ ps) (out ∷ os) h are =
      let is = h.0.3 out are.0 in
      let rest = all_give ps os h.1 are.1 in
      (rw is (ap (λ t. t ++ readings ps os) (one_gives p h.0.0 p.number refl h.0.1) ∙ ap (λ t. lines_of pic p ++ t) rest.0), rw is rest.1)

  pub some_outcomes : (ps : List FoundPiece) → AllByRecursion (GivesLines pic) ps → (os : List PieceOutcome) × AreOutcomes ps os
  some_outcomes [] h = ([], tt)
  some_outcomes (p ∷ ps) h = let rest = some_outcomes ps h.1 in (Lines (interval_lines pic p.plan h.0.0) ∷ rest.0, (h.0.2, rest.1))

module _ (pic : WholePicture) (o : WriteOptions) (can : IsWritable pic o) (components : List ℕ)
    (inside : AllByRecursion (λ c. c < length pic.shape.ids) components) (index : ℕ) where
  abbrev s : Scan
  s = scan_of pic o components

  piece_gives : (k at : ℕ)
      → GivesLines pic (record { scan = index; plan = s; number = Interval k; offset = at; bytes = interval_code pic s k })
  piece_gives k at = (k, refl, reads_lines pic o can components inside k, only_lines pic o can components inside k)

  pub pieces_give : (k n at : ℕ) → k + n < intervals s
      → AllByRecursion (GivesLines pic) (pieces_from (piece_begun index s (Interval k) at) k (closed_from pic s k n) (last_from pic s k n))
  pieces_give k zero at h = (piece_gives k at, tt)
  pieces_give k (suc n) at h =
      let e = number_is (intervals s) k (omega (arith, h)) in
      (piece_gives k at, rw e (pieces_give (k + 1) n _ (omega (arith, h))))

  pub pieces_lines : (k n at : ℕ) → k + n < intervals s
      → flat_map (lines_of pic) (pieces_from (piece_begun index s (Interval k) at) k (closed_from pic s k n) (last_from pic s k n))
      ≡ flat_map (interval_readings pic s) (range_with_len k (suc n))
  pieces_lines k zero at h = refl
  pieces_lines k (suc n) at h =
      let e = number_is (intervals s) k (omega (arith, h)) in
      rw e (ap (λ t. interval_readings pic s k ++ t) (pieces_lines (k + 1) n _ (omega (arith, h))))
