-- Copies in which the pieces that have one line are trimmed.
use Rattle.std.proofs.Common.{◌≡◌, ℕ, zero, suc, ◌+◌, ◌*◌, ◌<◌, ◌≤◌, List, [], ◌∷◌, length, sym, ap, ◌∙◌, subst, arith, inl, inr}
use Rattle.std.proofs.Common.{length-append}
use Rattle.std.specs.Prelude.{◌==◌, get_or, Bool, true, false, cond}
use Rattle.std.specs.List.{Contains}
use Rattle.std.proofs.lemmas.Bool.{cases_eq, cases_Bool, eqb-true, eq-eqb}
use Rattle.jls_partial.specs.Reading.{Reading, reading_of}
use Rattle.jls_marker.specs.Scan.{Scan, first_row, row_count, HasRow}
use Rattle.jls_copy.specs.Pieces.{placed}
use Rattle.jls_write.specs.Picture.{WholePicture}
use Rattle.jls_write.specs.WrittenFile.{interval_lines}
use Rattle.jls_file_laws.specs.Covering.{IsLineOf}
use Rattle.jls_copy_laws.specs.CopyScans.{ScanPiece, ScanWithData}
use Rattle.jls_copy_laws.specs.Gives.{GivesLines, PieceGives}
use Rattle.jls_copy_laws.proofs.Members.{none_in, first_or_rest, all_at, all_from}
use Rattle.jls_headline.specs.Damaged.{numbered_pieces}
use Rattle.jls_headline.specs.ScanLaws.{IsScanUnder}
use Rattle.jls_headline.specs.LineLaws.{HasPictureLine, DamagedScanAt, TrimmedScanAt, TrimmedAtIsDamagedAt}
use Rattle.jls_headline.proofs.Placed.{placed_in_interval, first_among, are_lines_of}
use Rattle.jls_headline.proofs.ScanNumbers.{number_low}
use Rattle.jls_headline.proofs.ScansInRange.{scans_are_of_the_frame}
use Rattle.jls_headline.proofs.Trims.{trimmed_pieces_have_picture_lines}

-- lines that are placed from a row on stand in as many rows as they fill
rows_of_placed : (components : List ℕ) (lines : List (List ℕ)) (row place n : ℕ) → place < length components
    → length lines + place ≤ n * length components → (r : Reading) → Contains (placed components row place lines) r
    → (row ≤ r.line) × (r.line < row + n)
rows_of_placed components [] row place n low few r c = absurd (none_in r c)
rows_of_placed components (line ∷ lines) row place zero low few r c = absurd (omega (arith, few))
rows_of_placed components (line ∷ lines) row place (suc n) low few r c =
    elim (first_or_rest r (reading_of (get_or components place 0) row line) _ c) [
      | inl e ↦ (let at : row ≡ r.line = ap (λ (x : Reading). x.line) e in (omega (arith, at), omega (arith, at)))
      | inr later ↦ elim (cases_Bool (place + 1 == length components)) [
        | inl e ↦ (
            let full : place + 1 ≡ length components = eqb-true (place + 1) (length components) e in
            let more : suc n * length components ≡ n * length components + length components = omega arith in
            let rest = rows_of_placed components lines (row + 1) 0 n (omega (arith, low)) (omega (arith, few, full, more)) r
            (subst (λ (b : Bool). Contains (placed components (cond b (row + 1) row) (cond b 0 (place + 1)) lines) r) e later) in
            (omega (arith, rest.0), omega (arith, rest.1)))
        | inr e ↦ (
            rows_of_placed components lines row (place + 1) (suc n) (next e) (omega (arith, few)) r
            (subst (λ (b : Bool). Contains (placed components (cond b (row + 1) row) (cond b 0 (place + 1)) lines) r) e later))
      ]
    ]
  where
    next : (place + 1 == length components) ≡ false → place + 1 < length components
    next e = elim (cases_eq (place + 1) (length components)) [
      | inl same ↦ (let bad : true ≡ false = sym (yes same) ∙ e in absurd cc)
      | inr ne ↦ omega (arith, low, ne)
    ]
      where
        yes : place + 1 ≡ length components → (place + 1 == length components) ≡ true
        yes same = eq-eqb (place + 1) (length components) same

-- a piece gives no more lines than the interval has
few_lines : (s : Scan) (k : ℕ) (piece : ScanPiece) (lines : List (List ℕ)) → GivesLines s k piece lines
    → length lines ≤ row_count s k * length s.components
few_lines s k piece lines (inl reads) = omega (arith, reads.begins.are_lines.count_is)
few_lines s k piece lines (inr (cut, inl (whole, inl (code, first)))) =
    let all : length code.lines ≡ row_count s k * length s.components = code.are_lines.count_is in
    let parts : length code.lines ≡ length lines + length first.begins.others =
    ap length first.begins.lines_are ∙ length-append lines first.begins.others in
    omega (arith, all, parts)
few_lines s k piece lines (inr (cut, inl (whole, inr (none, e)))) =
    subst (λ (xs : List (List ℕ)). length xs ≤ row_count s k * length s.components) (sym e) (omega arith)
few_lines s k piece lines (inr (cut, inr (broken, e))) =
    subst (λ (xs : List (List ℕ)). length xs ≤ row_count s k * length s.components) (sym e) (omega arith)

-- so what it gives is of rows of the interval
rows_of_piece : (s : Scan) (k : ℕ) (piece : ScanPiece) (r : Reading) → 1 ≤ length s.components → PieceGives s k piece r → HasRow s k r.line
rows_of_piece s k piece r some (lines, gives, c) =
    let few = few_lines s k piece lines gives in
    rows_of_placed s.components lines (first_row s k) 0 (row_count s k) (omega (arith, some)) (omega (arith, few)) r c

module _ (pic : WholePicture) (component line : ℕ) where
  scan_at : (d : ScanWithData) → IsScanUnder pic.shape d.scan → TrimmedScanAt pic line d → DamagedScanAt pic component line d
  scan_at d under (numbers, are, each) = (
    numbers,
    are,
    all_from (HasPictureLine pic component line d.scan) (numbered_pieces d numbers) (λ p c samples g. (own p c samples g).2),
  )
    where
      own : (p : ℕ × ScanPiece) → Contains (numbered_pieces d numbers) p → (samples : List ℕ)
          → PieceGives d.scan p.0 p.1 (reading_of component line samples) → IsLineOf pic (reading_of component line samples)
      own p c samples g =
          let r = reading_of component line samples in
          let row = rows_of_piece d.scan p.0 p.1 r under.0.components_at_least g in
          let trimmed = all_at _ (numbered_pieces d numbers) p each c row in
          let e = trimmed_pieces_have_picture_lines pic d.scan p.0 p.1 under.0 trimmed g.0 g.1 in
          are_lines_of pic d.scan p.0 r under.0 under.1 (number_low d numbers p.0 p.1 under.0.some_interval are c)
          (first_among d.scan.components (length g.0) (interval_lines pic d.scan p.0) (first_row d.scan p.0) 0 r
          (subst (λ xs. Contains (placed_in_interval d.scan p.0 xs) r) e g.2))

pub trimmed_at_is_damaged_at : TrimmedAtIsDamagedAt
trimmed_at_is_damaged_at pic component line copy (scans, has, each) = (
  scans,
  has,
  all_from (DamagedScanAt pic component line) scans (λ d c.
      scan_at pic component line d
      (all_at (λ d. IsScanUnder pic.shape d.scan) scans d (scans_are_of_the_frame copy pic.shape scans has).1 c)
      (all_at (TrimmedScanAt pic line) scans d each c)),
)
