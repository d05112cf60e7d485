-- The scans of a file, counted as they are written.
use Rattle.std.proofs.Common.{◌≡◌, ℕ, zero, suc, ◌+◌, ◌≤◌, ◌<◌, Bool, true, false, cond, List, [], ◌∷◌, ◌++◌, length, map}
use Rattle.std.proofs.Common.{refl, sym, ap, subst, arith}
use Rattle.std.specs.List.{flat_map, range_with_len}
use Rattle.std.proofs.lemmas.Bool.{ne_eqb}
use Rattle.jls_values.specs.Shape.{IsShape}
use Rattle.jls_values.specs.Params.{AreCodingParameters}
use Rattle.jls_write.specs.Picture.{WholePicture}
use Rattle.jls_write.specs.Options.{WriteOptions, OptionsFit, components_of_scan}
use Rattle.jls_write.specs.WrittenFile.{components_of_scans, scan_of, scan_bytes, scans_bytes, marked_interval}
use Rattle.jls_write.specs.Parts.{scan_from, scan_count, IsScanFrom}

-- lists of one item each, made number by number
singles : (f : List ℕ → List ℕ) (a n : ℕ)
    → flat_map f (map (λ c. c ∷ []) (range_with_len a n)) ≡ flat_map (λ c. f (range_with_len c 1)) (range_with_len a n)
singles f a zero = refl
singles f a (suc n) = ap (λ t. f (a ∷ []) ++ t) (singles f (a + 1) n)

-- what is made of all scans, one after the other, is made of so many
pub made_of_scans : (of : List ℕ → List ℕ) (pic : WholePicture) (o : WriteOptions) → flat_map of (components_of_scans pic o)
    ≡ flat_map (λ first. of (range_with_len first (components_of_scan pic.shape o))) (range_with_len 0 (scan_count pic o))
made_of_scans of pic o = by_line o.line
  where
    by_line : (line : Bool)
        → flat_map of (cond line (range_with_len 0 (length pic.shape.ids) ∷ [])
        (map (λ c. c ∷ []) (range_with_len 0 (length pic.shape.ids))))
        ≡ flat_map (λ first. of (range_with_len first (cond line (length pic.shape.ids) 1)))
        (range_with_len 0 (cond line 1 (length pic.shape.ids)))
    by_line true = refl
    by_line false = singles of 0 (length pic.shape.ids)

-- the bytes of all scans are those of so many
pub scans_are : (pic : WholePicture) (o : WriteOptions)
    → scans_bytes pic o ≡ flat_map (λ first. scan_bytes pic (scan_from pic o first (components_of_scan pic.shape o)))
    (range_with_len 0 (scan_count pic o))
scans_are pic o = made_of_scans (λ components. scan_bytes pic (scan_of pic o components)) pic o

-- each of them can be written
pub scan_fits : (pic : WholePicture) (o : WriteOptions) (first : ℕ) → OptionsFit pic o → IsShape pic.shape → AreCodingParameters o.params
    → first < scan_count pic o → IsScanFrom pic o first (components_of_scan pic.shape o)
scan_fits pic o first fit shape params below = let both = by_line o.line below in
    record { fit = fit; shape = shape; params = params; some = both.0; within = both.1; of_scan = refl }
  where
    by_line : (line : Bool) → first < cond line 1 (length pic.shape.ids)
        → (1 ≤ cond line (length pic.shape.ids) 1) × (first + cond line (length pic.shape.ids) 1 ≤ length pic.shape.ids)
    by_line true below = let some = shape.ids_at_least in (omega arith, omega arith)
    by_line false below = (omega arith, omega arith)

-- something stands before each interval
pub marked_some : (pic : WholePicture) (o : WriteOptions) (first count k : ℕ)
    → 0 < length (marked_interval pic (scan_from pic o first count) k)
marked_some pic o first count zero = omega arith
marked_some pic o first count (suc k) = rw (ne_eqb (suc k) 0 (λ e. absurd (omega (arith, e)))) (omega arith)

-- each scan of a picture that can be written can be written too
pub part_fits : (pic : WholePicture) (o : WriteOptions) (first end count : ℕ) → OptionsFit pic o → IsShape pic.shape
    → AreCodingParameters o.params → end ≡ scan_count pic o → first < end → count ≡ components_of_scan pic.shape o
    → IsScanFrom pic o first count
part_fits pic o first end count fit shape params end_is below count_is =
    subst (IsScanFrom pic o first) (sym count_is) (scan_fits pic o first fit shape params (omega (arith, end_is, below)))
