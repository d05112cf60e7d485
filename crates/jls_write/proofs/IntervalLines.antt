-- The lines of an interval, row by row, are what an interval's coder asks for.
use Rattle.std.proofs.Common.{◌≡◌, ℕ, zero, suc, ◌+◌, ◌-◌, ◌*◌, ◌^◌, ◌<◌, ◌≤◌, min, List, [], ◌∷◌, ◌++◌, length, map, refl, sym, ap, subst}
use Rattle.std.proofs.Common.{◌∙◌, arith}
use Rattle.std.specs.List.{All, AllByRecursion, flat_map, range_with_len}
use Rattle.std.proofs.Math.Nat.{mul-mod_left, mul-le-mul_left, mul-le-mul_right, mul_comm}
use Rattle.std.proofs.lemmas.List.{length-append}
use Rattle.std.proofs.lemmas.Bool.{ne_eqb}
use Rattle.jls_interval.specs.Lines.{IsLine}
use Rattle.jls_interval.specs.Fits.{FitsInterval}
use Rattle.jls_marker.specs.Scan.{row_count, intervals}
use Rattle.jls_marker.proofs.Intervals.{rows_some, rows_first}
use Rattle.jls_write.specs.Picture.{WholePicture, line_of}
use Rattle.jls_write.specs.Options.{WriteOptions, OptionsFit, components_of_scan, rows_of_interval}
use Rattle.jls_write.proofs.OneMore.{flat_map_from_more}
use Rattle.jls_write.specs.WrittenFile.{row_lines, interval_lines}
use Rattle.jls_write.specs.Parts.{scan_from, IsScanFrom}

map_is : {X Y : Type 0} (f : X → Y) (xs : List X) → map f xs ≡ flat_map (λ x. f x ∷ []) xs
map_is f [] = refl
map_is f (x ∷ xs) = ap (λ t. f x ∷ t) (map_is f xs)

-- one number more
pub map_more : {X : Type 0} (f : ℕ → X) (a k : ℕ) → a ≤ k
    → map f (range_with_len a (k + 1 - a)) ≡ map f (range_with_len a (k - a)) ++ f k ∷ []
map_more f a k low =
    map_is f (range_with_len a (k + 1 - a)) ∙ flat_map_from_more (λ x. f x ∷ []) a k low
    ∙ ap (λ t. t ++ f k ∷ []) (sym (map_is f (range_with_len a (k - a))))

pub all_by : (P : ℕ → Type 0) (xs : List ℕ) → All P xs → AllByRecursion P xs
all_by P [] h = tt
all_by P (x ∷ xs) h = (h 0 x (omega arith), all_by P xs (λ k d lt. h (suc k) d (omega arith)))

map_length : (f : ℕ → List ℕ) (xs : List ℕ) → length (map f xs) ≡ length xs
map_length f [] = refl
map_length f (x ∷ xs) = let e = map_length f xs in omega (arith, e)

pub length_range : (a n : ℕ) → length (range_with_len a n) ≡ n
length_range a zero = refl
length_range a (suc n) = let e = length_range (a + 1) n in omega (arith, e)

-- n rows have n times as many lines as components
pub rows_length : (pic : WholePicture) (components : List ℕ) (a n : ℕ)
    → length (flat_map (row_lines pic components) (range_with_len a n)) ≡ n * length components
rows_length pic components a zero = omega arith
rows_length pic components a (suc n) =
    let rest = rows_length pic components (a + 1) n in
    let both = length-append (row_lines pic components a) (flat_map (row_lines pic components) (range_with_len (a + 1) n)) in
    let one = map_length (λ c. line_of pic c a) components in
    let more : suc n * length components ≡ length components + n * length components = omega arith in
    omega (arith, rest, both, one, more)

-- no interval has more rows than the first
rows_most : (pic : WholePicture) (o : WriteOptions) (first count k : ℕ)
    → row_count (scan_from pic o first count) k ≤ rows_of_interval pic.shape o
rows_most pic o first count k =
    let most = rows_first pic.shape.height o.restart_interval k in
    subst (λ n. row_count (scan_from pic o first count) k ≤ n) (of_rows o.restart_interval) most
  where
    of_rows : (r : ℕ) → row_count (record (scan_from pic o first count) { restart_interval = r }) 0
        ≡ rows_of_interval pic.shape (record o { restart_interval = r })
    of_rows zero = refl
    of_rows (suc r) = let all : pic.shape.height - 0 * suc r ≡ pic.shape.height = omega arith in
        rw (ne_eqb (suc r) 0 (λ e. absurd (omega (arith, e)))) (ap (min (suc r)) all)

-- how many samples an interval has
pub samples_most : (pic : WholePicture) (o : WriteOptions) (first count k : ℕ) → OptionsFit pic o → count ≡ components_of_scan pic.shape o
    → length (interval_lines pic (scan_from pic o first count) k) * pic.shape.width ≤ 2 ^ 28
samples_most pic o first count k fit of_scan =
    let s = scan_from pic o first count in
    let lines : length (interval_lines pic s k) ≡ row_count s k * count = rows_length pic s.components _ _
    ∙ ap (λ n. row_count s k * n) (length_range first count) in
    let rows = rows_most pic o first count k in
    let most : pic.shape.width * count * row_count s k ≤ pic.shape.width * count * rows_of_interval pic.shape o =
    mul-le-mul_left (pic.shape.width * count) rows in
    let all : pic.shape.width * count * rows_of_interval pic.shape o ≤ 2 ^ 28 =
    subst (λ n. pic.shape.width * n * rows_of_interval pic.shape o ≤ 2 ^ 28) (sym of_scan) fit.interval in
    let turned : row_count s k * count * pic.shape.width ≡ pic.shape.width * count * row_count s k =
    turn (row_count s k) count pic.shape.width in
    rw (lines, turned) (omega (arith, most, all))
  where
    turn : (a b c : ℕ) → a * b * c ≡ c * b * a
    turn a b c = ap (λ n. n * c) (mul_comm a b) ∙ mul_comm (b * a) c ∙ omega arith

-- the lines of an interval of a scan fit an interval, if each is a line
pub lines_fit : (pic : WholePicture) (o : WriteOptions) (first count k : ℕ) (lines : List (List ℕ)) → IsScanFrom pic o first count
    → k < intervals (scan_from pic o first count)
    → lines ≡ interval_lines pic (scan_from pic o first count) k → AllByRecursion (IsLine o.params pic.shape.width) lines
    → FitsInterval o.params pic.shape.width count lines
lines_fit pic o first count k lines part within lines_are each =
    let s = scan_from pic o first count in
    let size : length lines ≡ row_count s k * count = ap length lines_are ∙ rows_length pic s.components _ _
    ∙ ap (λ n. row_count s k * n) (length_range first count) in
    let some : 1 ≤ row_count s k = rows_some pic.shape.height o.restart_interval k part.shape.height_at_least within in
    let one : 1 * count ≤ row_count s k * count = mul-le-mul_right count some in
    record {
      width_at_least = part.shape.width_at_least;
      components_at_least = part.some;
      components_at_most = let few = part.shape.ids_at_most in let in_frame = part.within in omega arith;
      lines_at_least = let some_component = part.some in omega (arith, size, one, some_component);
      whole_rows = rw size (mul-mod_left (row_count s k) count);
      each = each;
      samples_at_most = rw lines_are (samples_most pic o first count k part.fit part.of_scan);
    }
