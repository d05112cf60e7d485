-- The intervals of all scans of a written file are the picture's lines, each component and line once.
use Rattle.std.proofs.Common.{◌≡◌, ℕ, zero, suc, ◌+◌, ◌-◌, ◌*◌, ◌/◌, ◌<◌, ◌≤◌, ◌≢◌, Bool, true, false, List, [], ◌∷◌, ◌++◌, map, length}
use Rattle.std.proofs.Common.{refl, sym, ◌∙◌, ap, subst, append_assoc, arith, ◌⊎◌, inl, inr, length-append}
use Rattle.std.specs.Prelude.{◌==◌, min, get_or, if◌then◌else◌}
use Rattle.std.proofs.lemmas.List.{append-nil}
use Rattle.std.proofs.lemmas.Grind.{flat_map-append}
use Rattle.std.proofs.Math.Nat.{mod-add-div', mod-lt}
use Rattle.std.proofs.lemmas.List.FromFn.{length-range_with_len}
use Rattle.std.proofs.Math.Seq.{get_or-append_seam}
use Rattle.std.proofs.lemmas.Bool.{cases_eq, cases_Bool, cases_lt}
use Rattle.std.proofs.lemmas.Bool.Decides.{nat_tests}
use Rattle.std.specs.List.{flat_map, AllByRecursion, Contains, range_with_len}
use Rattle.jls_values.proofs.Lists.{all_append, all_at}
use Rattle.jls_partial.specs.Reading.{Reading, reading_of}
use Rattle.jls_marker.specs.Scan.{Scan, intervals}
use Rattle.jls_copy.specs.Pieces.{placed}
use Rattle.jls_write.specs.Picture.{WholePicture, line_of}
use Rattle.jls_write.specs.Options.{WriteOptions}
use Rattle.jls_write.specs.WrittenFile.{row_lines, scan_of}
use Rattle.jls_write.proofs.OneMore.{range-append}
use Rattle.jls_file_laws.specs.Covering.{row_readings, interval_readings, scan_readings, written_readings, count_at, IsLineOf}
use Rattle.jls_file_laws.specs.Covering.{AreThePicture, ContainsThePicture, IntervalsAreRows, IntervalsCover}

abbrev pub rows_from : WholePicture → List ℕ → ℕ → ℕ → List (List ℕ)
rows_from pic components row n = flat_map (row_lines pic components) (range_with_len row n)

-- the components of each scan
abbrev pub scan_components : ℕ → Bool → List (List ℕ)
scan_components n line = if line then range_with_len 0 n ∷ [] else map (λ c. c ∷ []) (range_with_len 0 n)

module _ (pic : WholePicture) where
  -- one row, from the component after these on
  placed_row : (all pre : List ℕ) (c : ℕ) (cs : List ℕ) (row : ℕ) (rest : List (List ℕ)) → all ≡ pre ++ (c ∷ cs)
      → placed all row (length pre) (map (λ x. line_of pic x row) (c ∷ cs) ++ rest) ≡ row_readings pic (c ∷ cs) row
      ++ placed all (row + 1) 0 rest
  placed_row all pre c [] row rest e =
      let at : get_or all (length pre) 0 ≡ c = ap (λ xs. get_or xs (length pre) 0) e ∙ get_or-append_seam pre c [] 0 in
      let n : length pre + 1 ≡ length all = sym (ap length e ∙ length-append pre (c ∷ [])) in
      let t : (length pre + 1 == length all) ≡ true = grind (arith, nat_tests, n) in
      rw (at, t) refl
  placed_row all pre c (d ∷ cs) row rest e =
      let at : get_or all (length pre) 0 ≡ c = ap (λ xs. get_or xs (length pre) 0) e ∙ get_or-append_seam pre c (d ∷ cs) 0 in
      let n : length pre + suc (suc (length cs)) ≡ length all = sym (ap length e ∙ length-append pre (c ∷ d ∷ cs)) in
      let ne : length pre + 1 ≢ length all = (λ z. omega (arith, n, z)) in
      let t : (length pre + 1 == length all) ≡ false = grind (arith, nat_tests, ne) in
      let l : length (pre ++ c ∷ []) ≡ length pre + 1 = length-append pre (c ∷ []) in
      let f : all ≡ (pre ++ c ∷ []) ++ (d ∷ cs) = e ∙ sym (append_assoc pre (c ∷ []) (d ∷ cs)) in
      rw (at, t) (ap (λ z. reading_of c row (line_of pic c row) ∷ z)
      (subst
      (λ i. placed all row i (map (λ x. line_of pic x row) (d ∷ cs) ++ rest) ≡ row_readings pic (d ∷ cs) row ++ placed all (row + 1) 0 rest)
      l (placed_row all (pre ++ c ∷ []) d cs row rest f)))

  -- rows of a scan with one component at least
  pub placed_rows : (c : ℕ) (cs : List ℕ) (row n : ℕ)
      → placed (c ∷ cs) row 0 (rows_from pic (c ∷ cs) row n) ≡ flat_map (row_readings pic (c ∷ cs)) (range_with_len row n)
  placed_rows c cs row zero = refl
  placed_rows c cs row (suc n) =
      placed_row (c ∷ cs) [] c cs row (rows_from pic (c ∷ cs) (row + 1) n) refl
      ∙ ap (λ t. row_readings pic (c ∷ cs) row ++ t) (placed_rows c cs (row + 1) n)

-- ranges side by side: n intervals of r rows from interval k on, of y rows in all
module _ {X : Type 0} (f : ℕ → List X) (r y : ℕ) where
  side_by_side : (k n : ℕ)
      → flat_map (λ i. flat_map f (range_with_len (i * r) (min r (y - i * r)))) (range_with_len k n)
      ≡ flat_map f (range_with_len (k * r) (min (n * r) (y - k * r)))
  side_by_side k zero = let e : min (0 * r) (y - k * r) ≡ 0 = omega arith in rw e refl
  side_by_side k (suc n) =
      let next : (k + 1) * r ≡ k * r + r = omega arith in
      let rest : flat_map (λ i. flat_map f (range_with_len (i * r) (min r (y - i * r)))) (range_with_len (k + 1) n)
      ≡ flat_map f (range_with_len (k * r + r) (min (n * r) (y - (k * r + r)))) = rw next at (side_by_side (k + 1) n) in
      ap (λ t. flat_map f (range_with_len (k * r) (min r (y - k * r))) ++ t) rest
      ∙ joined (cases_lt (y - k * r) r)
    where
      joined : (y - k * r < r) ⊎ (r ≤ y - k * r)
          → flat_map f (range_with_len (k * r) (min r (y - k * r)))
          ++ flat_map f (range_with_len (k * r + r) (min (n * r) (y - (k * r + r))))
          ≡ flat_map f (range_with_len (k * r) (min (suc n * r) (y - k * r)))
      joined (inl few) =
          let a : min r (y - k * r) ≡ y - k * r = omega arith in
          let b : min (n * r) (y - (k * r + r)) ≡ 0 = omega arith in
          let more : suc n * r ≡ n * r + r = omega arith in
          let c : min (suc n * r) (y - k * r) ≡ y - k * r = rw more (omega arith) in
          rw (a, b, c) (append-nil _)
      joined (inr many) =
          let a : min r (y - k * r) ≡ r = omega arith in
          let more : suc n * r ≡ n * r + r = omega arith in
          let c : min (suc n * r) (y - k * r) ≡ r + min (n * r) (y - (k * r + r)) = rw more (omega arith) in
          rw (a, c)
          (sym (ap (flat_map f) (range-append (k * r) r (min (n * r) (y - (k * r + r)))) ∙ flat_map-append f (range_with_len (k * r) r) _))

pub enough : (y r : ℕ) → 1 ≤ r → y ≤ ((y + r - 1) / r) * r
enough y r h = let a = mod-add-div' (y + r - 1) r in let b = mod-lt (y + r - 1) {m = r} (omega (arith, h)) in omega (arith, a, b, h)

pub same_map : {X Y : Type 0} (P : X → Type 0) (f g : X → List Y) → ((x : X) → P x → f x ≡ g x) → (xs : List X) → AllByRecursion P xs
    → flat_map f xs ≡ flat_map g xs
same_map P f g h [] a = refl
same_map P f g h (x ∷ xs) a = ap (λ t. t ++ flat_map f xs) (h x a.0) ∙ ap (λ t. g x ++ t) (same_map P f g h xs a.1)

all_true : {X : Type 0} (xs : List X) → AllByRecursion (λ x. Unit {0}) xs
all_true [] = tt
all_true (x ∷ xs) = (tt, all_true xs)

-- an interval's rows
interval_rows : (pic : WholePicture) (c : ℕ) (cs : List ℕ) (s : Scan) (k : ℕ) → s.components ≡ c ∷ cs → (s.restart_interval == 0) ≡ false
    → interval_readings pic s k
    ≡ flat_map (row_readings pic (c ∷ cs))
    (range_with_len (k * s.restart_interval) (min s.restart_interval (s.height - k * s.restart_interval)))
interval_rows pic c cs s k e t =
    rw (t, e) (placed_rows pic c cs (k * s.restart_interval) (min s.restart_interval (s.height - k * s.restart_interval)))

one_interval : (pic : WholePicture) (c : ℕ) (cs : List ℕ) (s : Scan) (k : ℕ) → s.components ≡ c ∷ cs → s.restart_interval ≡ 0
    → (s.restart_interval == 0) ≡ true
    → interval_readings pic s 0 ≡ flat_map (row_readings pic (c ∷ cs)) (range_with_len 0 s.height)
one_interval pic c cs s k e none t = rw (t, e, none) (placed_rows pic c cs 0 s.height)

how_many_one : (s : Scan) → (s.restart_interval == 0) ≡ true → intervals s ≡ 1
how_many_one s t = rw t refl

how_many : (s : Scan) → (s.restart_interval == 0) ≡ false → intervals s ≡ (s.height + s.restart_interval - 1) / s.restart_interval
how_many s t = rw t refl

scan_rows : (pic : WholePicture) (c : ℕ) (cs : List ℕ) (s : Scan) → s.components ≡ c ∷ cs
    → (s.restart_interval ≡ 0) ⊎ (s.restart_interval ≢ 0)
    → scan_readings pic s ≡ flat_map (row_readings pic (c ∷ cs)) (range_with_len 0 s.height)
scan_rows pic c cs s e (inl none) =
    let t : (s.restart_interval == 0) ≡ true = grind (arith, nat_tests, none) in
    ap (λ n. flat_map (interval_readings pic s) (range_with_len 0 n)) (how_many_one s t) ∙ append-nil _ ∙ one_interval pic c cs s 0 e none t
scan_rows pic c cs s e (inr some) =
    let t : (s.restart_interval == 0) ≡ false = grind (arith, nat_tests, some) in
    let r = s.restart_interval in
    let y = s.height in
    let n = (y + r - 1) / r in
    let all : min (n * r) (y - 0 * r) ≡ y = omega (arith, enough y r (omega (arith, some))) in
    let zero_r : 0 * r ≡ 0 = omega arith in
    ap (λ m. flat_map (interval_readings pic s) (range_with_len 0 m)) (how_many s t)
    ∙ same_map (λ k. Unit {0}) (interval_readings pic s)
    (λ k. flat_map (row_readings pic (c ∷ cs)) (range_with_len (k * r) (min r (y - k * r)))) (λ k u. interval_rows pic c cs s k e t)
    (range_with_len 0 n) (all_true _)
    ∙ side_by_side (row_readings pic (c ∷ cs)) r y 0 n ∙ ap (λ m. flat_map (row_readings pic (c ∷ cs)) (range_with_len (0 * r) m)) all
    ∙ ap (λ m. flat_map (row_readings pic (c ∷ cs)) (range_with_len m y)) zero_r

with_first : (pic : WholePicture) (s : Scan) (cs : List ℕ) → s.components ≡ cs → 1 ≤ length cs
    → scan_readings pic s ≡ flat_map (row_readings pic cs) (range_with_len 0 s.height)
with_first pic s [] e h = absurd (omega (arith, h))
with_first pic s (c ∷ cs) e h = scan_rows pic c cs s e (cases_eq s.restart_interval 0)

pub intervals_are_rows : IntervalsAreRows
intervals_are_rows pic s h = with_first pic s s.components refl h

-- Counting ----------------------------------------------------------------------------------------------

abbrev count_of : ℕ → List ℕ → ℕ
count_of n [] = 0
count_of n (x ∷ xs) = (if x == n then 1 else 0) + count_of n xs

count_append : (c y : ℕ) (xs ys : List Reading) → count_at c y (xs ++ ys) ≡ count_at c y xs + count_at c y ys
count_append c y [] ys = omega arith
count_append c y (x ∷ xs) ys = let e = count_append c y xs ys in rw e (omega arith)

count_of_append : (c : ℕ) (xs ys : List ℕ) → count_of c (xs ++ ys) ≡ count_of c xs + count_of c ys
count_of_append c [] ys = omega arith
count_of_append c (x ∷ xs) ys = let e = count_of_append c xs ys in rw e (omega arith)

module _ (pic : WholePicture) (c y : ℕ) where
  in_row : (row : ℕ) (cs : List ℕ) → (row == y) ≡ true → count_at c y (row_readings pic cs row) ≡ count_of c cs
  in_row row [] t = refl
  in_row row (x ∷ cs) t =
      let e = in_row row cs t in elim (cases_Bool (x == c)) [ inl h ↦ rw (h, t) (ap (λ n. 1 + n) e) | inr h ↦ rw h (ap (λ n. 0 + n) e) ]

  not_in_row : (row : ℕ) (cs : List ℕ) → (row == y) ≡ false → count_at c y (row_readings pic cs row) ≡ 0
  not_in_row row [] t = refl
  not_in_row row (x ∷ cs) t =
      let e = not_in_row row cs t in elim (cases_Bool (x == c)) [ inl h ↦ rw (h, t) (ap (λ n. 0 + n) e) | inr h ↦ rw h (ap (λ n. 0 + n) e) ]

  in_rows : (cs rows : List ℕ) → count_at c y (flat_map (row_readings pic cs) rows) ≡ count_of y rows * count_of c cs
  in_rows cs [] = omega arith
  in_rows cs (row ∷ rows) =
      let e = in_rows cs rows in
      count_append c y (row_readings pic cs row) (flat_map (row_readings pic cs) rows)
      ∙ elim (cases_Bool (row == y)) [
        | inl h ↦ (let a = in_row row cs h in rw (a, e, h) (omega arith))
        | inr h ↦ (let a = not_in_row row cs h in rw (a, e, h) (omega arith))
      ]

  in_scans : (rows : List ℕ) (scans : List (List ℕ))
      → count_at c y (flat_map (λ cs. flat_map (row_readings pic cs) rows) scans) ≡ count_of y rows * count_of c (flat_map (λ cs. cs) scans)
  in_scans rows [] = omega arith
  in_scans rows (cs ∷ scans) =
      let e = in_scans rows scans in
      let a = in_rows cs rows in
      let b = count_of_append c cs (flat_map (λ cs. cs) scans) in
      count_append c y (flat_map (row_readings pic cs) rows) _ ∙ rw (a, e, b) (omega arith)

none_below : (n a m : ℕ) → n < a → count_of n (range_with_len a m) ≡ 0
none_below n a zero h = refl
none_below n a (suc m) h =
    let t : (a == n) ≡ false = grind (arith, nat_tests, h) in
    let e = none_below n (a + 1) m (omega (arith, h)) in rw (t, e) refl

one_in_range : (n a m : ℕ) → a ≤ n → n < a + m → count_of n (range_with_len a m) ≡ 1
one_in_range n a zero h k = absurd (omega (arith, h, k))
one_in_range n a (suc m) h k = elim (cases_eq a n) [
  | inl e ↦ (let t : (a == n) ≡ true = grind (arith, nat_tests, e) in let z = none_below n (a + 1) m (omega (arith, e)) in rw (t, z) refl)
  | inr e ↦
      (let t : (a == n) ≡ false = grind (arith, nat_tests, e) in
      let z = one_in_range n (a + 1) m (omega (arith, h, e)) (omega (arith, k)) in rw (t, z) refl)
]

-- The scans ---------------------------------------------------------------------------------------------

singles : (xs : List ℕ) → flat_map (λ cs. cs) (map (λ c. c ∷ []) xs) ≡ xs
singles [] = refl
singles (x ∷ xs) = ap (λ t. x ∷ t) (singles xs)

all_components : (n : ℕ) (line : Bool) → flat_map (λ cs. cs) (scan_components n line) ≡ range_with_len 0 n
all_components n line = elim (cases_Bool line) [ inl h ↦ rw h (append-nil _) | inr h ↦ rw h (singles (range_with_len 0 n)) ]

pub all_below : (a m b : ℕ) → a + m ≤ b → AllByRecursion (λ i. i < b) (range_with_len a m)
all_below a zero b h = tt
all_below a (suc m) b h = (omega (arith, h), all_below (a + 1) m b (omega (arith, h)))

-- a scan's components: there are some, and each is one of the frame's
abbrev pub IsScanOf : ℕ → List ℕ → Type 0
IsScanOf n cs = (1 ≤ length cs) × (length cs ≤ n) × AllByRecursion (λ c. c < n) cs

single_scans : (a m n : ℕ) → a + m ≤ n → AllByRecursion (IsScanOf n) (map (λ c. c ∷ []) (range_with_len a m))
single_scans a zero n h = tt
single_scans a (suc m) n h = ((omega arith, omega (arith, h), (omega (arith, h), tt)), single_scans (a + 1) m n (omega (arith, h)))

one_scan : (n : ℕ) → 1 ≤ n → IsScanOf n (range_with_len 0 n)
one_scan n h = let e = length-range_with_len 0 n in (omega (arith, h, e), omega (arith, e), all_below 0 n n (omega arith))

pub scans_of : (n : ℕ) (line : Bool) → 1 ≤ n → AllByRecursion (IsScanOf n) (scan_components n line)
scans_of n true some = (one_scan n some, tt)
scans_of n false some = single_scans 0 n n (omega arith)

module _ (pic : WholePicture) where
  lines_of_row : (row : ℕ) (cs : List ℕ) → row < pic.shape.height → AllByRecursion (λ c. c < length pic.shape.ids) cs
      → AllByRecursion (IsLineOf pic) (row_readings pic cs row)
  lines_of_row row [] h a = tt
  lines_of_row row (c ∷ cs) h a = ((a.0, h, refl), lines_of_row row cs h a.1)

  rows_lines : (cs rows : List ℕ) → AllByRecursion (λ row. row < pic.shape.height) rows → AllByRecursion (λ c. c < length pic.shape.ids) cs
      → AllByRecursion (IsLineOf pic) (flat_map (row_readings pic cs) rows)
  rows_lines cs [] h a = tt
  rows_lines cs (row ∷ rows) h a =
      all_append (IsLineOf pic) (row_readings pic cs row) _ (lines_of_row row cs h.0 a) (rows_lines cs rows h.1 a)

  scans_lines : (rows : List ℕ) (scans : List (List ℕ)) → AllByRecursion (λ row. row < pic.shape.height) rows
      → AllByRecursion (IsScanOf (length pic.shape.ids)) scans
      → AllByRecursion (IsLineOf pic) (flat_map (λ cs. flat_map (row_readings pic cs) rows) scans)
  scans_lines rows [] h a = tt
  scans_lines rows (cs ∷ scans) h a =
      all_append (IsLineOf pic) (flat_map (row_readings pic cs) rows) _ (rows_lines cs rows h a.0.2) (scans_lines rows scans h a.1)

-- row by row in each scan
pub written_rows : (pic : WholePicture) (o : WriteOptions) → 1 ≤ length pic.shape.ids
    → written_readings pic o ≡ flat_map (λ cs. flat_map (row_readings pic cs) (range_with_len 0 pic.shape.height))
    (scan_components (length pic.shape.ids) o.line)
written_rows pic o some =
    same_map (IsScanOf (length pic.shape.ids)) (λ cs. scan_readings pic (scan_of pic o cs))
    (λ cs. flat_map (row_readings pic cs) (range_with_len 0 pic.shape.height))
    (λ cs h. intervals_are_rows pic (scan_of pic o cs) h.0) (scan_components (length pic.shape.ids) o.line)
    (scans_of (length pic.shape.ids) o.line some)

pub intervals_cover : IntervalsCover
intervals_cover pic o some =
    let n = length pic.shape.ids in
    let y = pic.shape.height in
    let lines : AllByRecursion (IsLineOf pic) (written_readings pic o) =
    rw (written_rows pic o some)
    (scans_lines pic (range_with_len 0 y) (scan_components n o.line) (all_below 0 y y (omega arith)) (scans_of n o.line some)) in
    record {
      each = lines;
      once = λ c l h k.
          ap (count_at c l) (written_rows pic o some) ∙ in_scans pic c l (range_with_len 0 y) (scan_components n o.line)
          ∙ (let a = all_components n o.line in let b = one_in_range c 0 n (omega arith) (omega (arith, h)) in
          let d = one_in_range l 0 y (omega arith) (omega (arith, k)) in rw (a, b, d) refl);
    }

-- What a list of readings contains --------------------------------------------------------------------------

abbrev Has : ℕ → ℕ → List Reading → Type 0
Has c y rs = (q : Reading) × Contains rs q × (q.component ≡ c) × (q.line ≡ y)

has_more : (c y : ℕ) (r : Reading) (rs : List Reading) → Has c y rs → Has c y (r ∷ rs)
has_more c y r rs (q, (k, l, e), a, b) = (q, (suc k, omega (arith, l), e), a, b)

found_in : (c y : ℕ) (r : Reading) (rs : List Reading) → count_at c y (r ∷ rs) ≢ 0 → (count_at c y rs ≢ 0 → Has c y rs)
    → (r.component ≡ c) ⊎ (r.component ≢ c) → (r.line ≡ y) ⊎ (r.line ≢ y) → Has c y (r ∷ rs)
found_in c y r rs h later (inl a) (inl b) = (r, (0, omega arith, refl), a, b)
found_in c y r rs h later (inr a) b =
    let t : (r.component == c) ≡ false = grind (arith, nat_tests, a) in
    has_more c y r rs (later (λ z. h (rw t (ap (λ n. 0 + n) z))))
found_in c y r rs h later (inl a) (inr b) =
    let t : (r.component == c) ≡ true = grind (arith, nat_tests, a) in
    let u : (r.line == y) ≡ false = grind (arith, nat_tests, b) in
    has_more c y r rs (later (λ z. h (rw (t, u) (ap (λ n. 0 + n) z))))

-- where a line of a component is counted, a reading has it
found : (c y : ℕ) (rs : List Reading) → count_at c y rs ≢ 0 → Has c y rs
found c y [] h = absurd (h refl)
found c y (r ∷ rs) h = found_in c y r rs h (λ k. found c y rs k) (cases_eq r.component c) (cases_eq r.line y)

reading_eq : (q r : Reading) → q.component ≡ r.component → q.line ≡ r.line → q.samples ≡ r.samples → q ≡ r
reading_eq q r a b c = let x : q ≡ reading_of r.component r.line r.samples = rw (sym a, sym b, sym c) refl in x

one_not_none : (n : ℕ) → n ≡ 1 → n ≢ 0
one_not_none n e z = omega (arith, e, z)

contained : (pic : WholePicture) (rs : List Reading) (are : AreThePicture pic rs) (r : Reading) → IsLineOf pic r → Contains rs r
contained pic rs are r (c, y, e) =
    let f = found r.component r.line rs (one_not_none _ (are.once r.component r.line c y)) in
    let is = all_at (IsLineOf pic) rs f.0 are.each f.1 in
    let same : f.0.samples ≡ r.samples = is.2 ∙ ap (λ n. line_of pic n f.0.line) f.2 ∙ ap (line_of pic r.component) f.3 ∙ sym e in
    subst (Contains rs) (reading_eq f.0 r f.2 f.3 same) f.1

pub contains_the_picture : ContainsThePicture
contains_the_picture pic rs are r = (all_at (IsLineOf pic) rs r are.each, contained pic rs are r)
