-- The numbers of missing and of disputed lines are those that the entries say.
use Rattle.std.proofs.Common.{◌≡◌, ℕ, zero, suc, ◌+◌, ◌-◌, ◌<◌, ◌≤◌, Bool, true, false, cond, ◌&&◌, ◌||◌, List, [], ◌∷◌, refl, ap, sym, ◌∙◌}
use Rattle.std.proofs.Common.{arith, add-zero}
use Rattle.std.specs.Prelude.{◌==◌, nat_lt, not}
use Rattle.std.specs.List.{range_with_len, prefix_len, flat_map, sum_by}
use Rattle.std.proofs.lemmas.Bool.{and_parts}
use Rattle.std.proofs.lemmas.Bool.Decides.{nat_tests}
use Rattle.std.proofs.lemmas.List.Sums.{sum_by-append, sum_by-cons}
use Rattle.jls_partial.specs.Partial.{PartialPicture}
use Rattle.jls_report.specs.declared.entry.ReportEntry.TheVariants.{Missing, Disputed}
use Rattle.jls_report.specs.Lines.{components, lines, reading_count, is_missing, is_disputed}
use Rattle.jls_report.specs.Ranges.{missing_of, disputed_of, CountsAreOfEntries}
use Rattle.jls_report.specs.Report.{begins_range, missing_from, entries_at, component_entries}
use Rattle.jls_report.proofs.LongestRanges.{no_range, some_pass}

-- ---- sums

-- adding up over lists is adding up the sums of each
sum_over : {X : Type 0} (q : X → ℕ) (f : ℕ → List X) (ks : List ℕ) → sum_by q (flat_map f ks) ≡ sum_by (λ k. sum_by q (f k)) ks
sum_over q f [] = refl
sum_over q f (k ∷ ks) =
    sum_by-append q (f k) (flat_map f ks) ∙ ap (λ n. sum_by q (f k) + n) (sum_over q f ks) ∙ sym (sum_by-cons (λ i. sum_by q (f i)) k ks)

-- sums of the same numbers are the same
sum_same : (f g : ℕ → ℕ) → ((k : ℕ) → f k ≡ g k) → (ks : List ℕ) → sum_by f ks ≡ sum_by g ks
sum_same f g each [] = refl
sum_same f g each (k ∷ ks) =
    let here = each k in let rest = sum_same f g each ks in omega (arith, here, rest, sum_by-cons f k ks, sum_by-cons g k ks)

-- sums of numbers that are the same in a range are the same
sum_same_in : (f g : ℕ → ℕ) (a n : ℕ) → ((k : ℕ) → a ≤ k → k < a + n → f k ≡ g k) → sum_by f (range_with_len a n)
    ≡ sum_by g (range_with_len a n)
sum_same_in f g a zero each = refl
sum_same_in f g a (suc n) each =
    let here : f a ≡ g a = each a (omega arith) (omega arith) in
    let rest = sum_same_in f g (a + 1) n (λ k low high. each k (omega arith) (omega arith)) in
    omega (arith, here, rest, sum_by-cons f a (range_with_len (a + 1) n), sum_by-cons g a (range_with_len (a + 1) n))

-- ---- disputed lines

-- the entries at a line count one disputed line, if it is
one_disputed : (b d : Bool) (component first last line readings : ℕ) → (d ≡ true → b ≡ false)
    → sum_by disputed_of (cond b (Missing component first last ∷ []) (cond d (Disputed component line readings ∷ []) [])) ≡ cond d 1 0
one_disputed true true component first last line readings apart = let e = apart refl in absurd cc
one_disputed true false component first last line readings apart = refl
one_disputed false true component first last line readings apart = refl
one_disputed false false component first last line readings apart = refl

some_readings : (n : ℕ) → nat_lt 1 n ≡ true → 0 < n
some_readings n more = grind (arith, nat_tests, more)

-- the entries at a line count one disputed line, if it is
disputed_at : (p : PartialPicture) (component line : ℕ) → sum_by disputed_of (entries_at p component line)
    ≡ cond (is_disputed p component line) 1 0
disputed_at p component line =
    one_disputed (begins_range p component line) (is_disputed p component line) component line (line + missing_from p component line - 1)
    line (reading_count p component line)
    (λ more. no_range p component line (some_readings (reading_count p component line) more))

-- the entries of a component count its disputed lines
disputed_in : (p : PartialPicture) (component : ℕ) → sum_by disputed_of (component_entries p component)
    ≡ sum_by (λ line. cond (is_disputed p component line) 1 0) (lines p.shape)
disputed_in p component =
    sum_over disputed_of (entries_at p component) (lines p.shape)
    ∙ sum_same (λ line. sum_by disputed_of (entries_at p component line)) (λ line. cond (is_disputed p component line) 1 0)
    (disputed_at p component) (lines p.shape)

-- ---- missing lines

-- the entries at a line count the lines of the range that begins there
one_missing : (b d : Bool) (component line count readings : ℕ) → (b ≡ true → 0 < count)
    → sum_by missing_of (cond b (Missing component line (line + count - 1) ∷ []) (cond d (Disputed component line readings ∷ []) []))
    ≡ cond b count 0
one_missing true d component line count readings some = let more = some refl in
    let e : line + count - 1 + 1 - line ≡ count = omega (arith, more) in omega (arith, e)
one_missing false true component line count readings some = refl
one_missing false false component line count readings some = refl

-- the entries at a line count the missing lines from there on, if a range begins
missing_at : (p : PartialPicture) (component line : ℕ) → line < p.shape.height
    → sum_by missing_of (entries_at p component line) ≡ cond (begins_range p component line) (missing_from p component line) 0
missing_at p component line below =
    one_missing (begins_range p component line) (is_disputed p component line) component line (missing_from p component line)
    (reading_count p component line)
    (λ begins. some_pass (is_missing p component) line (p.shape.height - line) (omega (arith, below))
    (and_parts (is_missing p component line) (line == 0 || not (is_missing p component (line - 1))) begins).0)

module _ (missing : ℕ → Bool) (height : ℕ) where
  abbrev begins : ℕ → Bool
  begins line = missing line && (line == 0 || not (missing (line - 1)))

  abbrev run : ℕ → ℕ
  run line = prefix_len missing (range_with_len line (height - line))

  -- one line more: what the ranges count is what was counted so far, and one if the line is missing
  one_step : (here above : Bool) (more rest count : ℕ) → rest + cond here more 0 ≡ count
      → (cond (here && not above) (cond here (1 + more) 0) 0 + rest) + cond above (cond here (1 + more) 0) 0 ≡ cond here 1 0 + count
  one_step true true more rest count e = omega (arith, e)
  one_step true false more rest count e = omega (arith, e)
  one_step false true more rest count e = omega (arith, e)
  one_step false false more rest count e = omega (arith, e)

  after_one : (line : ℕ) → (line + 1 == 0 || not (missing (line + 1 - 1))) ≡ not (missing line)
  after_one line =
      let e : line + 1 - 1 ≡ line = omega arith in let z : (line + 1 == 0) ≡ false = grind (arith, nat_tests) in rw (e, z) refl

  -- the lines of ranges that begin from this line on, and those that a range above it has here
  all_runs : (line n : ℕ) (above : Bool) → line + n ≡ height → (line == 0 || not (missing (line - 1))) ≡ not above
      → sum_by (λ k. cond (begins k) (run k) 0) (range_with_len line n) + cond above (prefix_len missing (range_with_len line n)) 0
      ≡ sum_by (λ k. cond (missing k) 1 0) (range_with_len line n)
  all_runs line zero true whole is = refl
  all_runs line zero false whole is = refl
  all_runs line (suc n) above whole is =
      let left : height - line ≡ suc n = omega (arith, whole) in
      let rest = all_runs (line + 1) n (missing line) (omega (arith, whole)) (after_one line) in
      let step = one_step (missing line) above (prefix_len missing (range_with_len (line + 1) n)) _ _ rest in
      let first : cond (begins line) (run line) 0 ≡ cond (missing line && not above) (prefix_len missing (range_with_len line (suc n))) 0 =
      ap (λ b. cond (missing line && b) (run line) 0) is
      ∙ ap (λ m. cond (missing line && not above) (prefix_len missing (range_with_len line m)) 0) left in
      let sums = sum_by-cons (λ k. cond (begins k) (run k) 0) line (range_with_len (line + 1) n) in
      let counts = sum_by-cons (λ k. cond (missing k) 1 0) line (range_with_len (line + 1) n) in
      omega (arith, step, first, sums, counts)

-- the ranges of a component have as many lines as are missing in it
missing_in : (p : PartialPicture) (component : ℕ) → sum_by missing_of (component_entries p component)
    ≡ sum_by (λ line. cond (is_missing p component line) 1 0) (lines p.shape)
missing_in p component =
    let runs : sum_by (λ line. cond (begins_range p component line) (missing_from p component line) 0) (lines p.shape) + 0
    ≡ sum_by (λ line. cond (is_missing p component line) 1 0) (lines p.shape) =
    all_runs (is_missing p component) p.shape.height 0 p.shape.height false (omega arith) refl in
    sum_over missing_of (entries_at p component) (lines p.shape)
    ∙ sum_same_in (λ line. sum_by missing_of (entries_at p component line))
    (λ line. cond (begins_range p component line) (missing_from p component line) 0) 0 p.shape.height
    (λ line low high. missing_at p component line (omega (arith, high)))
    ∙ sym (add-zero _) ∙ runs

-- the law: the numbers of missing and disputed lines are those of the entries
pub counts_are_of_entries : CountsAreOfEntries
counts_are_of_entries p = (
  sym (sum_over missing_of (component_entries p) (components p.shape)
      ∙ sum_same (λ component. sum_by missing_of (component_entries p component))
      (λ component. sum_by (λ line. cond (is_missing p component line) 1 0) (lines p.shape)) (missing_in p) (components p.shape)),
  sym (sum_over disputed_of (component_entries p) (components p.shape)
      ∙ sum_same (λ component. sum_by disputed_of (component_entries p component))
      (λ component. sum_by (λ line. cond (is_disputed p component line) 1 0) (lines p.shape)) (disputed_in p) (components p.shape)),
)
