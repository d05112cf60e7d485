-- Each line is settled, or one entry of the report speaks of it.
use Rattle.std.proofs.Common.{◌≡◌, ℕ, zero, suc, ◌+◌, ◌-◌, ◌<◌, ◌≤◌, Bool, true, false, cond, ◌&&◌, ◌||◌, ◌⊎◌, List, [], ◌∷◌, length, refl}
use Rattle.std.proofs.Common.{ap, sym, ◌∙◌, arith, inl, inr, add-zero, zero-add}
use Rattle.std.specs.Prelude.{◌==◌, nat_le, not}
use Rattle.std.specs.List.{range_with_len, flat_map, sum_by, count_by}
use Rattle.std.proofs.lemmas.Bool.{false≢true, and_parts, eqb-true, ne_eqb, leb-true, le-leb, cases_lt, and_from}
use Rattle.std.proofs.lemmas.List.Sums.{sum_by-append, sum_by-cons}
use Rattle.jls_partial.specs.Partial.{PartialPicture}
use Rattle.jls_partial.specs.PartialLaws.{eqb_itself}
use Rattle.jls_report.specs.declared.entry.ReportEntry.{ReportEntry}
use Rattle.jls_report.specs.declared.entry.ReportEntry.TheVariants.{Missing, Disputed}
use Rattle.jls_report.specs.Lines.{components, lines, reading_count, is_missing, is_settled_line, is_disputed}
use Rattle.jls_report.specs.Ranges.{IsLongestRange, EachLineOnce, speaks_of}
use Rattle.jls_report.specs.Report.{begins_range, missing_from, entries_at, component_entries, report_entries}
use Rattle.jls_report.proofs.LongestRanges.{range_is_longest, no_range, first_or}

-- ---- counting in a list that is made number by number

-- counting over lists is adding up the counts of each
count_over : {X : Type 0} (q : X → Bool) (f : ℕ → List X) (ks : List ℕ) → count_by q (flat_map f ks) ≡ sum_by (λ k. count_by q (f k)) ks
count_over q f [] = refl
count_over q f (k ∷ ks) = sum_by-append (λ x. cond (q x) 1 0) (f k) (flat_map f ks) ∙ ap (λ n. count_by q (f k) + n) (count_over q f ks)
    ∙ sym (sum_by-cons (λ i. count_by q (f i)) k ks)

-- numbers that are all 0 add up to 0
none_counts : (g : ℕ → ℕ) (a n : ℕ) → ((k : ℕ) → a ≤ k → k < a + n → g k ≡ 0) → sum_by g (range_with_len a n) ≡ 0
none_counts g a zero each = refl
none_counts g a (suc n) each =
    let here : g a ≡ 0 = each a (omega arith) (omega arith) in
    let rest : sum_by g (range_with_len (a + 1) n) ≡ 0 = none_counts g (a + 1) n (λ k low high. each k (omega arith) (omega arith)) in
    let is : sum_by g (range_with_len a (suc n)) ≡ g a + sum_by g (range_with_len (a + 1) n) = sum_by-cons g a (range_with_len (a + 1) n) in
    omega (arith, here, rest, is)

-- the sum of a function that is 0 at all numbers but one
one_counts : (g : ℕ → ℕ) (a n j : ℕ) → j < n → ((k : ℕ) → a ≤ k → k < a + n → (k ≡ a + j → ⊥) → g k ≡ 0)
    → sum_by g (range_with_len a n) ≡ g (a + j)
one_counts g a zero j below others = absurd (omega arith)
one_counts g a (suc n) zero below others =
    let rest : sum_by g (range_with_len (a + 1) n) ≡ 0 =
    none_counts g (a + 1) n (λ k low high. others k (omega arith) (omega arith) (λ e. omega arith)) in
    let here : g (a + 0) ≡ g a = ap g (add-zero a) in
    let is : sum_by g (range_with_len a (suc n)) ≡ g a + sum_by g (range_with_len (a + 1) n) = sum_by-cons g a (range_with_len (a + 1) n) in
    omega (arith, rest, here, is)
one_counts g a (suc n) (suc j) below others =
    let here : g a ≡ 0 = others a (omega arith) (omega arith) (λ e. omega arith) in
    let rest : sum_by g (range_with_len (a + 1) n) ≡ g (a + 1 + j) =
    one_counts g (a + 1) n j (omega arith) (λ k low high ne. others k (omega arith) (omega arith) (λ e. ne (omega arith))) in
    let same : g (a + 1 + j) ≡ g (a + suc j) = ap g (omega arith) in
    let is : sum_by g (range_with_len a (suc n)) ≡ g a + sum_by g (range_with_len (a + 1) n) = sum_by-cons g a (range_with_len (a + 1) n) in
    omega (arith, here, rest, same, is)

-- ---- counting the entry of a line

abbrev one_if : Bool → ℕ
one_if b = cond b 1 0

-- counting a list of at most two
count_two : {X : Type 0} (q : X → Bool) (b d : Bool) (x y : X)
    → count_by q (cond b (x ∷ []) (cond d (y ∷ []) [])) ≡ cond b (one_if (q x)) (cond d (one_if (q y)) 0)
count_two q true d x y = zero-add (cond (q x) 1 0)
count_two q false true x y = zero-add (cond (q y) 1 0)
count_two q false false x y = refl

-- entries of which none speaks of the line count as 0
not_counted : (b d s t : Bool) → (b ≡ true → s ≡ true → ⊥) → (d ≡ true → t ≡ true → ⊥) → cond b (one_if s) (cond d (one_if t) 0) ≡ 0
not_counted true d true t first second = absurd (first refl refl)
not_counted true d false t first second = refl
not_counted false true s true first second = absurd (second refl refl)
not_counted false true s false first second = refl
not_counted false false s t first second = refl

first_counted : (b d s t : Bool) → b ≡ true → s ≡ true → cond b (one_if s) (cond d (one_if t) 0) ≡ 1
first_counted b d s t is speaks = ap (λ v. cond v (one_if s) (cond d (one_if t) 0)) is ∙ ap one_if speaks

second_counted : (b d s t : Bool) → b ≡ false → d ≡ true → t ≡ true → cond b (one_if s) (cond d (one_if t) 0) ≡ 1
second_counted b d s t first is speaks =
    ap (λ v. cond v (one_if s) (cond d (one_if t) 0)) first ∙ ap (λ v. cond v (one_if t) 0) is ∙ ap one_if speaks

-- ---- what an entry speaks of

-- three tests that hold hold together
all_true : (b c d : Bool) → b ≡ true → c ≡ true → d ≡ true → (b && (c && d)) ≡ true
all_true true true d x y z = z
all_true true false d x y z = absurd cc
all_true false c d x y z = absurd cc

-- a range that covers a line, and of the same component
covers : (component line c first last : ℕ) → speaks_of component line (Missing c first last) ≡ true
    → (c ≡ component) × (first ≤ line) × (line ≤ last)
covers component line c first last speaks =
    let outer = and_parts (c == component) (nat_le first line && nat_le line last) speaks in
    let inner = and_parts (nat_le first line) (nat_le line last) outer.1 in
    (eqb-true c component outer.0, leb-true first line inner.0, leb-true line last inner.1)

-- an entry of a disputed line speaks of that line alone
is_line : (component line c l readings : ℕ) → speaks_of component line (Disputed c l readings) ≡ true → (c ≡ component) × (l ≡ line)
is_line component line c l readings speaks =
    let both = and_parts (c == component) (l == line) speaks in (eqb-true c component both.0, eqb-true l line both.1)

-- ---- where the range of a missing line begins

-- it is the only place from which all lines before this one are missing, and above which one is not
record BeginsAt (missing : ℕ → Bool) (line first : ℕ) : Type 0 where
  at_most : first ≤ line
  each : (k : ℕ) → first ≤ k → k < line → missing k ≡ true
  above : (k : ℕ) → k + 1 ≡ first → missing k ≡ false

-- of two such places neither is before the other
not_before : (missing : ℕ → Bool) (line f g : ℕ) → BeginsAt missing line f → BeginsAt missing line g → f < g → ⊥
not_before missing line f g at_f at_g less =
    let most = at_g.at_most in
    let before : g - 1 + 1 ≡ g = omega arith in
    false≢true (sym (at_g.above (g - 1) before) ∙ at_f.each (g - 1) (omega arith) (omega arith))

-- there is one such place
one_beginning : (missing : ℕ → Bool) (line f g : ℕ) → BeginsAt missing line f → BeginsAt missing line g → (f ≡ g → ⊥) → ⊥
one_beginning missing line f g at_f at_g differ =
    let low : f < g → ⊥ = not_before missing line f g at_f at_g in
    let high : g < f → ⊥ = not_before missing line g f at_g at_f in
    differ (omega arith)

-- there is such a place for each line
beginning : (missing : ℕ → Bool) (line : ℕ) → (first : ℕ) × BeginsAt missing line first
beginning missing zero = (
  zero,
  record { at_most = omega arith; each = λ k low high. absurd (omega arith); above = λ k e. absurd (omega arith) },
)
beginning missing (suc line) =
    elim (missing line) as (λ b. missing line ≡ b → (first : ℕ) × BeginsAt missing (suc line) first) [
      | true ↦ λ is. longer missing line is (beginning missing line)
      | false ↦ λ is. (
        suc line,
        record {
          at_most = omega arith;
          each = λ k low high. absurd (omega arith);
          above = λ k e. let same : k
              ≡ line = omega arith in ap missing same ∙ is;
        },
      )
    ] refl
  where
    longer : (missing : ℕ → Bool) (line : ℕ) → missing line ≡ true → ((first : ℕ) × BeginsAt missing line first)
        → (first : ℕ) × BeginsAt missing (suc line) first
    longer missing line is (first, at) = (
      first,
      record {
        at_most = let most = at.at_most in omega arith;
        each = λ k low high. reach k low high (cases_lt k line);
        above = at.above;
      },
    )
      where
        reach : (k : ℕ) → first ≤ k → k < suc line → (k < line) ⊎ (line ≤ k) → missing k ≡ true
        reach k low high (inl before) = at.each k low before
        reach k low high (inr after) = let same : k ≡ line = omega arith in ap missing same ∙ is

-- a range that covers a line begins where the range of the line begins
covering_begins : (p : PartialPicture) (component line first last : ℕ) → IsLongestRange p component first last → first ≤ line → line ≤ last
    → BeginsAt (is_missing p component) line first
covering_begins p component line first last range low high = record {
  at_most = low;
  each = λ k from before. range.each k from (omega arith);
  above = range.above;
}

-- ---- one line

module _ (p : PartialPicture) (component line : ℕ) (component_in : component < length p.shape.ids) (line_in : line < p.shape.height) where
  -- how many entries that begin with a line of a component speak of this one
  abbrev spoken : ℕ → ℕ → ℕ
  spoken c l = count_by (speaks_of component line) (entries_at p c l)

  abbrev last_of : ℕ → ℕ → ℕ
  last_of c l = l + missing_from p c l - 1

  abbrev range_at : ℕ → ℕ → ReportEntry
  range_at c l = Missing c l (last_of c l)

  abbrev dispute_at : ℕ → ℕ → ReportEntry
  dispute_at c l = Disputed c l (reading_count p c l)

  -- how often the entries at a line speak of another, by what stands there
  spoken_is : (c l : ℕ) → spoken c l
      ≡ cond (begins_range p c l) (one_if (speaks_of component line (range_at c l)))
      (cond (is_disputed p c l) (one_if (speaks_of component line (dispute_at c l))) 0)
  spoken_is c l = count_two (speaks_of component line) (begins_range p c l) (is_disputed p c l) (range_at c l) (dispute_at c l)

  abbrev Unspoken : ℕ → ℕ → Type 0
  Unspoken c l = (begins_range p c l ≡ true → speaks_of component line (range_at c l) ≡ true → ⊥)
      × (is_disputed p c l ≡ true → speaks_of component line (dispute_at c l) ≡ true → ⊥)

  -- entries that do not speak of the line count as 0
  unspoken : (c l : ℕ) → Unspoken c l → spoken c l ≡ 0
  unspoken c l silent = spoken_is c l
      ∙ not_counted (begins_range p c l) (is_disputed p c l) (speaks_of component line (range_at c l))
      (speaks_of component line (dispute_at c l)) silent.0 silent.1

  -- entries of another component do not speak of the line
  other_component : (c l : ℕ) → (c ≡ component → ⊥) → Unspoken c l
  other_component c l ne = (
    λ begins speaks. ne (covers component line c l (last_of c l) speaks).0,
    λ disputed speaks. ne (is_line component line c l (reading_count p c l) speaks).0,
  )

  -- all entries that speak of the line, if none but those that begin with this one do
  total : (l : ℕ) → l < p.shape.height → ((k : ℕ) → k < p.shape.height → (k ≡ l → ⊥) → Unspoken component k)
      → count_by (speaks_of component line) (report_entries p) ≡ spoken component l
  total l within others =
      let in_component : (c : ℕ) → count_by (speaks_of component line) (component_entries p c) ≡ sum_by (spoken c) (lines p.shape) =
      λ c. count_over (speaks_of component line) (entries_at p c) (lines p.shape) in
      let c_is : 0 + component ≡ component = omega arith in
      let l_is : 0 + l ≡ l = omega arith in
      count_over (speaks_of component line) (component_entries p) (components p.shape)
      ∙ one_counts (λ c. count_by (speaks_of component line) (component_entries p c)) 0 (length p.shape.ids) component component_in
      (λ c low high ne. in_component c
      ∙ none_counts (spoken c) 0 p.shape.height (λ k from below. unspoken c k (other_component c k (λ e. ne (omega arith)))))
      ∙ ap (λ c. count_by (speaks_of component line) (component_entries p c)) c_is
      ∙ in_component component
      ∙ one_counts (spoken component) 0 p.shape.height l within
      (λ k low high ne. unspoken component k (others k (omega arith) (λ e. ne (omega arith))))
      ∙ ap (spoken component) l_is

  -- a range that speaks of the line has it as a missing line
  is_missing_there : (l : ℕ) → l < p.shape.height → begins_range p component l ≡ true
      → speaks_of component line (range_at component l) ≡ true
      → BeginsAt (is_missing p component) line l × (is_missing p component line ≡ true)
  is_missing_there l within begins speaks =
      let range = range_is_longest p component l component_in within begins in
      let at = covers component line component l (last_of component l) speaks in
      (covering_begins p component line l (last_of component l) range at.1 at.2, range.each line at.1 at.2)

  -- no range speaks of a line that has readings
  read_line : 0 < reading_count p component line → (l : ℕ) → l < p.shape.height → begins_range p component l ≡ true
      → speaks_of component line (range_at component l) ≡ true → ⊥
  read_line some l within begins speaks =
      let none = eqb-true (reading_count p component line) 0 (is_missing_there l within begins speaks).1 in omega (arith, none)

  -- no entry speaks of a settled line
  settled_line : reading_count p component line ≡ 1 → count_by (speaks_of component line) (report_entries p) ≡ 0
  settled_line one =
      total line line_in (λ k within ne. silent k within) ∙ unspoken component line (silent line line_in)
    where
      silent : (k : ℕ) → k < p.shape.height → Unspoken component k
      silent k within = (
        read_line (omega arith) k within,
        λ disputed speaks.
            let at = is_line component line component k (reading_count p component k) speaks in
            let several = leb-true 2 (reading_count p component k) disputed in
            let same : reading_count p component k ≡ reading_count p component line = ap (reading_count p component) at.1 in
            omega (arith, several, same),
      )

  -- exactly one entry speaks of a disputed line
  disputed_line : 2 ≤ reading_count p component line → count_by (speaks_of component line) (report_entries p) ≡ 1
  disputed_line several =
      total line line_in (λ k within ne. (
        read_line (omega arith) k within,
        λ disputed speaks. ne (is_line component line component k (reading_count p component k) speaks).1,
      ))
      ∙ spoken_is component line
      ∙ second_counted (begins_range p component line) (is_disputed p component line) (speaks_of component line (range_at component line))
      (speaks_of component line (dispute_at component line))
      (no_range p component line (omega arith)) (le-leb 2 (reading_count p component line) several)
      (and_from (component == component) (line == line) (eqb_itself component) (eqb_itself line))

  -- a range that begins at or before the line, all of which up to it is missing, reaches it
  reaches : (first last : ℕ) → IsLongestRange p component first last → BeginsAt (is_missing p component) line first
      → is_missing p component line ≡ true → line ≤ last
  reaches first last range at missing =
      elim (cases_lt last line) [ inl less ↦ absurd (beyond less) | inr within ↦ within ]
    where
      beyond : last < line → ⊥
      beyond less =
          let rising = range.rising in
          let after : is_missing p component (last + 1) ≡ false = range.below (omega arith) in
          false≢true (sym after ∙ is_missing_at (cases_lt (last + 1) line))
        where
          is_missing_at : (last + 1 < line) ⊎ (line ≤ last + 1) → is_missing p component (last + 1) ≡ true
          is_missing_at (inl before) = at.each (last + 1) (let rising = range.rising in omega arith) before
          is_missing_at (inr reached) = let same : last + 1 ≡ line = omega arith in ap (is_missing p component) same ∙ missing

  -- exactly one entry speaks of a missing line
  missing_line : reading_count p component line ≡ 0 → count_by (speaks_of component line) (report_entries p) ≡ 1
  missing_line none =
      let missing : is_missing p component line ≡ true = ap (λ n. n == 0) none in
      let start = beginning (is_missing p component) line in
      let at = start.1 in
      let first : ℕ = start.0 in
      let at_most = at.at_most in
      let within : first < p.shape.height = omega arith in
      let begins : begins_range p component first ≡ true = begins_there first at missing in
      let range = range_is_longest p component first component_in within begins in
      total first within (λ k below ne. (
        λ starts speaks. one_beginning (is_missing p component) line k first (is_missing_there k below starts speaks).0 at ne,
        λ disputed speaks.
            let here = is_line component line component k (reading_count p component k) speaks in
            let several = leb-true 2 (reading_count p component k) disputed in
            let same : reading_count p component k ≡ reading_count p component line = ap (reading_count p component) here.1 in
            omega (arith, several, same),
      ))
      ∙ spoken_is component first
      ∙ first_counted (begins_range p component first) (is_disputed p component first) (speaks_of component line (range_at component first))
      (speaks_of component line (dispute_at component first)) begins
      (all_true (component == component) (nat_le first line) (nat_le line (last_of component first)) (eqb_itself component)
      (le-leb first line at_most)
      (le-leb line (last_of component first) (reaches first (last_of component first) range at missing)))
    where
      begins_there : (first : ℕ) → BeginsAt (is_missing p component) line first → is_missing p component line ≡ true
          → begins_range p component first ≡ true
      begins_there first at missing =
          and_from (is_missing p component first) (first == 0 || not (is_missing p component (first - 1))) (here (cases_lt first line))
          (first_or first (is_missing p component) at.above)
        where
          here : (first < line) ⊎ (line ≤ first) → is_missing p component first ≡ true
          here (inl before) = at.each first (omega arith) before
          here (inr reached) = let most = at.at_most in let same : first ≡ line = omega arith in ap (is_missing p component) same ∙ missing

-- a number is 0, 1 or at least 2
three_ways : (n : ℕ) → (n ≡ 0) ⊎ ((n ≡ 1) ⊎ (2 ≤ n))
three_ways zero = inl refl
three_ways (suc zero) = inr (inl refl)
three_ways (suc (suc n)) = inr (inr (omega arith))

-- the law: each line is settled, or exactly one entry speaks of it
pub each_line_once : EachLineOnce
each_line_once p component line component_in line_in =
    one_way (three_ways (reading_count p component line))
  where
    one_way : (reading_count p component line ≡ 0) ⊎ ((reading_count p component line ≡ 1) ⊎ (2 ≤ reading_count p component line))
        → one_if (is_settled_line p component line) + count_by (speaks_of component line) (report_entries p) ≡ 1
    one_way (inl none) =
        let settled : is_settled_line p component line ≡ false = ne_eqb (reading_count p component line) 1 (λ e. omega arith) in
        let zero_settled : one_if (is_settled_line p component line) ≡ 0 = ap one_if settled in
        omega (arith, zero_settled, missing_line p component line component_in line_in none)
    one_way (inr (inl one)) =
        let settled : is_settled_line p component line ≡ true = ap (λ n. n == 1) one in
        let one_settled : one_if (is_settled_line p component line) ≡ 1 = ap one_if settled in
        omega (arith, one_settled, settled_line p component line component_in line_in one)
    one_way (inr (inr several)) =
        let settled : is_settled_line p component line ≡ false = ne_eqb (reading_count p component line) 1 (λ e. omega arith) in
        let zero_settled : one_if (is_settled_line p component line) ≡ 0 = ap one_if settled in
        omega (arith, zero_settled, disputed_line p component line component_in line_in several)
