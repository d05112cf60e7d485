-- The ranges that a report has are the longest ones, and its disputed lines those of the picture.
use Rattle.std.proofs.Common.{◌≡◌, ℕ, zero, suc, ◌+◌, ◌-◌, ◌<◌, ◌≤◌, Bool, true, false, cond, ◌&&◌, ◌||◌, length, refl, ap, sym, subst, ◌∙◌}
use Rattle.std.proofs.Common.{arith, ◌⊎◌, inl, inr}
use Rattle.std.specs.Prelude.{◌==◌, not, Contains}
use Rattle.std.specs.List.{range_with_len, prefix_len}
use Rattle.std.proofs.lemmas.Bool.{and_parts, ne_eqb, leb-true, le-leb, not-true, and_from}
use Rattle.std.proofs.Math.Bool.{or-true}
use Rattle.std.proofs.lemmas.List.FromFn.{get_or-range_with_len, length-range_with_len}
use Rattle.std.proofs.lemmas.List.Sums.{prefix_len_passes, prefix_len_stops, prefix_len-le-length}
use Rattle.jls_partial.specs.Partial.{PartialPicture}
use Rattle.jls_report.specs.declared.entry.ReportEntry.{ReportEntry}
use Rattle.jls_report.specs.declared.entry.ReportEntry.TheVariants.{Missing, Disputed}
use Rattle.jls_report.specs.Lines.{reading_count, is_missing, is_disputed}
use Rattle.jls_report.specs.Ranges.{IsLongestRange, IsDisputedLine, RangesAreLongest, DisputedAreListed}
use Rattle.jls_report.specs.Report.{begins_range, missing_from, entries_at, component_entries, report_entries}
use Rattle.jls_report.proofs.Members.{found_over, member_over, one_of, first_of_two, second_of_two}
use Rattle.jls_report.proofs.RangeEnds.{prefix_is}

-- ---- numbers that pass, from the start on

-- each number before the end of a prefix passes the test
passes : (test : ℕ → Bool) (a n k : ℕ) → k < prefix_len test (range_with_len a n) → test (a + k) ≡ true
passes test a n k below =
    let size : length (range_with_len a n) ≡ n = length-range_with_len a n in
    let most = prefix_len-le-length test (range_with_len a n) in
    ap test (sym (get_or-range_with_len a n k 0 (omega (arith, size, most, below)))) ∙ prefix_len_passes test (range_with_len a n) k 0 below

-- the number at the end of a prefix fails the test
stops : (test : ℕ → Bool) (a n : ℕ) → prefix_len test (range_with_len a n) < n → test (a + prefix_len test (range_with_len a n)) ≡ false
stops test a n below =
    let size : length (range_with_len a n) ≡ n = length-range_with_len a n in
    ap test (sym (get_or-range_with_len a n (prefix_len test (range_with_len a n)) 0 below))
    ∙ prefix_len_stops test (range_with_len a n) 0 (omega (arith, size, below))

-- a prefix is no longer than the range
within : (test : ℕ → Bool) (a n : ℕ) → prefix_len test (range_with_len a n) ≤ n
within test a n =
    let size : length (range_with_len a n) ≡ n = length-range_with_len a n in
    let most = prefix_len-le-length test (range_with_len a n) in omega (arith, size, most)

-- where the first of a range of numbers passes a test, some pass from there on
pub some_pass : (test : ℕ → Bool) (a n : ℕ) → 0 < n → test a ≡ true → 0 < prefix_len test (range_with_len a n)
some_pass test a zero more here = absurd (omega arith)
some_pass test a (suc n) more here =
    let is : prefix_len test (range_with_len a (suc n)) ≡ 1 + prefix_len test (range_with_len (a + 1) n) =
    ap (λ b. cond b (1 + prefix_len test (range_with_len (a + 1) n)) 0) here in
    omega (arith, is)

-- ---- tests

or_second : (b d : Bool) → (b || d) ≡ true → b ≡ false → d ≡ true
or_second true d is first = absurd cc
or_second false d is first = is

-- a line is the first, or the one above it is not missing, where that is known
pub first_or : (n : ℕ) (missing : ℕ → Bool) → ((line : ℕ) → line + 1 ≡ n → missing line ≡ false) → (n == 0 || not (missing (n - 1))) ≡ true
first_or zero missing above = refl
first_or (suc n) missing above =
    let before : suc n - 1 ≡ n = omega arith in
    let here : missing (suc n - 1) ≡ false = ap missing before ∙ above n (omega arith) in
    ap (λ b. (suc n == 0) || not b) here ∙ or-true (suc n == 0)

-- ---- where a range begins

-- a range that begins at a line, with all missing lines from there on, is a longest one
pub range_is_longest : (p : PartialPicture) (component line : ℕ) → component < length p.shape.ids → line < p.shape.height
    → begins_range p component line ≡ true
    → IsLongestRange p component line (line + missing_from p component line - 1)
range_is_longest p component line component_in line_in begins =
    let missing : ℕ → Bool = is_missing p component in
    let n : ℕ = p.shape.height - line in
    let both = and_parts (missing line) (line == 0 || not (missing (line - 1))) begins in
    let some : 0 < missing_from p component line = some_pass missing line n (omega arith) both.0 in
    let most : missing_from p component line ≤ n = within missing line n in
    record {
      component_in = component_in;
      rising = omega arith;
      last_in = omega arith;
      each = λ k low high.
          let k_is : line + (k - line) ≡ k = omega arith in
          subst (λ (i : ℕ). missing i ≡ true) k_is (passes missing line n (k - line) (omega arith));
      above = λ k next.
          let not_first : (line == 0) ≡ false = ne_eqb line 0 (λ e. omega arith) in
          let k_is : line - 1 ≡ k = omega arith in
          subst (λ (i : ℕ). missing i ≡ false) k_is
          (not-true (missing (line - 1)) (or_second (line == 0) (not (missing (line - 1))) both.1 not_first));
      below = λ more.
          let next_is : line + missing_from p component line ≡ line + missing_from p component line - 1 + 1 = omega arith in
          subst (λ (i : ℕ). missing i ≡ false) next_is (stops missing line n (omega arith));
    }

-- a longest range begins at its first line
pub longest_begins : (p : PartialPicture) (component first last : ℕ) → IsLongestRange p component first last
    → begins_range p component first ≡ true
longest_begins p component first last range =
    and_from (is_missing p component first) (first == 0 || not (is_missing p component (first - 1)))
    (range.each first (omega arith) range.rising)
    (first_or first (is_missing p component) range.above)

-- a longest range ends where the missing lines from its first on end
longest_ends : (p : PartialPicture) (component first last : ℕ) → IsLongestRange p component first last
    → first + missing_from p component first - 1 ≡ last
longest_ends p component first last range =
    let rising = range.rising in
    let last_in = range.last_in in
    let count : missing_from p component first ≡ last + 1 - first =
    prefix_is (is_missing p component) first (p.shape.height - first) (last + 1 - first) (omega arith)
    (λ k low high. range.each k low (omega arith))
    (λ less. let next : first + (last + 1 - first) ≡ last + 1 = omega arith in
    subst (λ (i : ℕ). is_missing p component i ≡ false) (sym next) (range.below (omega arith))) in
    omega (arith, count)

-- ---- the laws

-- an entry of a report begins with a line of a component
pub found_at : (p : PartialPicture) (e : ReportEntry) → Contains (report_entries p) e
    → (component line : ℕ) × (component < length p.shape.ids) × (line < p.shape.height)
    × (((begins_range p component line ≡ true) × (Missing component line (line + missing_from p component line - 1) ≡ e))
    ⊎ ((begins_range p component line ≡ false) × (is_disputed p component line ≡ true)
    × (Disputed component line (reading_count p component line) ≡ e)))
found_at p e there =
    let of_component = found_over (component_entries p) 0 (length p.shape.ids) e there in
    let of_line = found_over (entries_at p of_component.0) 0 p.shape.height e of_component.2 in
    let component_in : of_component.0 < length p.shape.ids = omega (arith, of_component.1) in
    let line_in : of_line.0 < p.shape.height = omega (arith, of_line.1) in
    let c = of_component.0 in
    let l = of_line.0 in
    (c, l, component_in, line_in, one_of (begins_range p c l) (is_disputed p c l) _ _ e of_line.2)

-- an entry at a line of the picture is one of the report
pub listed_at : (p : PartialPicture) (e : ReportEntry) (component line : ℕ) → component < length p.shape.ids → line < p.shape.height
    → Contains (entries_at p component line) e → Contains (report_entries p) e
listed_at p e component line component_in line_in here =
    let c_is : 0 + component ≡ component = omega arith in
    let l_is : 0 + line ≡ line = omega arith in
    member_over (component_entries p) 0 (length p.shape.ids) component e component_in
    (subst (λ (c : ℕ). Contains (component_entries p c) e) (sym c_is)
    (member_over (entries_at p component) 0 p.shape.height line e line_in
    (subst (λ (l : ℕ). Contains (entries_at p component l) e) (sym l_is) here)))

-- the law: the ranges of a report are the longest ones, and no others
pub ranges_are_longest : RangesAreLongest
ranges_are_longest p component first last = (
  λ there.
      let at = found_at p (Missing component first last) there in
      elim at.4 [
        | inl w ↦
            let range = range_is_longest p at.0 at.1 at.2 at.3 w.0 in
            let c_is : at.0 ≡ component = cc w.1 in
            let f_is : at.1 ≡ first = cc w.1 in
            let l_is : at.1 + missing_from p at.0 at.1 - 1 ≡ last = cc w.1 in
            subst (λ (c : ℕ). IsLongestRange p c first last) c_is
            (subst (λ (f : ℕ). IsLongestRange p at.0 f last) f_is (subst (λ (l : ℕ). IsLongestRange p at.0 at.1 l) l_is range))
        | inr w ↦ absurd (cc w.2)
      ],
  λ range.
      let rising = range.rising in
      let last_in = range.last_in in
      listed_at p (Missing component first last) component first range.component_in (omega arith)
      (subst (λ (l : ℕ). Contains (entries_at p component first) (Missing component first l)) (longest_ends p component first last range)
      (first_of_two (begins_range p component first) (is_disputed p component first)
      (Missing component first (first + missing_from p component first - 1)) (Disputed component first (reading_count p component first))
      (longest_begins p component first last range))),
)

-- a line that has readings begins no range
pub no_range : (p : PartialPicture) (component line : ℕ) → 0 < reading_count p component line → begins_range p component line ≡ false
no_range p component line some =
    ap (λ b. b && (line == 0 || not (is_missing p component (line - 1))))
    (ne_eqb (reading_count p component line) 0 (λ e. omega (arith, e)))

-- the law: the entries of disputed lines are those of the picture, and no others
pub disputed_are_listed : DisputedAreListed
disputed_are_listed p component line readings = (
  λ there.
      let at = found_at p (Disputed component line readings) there in
      elim at.4 [
        | inl w ↦ absurd (cc w.1)
        | inr w ↦
            let c_is : at.0 ≡ component = cc w.2 in
            let l_is : at.1 ≡ line = cc w.2 in
            let r_is : reading_count p at.0 at.1 ≡ readings = cc w.2 in
            let several = leb-true 2 (reading_count p at.0 at.1) w.1 in
            let is : IsDisputedLine p at.0 at.1 readings =
            record { component_in = at.2; line_in = at.3; several = omega (arith, several, r_is); counted = r_is } in
            subst (λ (c : ℕ). IsDisputedLine p c line readings) c_is (subst (λ (l : ℕ). IsDisputedLine p at.0 l readings) l_is is)
      ],
  λ is.
      let several = is.several in
      let counted = is.counted in
      listed_at p (Disputed component line readings) component line is.component_in is.line_in
      (subst (λ (n : ℕ). Contains (entries_at p component line) (Disputed component line n)) counted
      (second_of_two (begins_range p component line) (is_disputed p component line)
      (Missing component line (line + missing_from p component line - 1)) (Disputed component line (reading_count p component line))
      (no_range p component line (omega arith)) (le-leb 2 (reading_count p component line) (omega arith)))),
)
