-- Lines in a packed store: what is found, and what one line more leaves.
use Rattle.std.proofs.Common.{◌≡◌, ℕ, zero, suc, ◌+◌, ◌<◌, ◌≤◌, Bool, true, false, ◌||◌, List, [], ◌∷◌, ◌++◌, length, get_or, take, drop}
use Rattle.std.proofs.Common.{map, refl, ap, sym, subst, ◌∙◌, arith, inl, inr}
use Rattle.std.specs.declared.cmp.Ordering.{Ordering}
use Rattle.std.specs.declared.cmp.Ordering.TheVariants.{Less, Greater}
use Rattle.std.specs.Cmp.{IsTotalOrder}
use Rattle.std.specs.Cmp.Lexicographic.{slice_cmp}
use Rattle.std.specs.List.{list_any, insert, AllByRecursion}
use Rattle.std.specs.List.Sorted.{IsStrictlySortedBy}
use Rattle.std.specs.Ordering.{nat_cmp, eq_by_cmp, is_eq, ordering_reverse}
use Rattle.std.proofs.Math.Seq.{drop-append_seam}
use Rattle.std.proofs.lemmas.Bool.{cases_lt}
use Rattle.std.proofs.lemmas.Cmp.{tied_itself, nat_list_cmp_total}
use Rattle.std.proofs.lemmas.List.{append-nil, take_at, drop-append-le, take-append-le, length-drop, length-append, get_or-map}
use Rattle.std.proofs.lemmas.List.Edits.{length-insert}
use Rattle.std.proofs.lemmas.Map.Keys.{Less-from_sorted}
use Rattle.std.proofs.lemmas.Map.Lookups.{CmpEqualImpliesEq}
use Rattle.jls_values.specs.OrderedSet as set
use Rattle.jls_values.specs.OrderedSetLaws.{same_set, contains-insert, contains-from_list}
use Rattle.jls_values.proofs.Inserts.{map-insert, all-insert, any-insert, none_at_gap}
use Rattle.jls_partial.specs.declared.slots.Slot.{Slot}
use Rattle.jls_partial.specs.LineSetLaws.{lines_exact}
use Rattle.jls_partial.specs.Packed.{Kept, kept_of, lines_of, IsPacked, IsGap}

abbrev S : List ℕ → List ℕ → Ordering
S = slice_cmp nat_cmp

-- ---- an order turned round

pub turned_greater : {K : Type 0} {R : K → K → Ordering} → IsTotalOrder R → (x y : K) → R x y ≡ Greater → R y x ≡ Less
turned_greater {K} {R} o x y e = o.antisymm y x ∙ ap ordering_reverse e

-- ---- what a search has passed

module _ (lines : List (List ℕ)) (sorted : IsStrictlySortedBy S lines) (x : List ℕ) (middle : ℕ) (inside : middle < length lines) where
  -- the line in the middle is below, and so all before it
  pub all_below : S (get_or lines middle x) x ≡ Less → (k : ℕ) → k < middle + 1 → S (get_or lines k x) x ≡ Less
  all_below here k lt =
      elim (cases_lt k middle) [
        | inl before ↦ nat_list_cmp_total.trans (get_or lines k x) (get_or lines middle x) x
            (Less-from_sorted S lines k middle x sorted before inside) here
        | inr after ↦ let same : k ≡ middle = omega arith in subst (λ (j : ℕ). S (get_or lines j x) x ≡ Less) (sym same) here
      ]

  -- the line in the middle is above, and so all after it
  pub all_above : S (get_or lines middle x) x ≡ Greater → (k : ℕ) → middle ≤ k → k < length lines → S x (get_or lines k x) ≡ Less
  all_above here k le lt =
      let first = turned_greater nat_list_cmp_total (get_or lines middle x) x here in
      elim (cases_lt middle k) [
        | inl following ↦ nat_list_cmp_total.trans x (get_or lines middle x) (get_or lines k x) first
            (Less-from_sorted S lines middle k x sorted following lt)
        | inr at ↦ let same : k ≡ middle = omega arith in subst (λ (j : ℕ). S x (get_or lines j x) ≡ Less) (sym same) first
      ]

-- ---- the store with one line more

each : (P : Slot → Type 0) (slots : List Slot) (i : ℕ) (d : Slot) → AllByRecursion P slots → i < length slots → P (get_or slots i d)
each P [] i d h lt = absurd (omega arith)
each P (s ∷ slots) zero d h lt = h.0
each P (s ∷ slots) (suc i) d h lt = each P slots i d h.1 (omega arith)

-- a slot of the list lies inside the samples
pub inside_at : (width : ℕ) (packed : List ℕ) (slots : List Slot) (i : ℕ) (s : Slot)
    → AllByRecursion (λ t. t.start + width ≤ length packed) slots → i < length slots → s ≡ get_or slots i s
    → s.start + width ≤ length packed
inside_at width packed slots i s h lt is =
    subst (λ (t : Slot). t.start + width ≤ length packed) (sym is) (each (λ t. t.start + width ≤ length packed) slots i s h lt)

-- the line of a slot is its samples
pub line_at : (width : ℕ) (packed : List ℕ) (slots : List Slot) (i : ℕ) (s : Slot) (x : List ℕ) → i < length slots → s ≡ get_or slots i s
    → get_or (lines_of width packed slots) i x ≡ take width (drop s.start packed)
line_at width packed slots i s x lt is = get_or-map (λ (t : Slot). take width (drop t.start packed)) slots i s x lt
    ∙ ap (λ (t : Slot). take width (drop t.start packed)) (sym is)

module _ {K : Type 0} {R : K → K → Ordering} (o : IsTotalOrder R) (exact : CmpEqualImpliesEq R) where
  -- a gap behind the first item is a gap of the rest
  next : (y : K) (xs : List K) (i : ℕ) (x : K) → IsGap R (y ∷ xs) (suc i) x → IsGap R xs i x
  next y xs i x g = record {
    within = omega (arith, g.within);
    below = λ k lt. g.below (suc k) (omega arith);
    above = λ k le lt. g.above (suc k) (omega arith) (omega arith);
  }

  above_each : (x : K) (xs : List K) → ((k : ℕ) → k < length xs → R x (get_or xs k x) ≡ Less) → AllByRecursion (λ y. R x y ≡ Less) xs
  above_each x [] h = tt
  above_each x (y ∷ xs) h = (h 0 (omega arith), above_each x xs (λ k lt. h (suc k) (omega arith)))

  -- an item put into its gap keeps the order
  pub sorted-insert : (xs : List K) (i : ℕ) (x : K) → IsGap R xs i x → IsStrictlySortedBy R xs → IsStrictlySortedBy R (insert xs i x)
  unfolding IsStrictlySortedBy
  sorted-insert xs zero x g h = (above_each x xs (λ k lt. g.above k (omega arith) lt), h)
  sorted-insert [] (suc i) x g h = absurd (omega (arith, g.within))
  sorted-insert (y ∷ xs) (suc i) x g h = (
    all-insert (λ z. R y z ≡ Less) xs i x (omega (arith, g.within)) h.0 (g.below 0 (omega arith)),
    sorted-insert xs i x (next y xs i x g) h.1,
  )

  -- an item that has a gap is not in the set
  pub gap-new : (xs : List K) (i : ℕ) (x : K) → IsGap R xs i x → set.contains (set.from_list {R = R} xs) x ≡ false
  gap-new xs i x g = contains-from_list o xs x ∙ none_at_gap o xs i x x (λ k lt inside. g.below k lt) g.above

  -- an item that stands in the list is in the set
  pub there-held : (xs : List K) (i : ℕ) (x : K) → i < length xs → get_or xs i x ≡ x → set.contains (set.from_list {R = R} xs) x ≡ true
  there-held xs i x lt is = contains-from_list o xs x ∙ stands xs i lt is
    where
      or_true : (b : Bool) → (b || true) ≡ true
      or_true true = refl
      or_true false = refl

      stands : (xs : List K) (i : ℕ) → i < length xs → get_or xs i x ≡ x → list_any (eq_by_cmp R x) xs ≡ true
      stands [] i lt is = absurd (omega arith)
      stands (y ∷ xs) zero lt is = ap (λ b. b || list_any (eq_by_cmp R x) xs) (ap (eq_by_cmp R x) is ∙ ap is_eq (tied_itself o x))
      stands (y ∷ xs) (suc i) lt is = ap (λ b. eq_by_cmp R x y || b) (stands xs i (omega arith) is) ∙ or_true (eq_by_cmp R x y)

  -- one item more in the list is one more in the set
  pub from_list-insert : (xs : List K) (i : ℕ) (x : K) → i ≤ length xs → set.from_list {R = R} (insert xs i x)
      ≡ set.insert (set.from_list {R = R} xs) x
  from_list-insert xs i x le = same_set o exact _ _ (λ q.
      contains-from_list o (insert xs i x) q ∙ any-insert (eq_by_cmp R q) xs i x le
      ∙ ap (λ b. eq_by_cmp R q x || b) (sym (contains-from_list o xs q))
      ∙ sym (contains-insert o (set.from_list xs) x q))

-- the samples of the slots stay where more is appended
pub lines_stay : (width : ℕ) (packed more : List ℕ) (slots : List Slot) → AllByRecursion (λ s. s.start + width ≤ length packed) slots
    → kept_of width (packed ++ more) slots ≡ kept_of width packed slots
lines_stay width packed more [] h = refl
lines_stay width packed more (s ∷ slots) h =
    let first : s.start + width ≤ length packed = h.0 in
    let stays : take width (drop s.start (packed ++ more)) ≡ take width (drop s.start packed) =
    ap (take width) (drop-append-le s.start packed more (omega (arith, first)))
    ∙ take-append-le width (drop s.start packed) more (omega (arith, first, length-drop s.start packed)) in
    λ i. (stays i, set.items s.sources) ∷ lines_stay width packed more slots h.1 i

-- samples that were appended are read after the others
pub line_appended : (width : ℕ) (packed samples : List ℕ) → length samples ≡ width
    → take width (drop (length packed) (packed ++ samples)) ≡ samples
line_appended width packed samples len = ap (take width) (drop-append_seam packed samples ∙ sym (append-nil samples))
    ∙ take_at samples [] width len

-- slots inside some samples are inside more of them
pub inside_more : (width n m : ℕ) (slots : List Slot) → n ≤ m → AllByRecursion (λ s. s.start + width ≤ n) slots
    → AllByRecursion (λ s. s.start + width ≤ m) slots
inside_more width n m [] le h = tt
inside_more width n m (s ∷ slots) le h =
    (let first : s.start + width ≤ n = h.0 in omega (arith, first, le), inside_more width n m slots le h.1)

lines-kept : (width : ℕ) (packed : List ℕ) (slots : List Slot) → map (λ k. k.0) (kept_of width packed slots) ≡ lines_of width packed slots
lines-kept width packed [] = refl
lines-kept width packed (s ∷ slots) = ap (λ t. take width (drop s.start packed) ∷ t) (lines-kept width packed slots)

pub length-kept : (width : ℕ) (packed : List ℕ) (slots : List Slot) → length (kept_of width packed slots) ≡ length slots
length-kept width packed [] = refl
length-kept width packed (s ∷ slots) = ap suc (length-kept width packed slots)

pub kept_lines : (width : ℕ) (packed : List ℕ) (slots : List Slot)
    → map (λ k. k.0) (kept_of width packed slots) ≡ lines_of width packed slots
kept_lines = lines-kept

module _ (width : ℕ) (packed samples : List ℕ) (slots : List Slot) (i : ℕ) (sources : set.OrderedSet nat_cmp) (len : length samples ≡ width)
    (le : i ≤ length slots) (inside : AllByRecursion (λ s. s.start + width ≤ length packed) slots) where
  abbrev added : Slot
  added = record { start = length packed; sources = sources }

  -- a line put in is kept at its place
  pub kept_more : kept_of width (packed ++ samples) (insert slots i added)
      ≡ insert (kept_of width packed slots) i (samples, set.items sources)
  kept_more =
      map-insert (λ (s : Slot). (take width (drop s.start (packed ++ samples)), set.items s.sources)) slots i added le
      ∙ (λ j. insert (lines_stay width packed samples slots inside j) i (line_appended width packed samples len j, set.items sources))

  -- a line put in is one of the lines, at its place
  pub lines_more : lines_of width (packed ++ samples) (insert slots i added) ≡ insert (lines_of width packed slots) i samples
  lines_more =
      sym (lines-kept width (packed ++ samples) (insert slots i added)) ∙ ap (map (λ (k : Kept). k.0)) kept_more
      ∙ map-insert (λ (k : Kept). k.0) (kept_of width packed slots) i (samples, set.items sources)
      (let many : length (kept_of width packed slots) ≡ length slots = length-kept width packed slots in omega (arith, le, many))
      ∙ ap (λ (ls : List (List ℕ)). insert ls i samples) (lines-kept width packed slots)

  -- a line that is put in at its gap, with its samples after the others, leaves the lines packed
  pub packed_more : 1 ≤ width → IsPacked width packed slots → IsGap S (lines_of width packed slots) i samples
      → IsPacked width (packed ++ samples) (insert slots i added)
  packed_more wide is gap =
      let longer = length-append packed samples in
      record {
        inside = all-insert (λ s. s.start + width ≤ length (packed ++ samples)) slots i added le
            (inside_more width (length packed) (length (packed ++ samples)) slots (omega (arith, longer)) inside)
            (omega (arith, longer, len));
        few = let more = length-insert slots i added le in let before = is.few in omega (arith, longer, more, before, len, wide);
        sorted = subst (IsStrictlySortedBy S) (sym lines_more)
            (sorted-insert nat_list_cmp_total lines_exact (lines_of width packed slots) i samples gap is.sorted);
      }
