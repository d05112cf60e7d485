-- Rows of one page: where a search ends, and what a row that is changed or put in leaves.
use Rattle.std.proofs.Common.{◌≡◌, ℕ, zero, suc, ◌+◌, ◌-◌, ◌<◌, ◌≤◌, Bool, true, false, cond, ◌||◌, List, [], ◌∷◌, length, get_or, set, map}
use Rattle.std.proofs.Common.{inl, inr, slice_get, Some, None, Result, Ok, Err, IfOk, IfErr, refl, ap, sym, subst, ◌∙◌, arith}
use Rattle.std.specs.Prelude.{IsSome, is_some}
use Rattle.std.specs.declared.cmp.Ordering.{Ordering}
use Rattle.std.specs.declared.cmp.Ordering.TheVariants.{Less, Equal, Greater}
use Rattle.std.specs.BTreeMap.{is_at}
use Rattle.std.specs.List.{AllByRecursion, insert, list_any}
use Rattle.std.specs.List.Sorted.{IsStrictlySortedBy, IsSearchInRange, IsBinarySearchResult, IsNonDecreasingBy}
use Rattle.std.specs.Map.{lookup, set_value}
use Rattle.std.specs.Ordering.{eq_by_cmp, is_eq, is_lt, ordering_index, ordering_reverse}
use Rattle.std.proofs.lemmas.Cmp.{tied_itself, eq_by_cmp_equiv}
use Rattle.std.proofs.lemmas.List.{get_or-map, length-map}
use Rattle.std.proofs.lemmas.List.Edits.{length-insert}
use Rattle.std.proofs.lemmas.List.Sorted.{searchable_from_sorted}
use Rattle.std.proofs.lemmas.Map.{none_passes_from_lookup, lookup-insert, lookup-set_value, keys-set_value, length-set_value}
use Rattle.std.proofs.lemmas.Map.Keys.{Less-from_sorted}
use Rattle.std.proofs.lemmas.Option.{get_or_from_slice_get}
use Rattle.std.proofs.Math.Nat.{eq-or-lt_of_le}
use Rattle.jls_values.specs.OrderedSetLaws.{contains-from_list}
use Rattle.jls_values.proofs.Inserts.{map-insert, all-insert}
use Rattle.jls_partial.specs.declared.slots.Slots.{Slots}
use Rattle.jls_partial.specs.declared.slots.Slots.TheVariants.{Empty}
use Rattle.jls_partial.specs.declared.line_place.LinePlace.{LinePlace}
use Rattle.jls_partial.specs.declared.line_place.PageNumber.{PageNumber}
use Rattle.jls_partial.specs.Packed.{IsGap}
use Rattle.jls_partial.specs.Pages.{Row, page_of, IsPage}
use Rattle.jls_partial.specs.LinePlace.{place_cmp}
use Rattle.jls_partial.specs.ReadingOrder.{place_total, place_exact, same_place}
use Rattle.jls_partial.proofs.PackedLines.{turned_greater, gap-new, sorted-insert}
use Rattle.jls_partial.proofs.StoredLines.{Updated}

-- ---- where a search ends

place_at : (rows : List Row) (i : ℕ) (d : Row) (at : LinePlace) → i < length rows → get_or (map (λ r. r.0) rows) i at ≡ (get_or rows i d).0
place_at rows i d at lt = get_or-map (λ (r : Row). r.0) rows i d at lt

module _ (rows : List Row) (sorted : IsStrictlySortedBy place_cmp (map (λ r. r.0) rows)) (at : LinePlace) where
  -- compared with a place, the rows of a page are first before it, then at it, then after it
  comparisons_rise : IsNonDecreasingBy (λ r. ordering_index (place_cmp r.0 at)) rows
  comparisons_rise = searchable_from_sorted place_total (λ (r : Row). r.0) rows at (λ k d _ lt.
      let here : k < length rows = omega (arith, lt) in
      let next : k + 1 < length rows = omega (arith, lt) in
      let many : length (map (λ (r : Row). r.0) rows) ≡ length rows = length-map rows (λ (r : Row). r.0) in
      let rise : place_cmp (get_or (map (λ r. r.0) rows) k d.0) (get_or (map (λ r. r.0) rows) (k + 1) d.0) ≡ Less =
      Less-from_sorted place_cmp (map (λ r. r.0) rows) k (k + 1) d.0 sorted (omega arith) (omega (arith, many, next)) in
      ap is_lt (place_total.antisymm (get_or rows (k + 1) d).0 (get_or rows k d).0
      ∙ ap ordering_reverse ((λ i. place_cmp (sym (place_at rows k d d.0 here) i) (sym (place_at rows (k + 1) d d.0 next) i)) ∙ rise)))

  -- what a binary search of the rows finds is the row of the place, or the gap where it belongs
  pub searched : (r : Result ℕ ℕ) → IsSearchInRange r (length rows) → IsBinarySearchResult (λ r. place_cmp r.0 at) rows r
      → IfOk r (λ i. get_or (map (λ r. r.0) rows) i at ≡ at) × IfErr r (λ i. IsGap place_cmp (map (λ r. r.0) rows) i at)
  searched (Ok i) lt equal = (place_at rows i (at, Empty) at lt ∙ place_exact (get_or rows i (at, Empty)).0 at (equal (at, Empty)), tt)
  searched (Err i) le parted =
      let many : length (map (λ (r : Row). r.0) rows) ≡ length rows = length-map rows (λ (r : Row). r.0) in (
        tt,
        record {
          within = omega (arith, le, many);
          below = λ k lt. ap (λ (z : LinePlace). place_cmp z at) (place_at rows k (at, Empty) at (omega (arith, le, lt)))
              ∙ (parted comparisons_rise).0 k (at, Empty) (omega arith) lt;
          above = λ k ge lt.
              let inside : k < length rows = omega (arith, lt, many) in
              ap (place_cmp at) (place_at rows k (at, Empty) at inside)
              ∙ turned_greater place_total (get_or rows k (at, Empty)).0 at ((parted comparisons_rise).1 k (at, Empty) ge inside);
        },
      )

below_from_is_lt : (o : Ordering) → is_lt o ≡ true → o ≡ Less
below_from_is_lt Less h = refl
below_from_is_lt Equal h = let no : false ≡ true = h in cc
below_from_is_lt Greater h = let no : false ≡ true = h in cc

-- a place above the last row belongs after all rows
pub after_last : (rows : List Row) (at : LinePlace) (last : Row) → IsStrictlySortedBy place_cmp (map (λ r. r.0) rows)
    → slice_get rows (length rows - 1) ≡ Some last → is_lt (place_cmp last.0 at) ≡ true
    → IsGap place_cmp (map (λ r. r.0) rows) (length rows) at
after_last rows at last sorted read lt =
    let many : length (map (λ (r : Row). r.0) rows) ≡ length rows = length-map rows (λ (r : Row). r.0) in
    let top : place_cmp last.0 at ≡ Less = below_from_is_lt (place_cmp last.0 at) lt in
    let last_is : get_or rows (length rows - 1) (at, Empty) ≡ last = get_or_from_slice_get rows (length rows - 1) last (at, Empty) read in
    record {
      within = omega (arith, many);
      below = λ k inside.
          let highest : get_or (map (λ r. r.0) rows) (length rows - 1) at ≡ last.0 =
          place_at rows (length rows - 1) (at, Empty) at (omega (arith, inside)) ∙ ap (λ (z : Row). z.0) last_is in
          elim (eq-or-lt_of_le {n = k} {m = length rows - 1} (omega (arith, inside))) [
            | inl e ↦ ap (λ i. place_cmp (get_or (map (λ r. r.0) rows) i at) at) e ∙ ap (λ (z : LinePlace). place_cmp z at) highest ∙ top
            | inr less ↦ place_total.trans (get_or (map (λ r. r.0) rows) k at) last.0 at
                (ap (place_cmp (get_or (map (λ r. r.0) rows) k at)) (sym highest)
                ∙ Less-from_sorted place_cmp (map (λ r. r.0) rows) k (length rows - 1) at sorted less (omega (arith, many, inside))) top
          ];
      above = λ k ge inside. absurd (omega (arith, ge, inside, many));
    }

-- ---- a row that is there

all_at : (P : LinePlace → Type 0) (ks : List LinePlace) (i : ℕ) (d : LinePlace) → AllByRecursion P ks → i < length ks → P (get_or ks i d)
all_at P [] i d h lt = absurd (omega arith)
all_at P (k ∷ ks) zero d h lt = h.0
all_at P (k ∷ ks) (suc i) d h lt = all_at P ks i d h.1 (omega arith)

at_itself : (at k : LinePlace) → k ≡ at → is_at (place_cmp at) k ≡ true
at_itself at k is = ap (is_at (place_cmp at)) is ∙ ap is_eq (tied_itself place_total at)

-- the first row is below the one that is looked for
later : (at k : LinePlace) (rows : List Row) (i : ℕ) → AllByRecursion (λ y. place_cmp k y ≡ Less) (map (λ r. r.0) rows) → i < length rows
    → get_or (map (λ r. r.0) rows) i at ≡ at → is_at (place_cmp at) k ≡ false
later at k rows i above lt is =
    let many : length (map (λ (r : Row). r.0) rows) ≡ length rows = length-map rows (λ (r : Row). r.0) in
    let below : place_cmp k at ≡ Less = ap (place_cmp k) (sym is)
    ∙ all_at (λ y. place_cmp k y ≡ Less) (map (λ r. r.0) rows) i at above (omega (arith, lt, many)) in
    ap is_eq (place_total.antisymm at k ∙ ap ordering_reverse below)

-- the row that stands at a place is the one that is looked up
pub row_found : (rows : List Row) (at : LinePlace) (i : ℕ) (x : Row) → IsStrictlySortedBy place_cmp (map (λ r. r.0) rows) → i < length rows
    → get_or (map (λ r. r.0) rows) i at ≡ at → x ≡ get_or rows i x → lookup (is_at (place_cmp at)) rows ≡ Some x.1
unfolding IsStrictlySortedBy
row_found [] at i x sorted lt is read = absurd (omega arith)
row_found (r ∷ rows) at zero x sorted lt is read =
    ap (λ b. cond b (Some r.1) (lookup (is_at (place_cmp at)) rows)) (at_itself at r.0 is) ∙ ap (λ (y : Row). Some y.1) (sym read)
row_found (r ∷ rows) at (suc i) x sorted lt is read =
    ap (λ b. cond b (Some r.1) (lookup (is_at (place_cmp at)) rows)) (later at r.0 rows i sorted.0 (omega arith) is)
    ∙ row_found rows at i x sorted.1 (omega arith) is read

-- a row that is written over is the value at its place
pub row_set : (rows : List Row) (at : LinePlace) (i : ℕ) (x : Row) (y : Slots) → IsStrictlySortedBy place_cmp (map (λ r. r.0) rows) → i
    < length rows
    → get_or (map (λ r. r.0) rows) i at ≡ at → x ≡ get_or rows i x → set rows i (x.0, y) ≡ set_value (is_at (place_cmp at)) rows y
unfolding IsStrictlySortedBy
row_set [] at i x y sorted lt is read = absurd (omega arith)
row_set (r ∷ rows) at zero x y sorted lt is read =
    ap (λ (z : Row). (z.0, y) ∷ rows) read
    ∙ sym (ap (λ b. cond b ((r.0, y) ∷ rows) (r ∷ set_value (is_at (place_cmp at)) rows y)) (at_itself at r.0 is))
row_set (r ∷ rows) at (suc i) x y sorted lt is read =
    ap (λ t. r ∷ t) (row_set rows at i x y sorted.1 (omega arith) is read)
    ∙ sym (ap (λ b. cond b ((r.0, y) ∷ rows) (r ∷ set_value (is_at (place_cmp at)) rows y)) (later at r.0 rows i sorted.0 (omega arith) is))

-- what is found afterwards
pub set_updates : (rows : List Row) (at : LinePlace) (y : Slots) → IsSome (lookup (is_at (place_cmp at)) rows)
    → Updated rows at y (set_value (is_at (place_cmp at)) rows y)
set_updates rows at y some q =
    lookup-set_value (eq_by_cmp_equiv place_total) (is_at (place_cmp at))
    (λ a b e. ap (λ (z : LinePlace). eq_by_cmp place_cmp z b) (same_place at a e)) q y rows some

-- of a row that is found and written over
pub record IsWritten (rows : List Row) (at : LinePlace) (x y : Slots) (fs : List Row) : Type 0 where
  pub found : lookup (is_at (place_cmp at)) rows ≡ Some x
  pub is : fs ≡ set_value (is_at (place_cmp at)) rows y
  pub updated : Updated rows at y fs

-- a row whose slots are set is written, and no other
pub written : (rows searched : List Row) (at : LinePlace) (i : ℕ) (x : Row) (y : Slots) → searched ≡ rows
    → IsStrictlySortedBy place_cmp (map (λ r. r.0) rows)
    → i < length searched → get_or (map (λ r. r.0) searched) i at ≡ at → x ≡ get_or rows i x → IsWritten rows at x.1 y (set rows i (x.0, y))
written rows searched at i x y same_rows sorted lt is read =
    let below : i < length rows = subst (λ (rs : List Row). i < length rs) same_rows lt in
    let same : get_or (map (λ r. r.0) rows) i at ≡ at =
    subst (λ (rs : List Row). get_or (map (λ (r : Row). r.0) rs) i at ≡ at) same_rows is in
    let found = row_found rows at i x sorted below same read in
    let here = row_set rows at i x y sorted below same read in
    record { found = found; is = here; updated = subst (Updated rows at y) (sym here) (set_updates rows at y (ap is_some found)) }

-- rows of a page stay rows of it where the slots of one are set
own_set : (page : PageNumber) (t : LinePlace → Bool) (rows : List Row) (y : Slots) → AllByRecursion (λ r. page_of r.0 ≡ page) rows
    → AllByRecursion (λ r. page_of r.0 ≡ page) (set_value t rows y)
own_set page t [] y h = tt
own_set page t (r ∷ rows) y h =
    elim (t r.0) as (λ b. AllByRecursion (λ r. page_of r.0 ≡ page) (cond b ((r.0, y) ∷ rows) (r ∷ set_value t rows y))) [
      | true ↦ (h.0, h.1)
      | false ↦ (h.0, own_set page t rows y h.1)
    ]

-- a page stays one where the slots of a row are set
pub set_page : (page : PageNumber) (rows : List Row) (t : LinePlace → Bool) (y : Slots) → IsPage page rows
    → IsPage page (set_value t rows y)
set_page page rows t y is = record {
  some = let many = length-set_value t rows y in let before = is.some in omega (arith, many, before);
  sorted = subst (IsStrictlySortedBy place_cmp) (sym (keys-set_value t rows y)) is.sorted;
  own = own_set page t rows y is.own;
}

-- ---- a row that is put in

-- where no row passes a test, none is looked up by it
none_any : (t : LinePlace → Bool) (rows : List Row) → list_any t (map (λ r. r.0) rows) ≡ false → lookup t rows ≡ None
none_any t [] h = refl
none_any t (r ∷ rows) h =
    elim (t r.0) as (λ b. (b || list_any t (map (λ (r : Row). r.0) rows)) ≡ false → cond b (Some r.1) (lookup t rows) ≡ None) [
      | true ↦ λ e. absurd cc
      | false ↦ λ e. none_any t rows e
    ] h

-- at a gap no row is looked up
pub row_missing : (rows : List Row) (at : LinePlace) (i : ℕ) → IsGap place_cmp (map (λ r. r.0) rows) i at
    → lookup (is_at (place_cmp at)) rows ≡ None
row_missing rows at i gap =
    none_any (is_at (place_cmp at)) rows
    (sym (contains-from_list place_total (map (λ r. r.0) rows) at) ∙ gap-new place_total place_exact (map (λ r. r.0) rows) i at gap)

-- a row put in at its gap is an update
pub insert_updates : (rows : List Row) (at : LinePlace) (i : ℕ) (y : Slots) → IsGap place_cmp (map (λ r. r.0) rows) i at
    → Updated rows at y (insert rows i (at, y))
insert_updates rows at i y gap q =
    lookup-insert (eq_by_cmp_equiv place_total) at y q rows i
    (none_passes_from_lookup (is_at (place_cmp at)) rows (row_missing rows at i gap))

-- a row that is put in at its gap leaves the rows a page
pub insert_page : (rows : List Row) (at : LinePlace) (i : ℕ) (y : Slots) → IsPage (page_of at) rows
    → IsGap place_cmp (map (λ r. r.0) rows) i at
    → IsPage (page_of at) (insert rows i (at, y))
insert_page rows at i y is gap =
    let many : length (map (λ (r : Row). r.0) rows) ≡ length rows = length-map rows (λ (r : Row). r.0) in
    let within = gap.within in
    let le : i ≤ length rows = omega (arith, within, many) in
    record {
      some = let longer = length-insert rows i (at, y) le in omega (arith, longer);
      sorted = subst (IsStrictlySortedBy place_cmp) (sym (map-insert (λ (r : Row). r.0) rows i (at, y) le))
          (sorted-insert place_total place_exact (map (λ r. r.0) rows) i at gap is.sorted);
      own = all-insert (λ r. page_of r.0 ≡ page_of at) rows i (at, y) le is.own refl;
    }

-- ---- the first row of a page

pub first_page : (at : LinePlace) (y : Slots) → IsPage (page_of at) ((at, y) ∷ [])
unfolding IsStrictlySortedBy
first_page at y = record { some = omega arith; sorted = (tt, tt); own = (refl, tt) }

-- one row is an update of no rows
pub first_updates : (at : LinePlace) (y : Slots) → Updated [] at y ((at, y) ∷ [])
first_updates at y q = ap (λ b. cond b (Some y) None) (turned (place_cmp q at) (place_cmp at q) (place_total.antisymm q at))
  where
    turned : (a b : Ordering) → a ≡ ordering_reverse b → is_eq a ≡ is_eq b
    turned a Less h = ap is_eq h
    turned a Equal h = ap is_eq h
    turned a Greater h = ap is_eq h
