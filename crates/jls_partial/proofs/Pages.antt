-- Rows in pages: what is found in its rows, that they rise, and what a page that is changed leaves.
use Rattle.std.proofs.Common.{◌≡◌, ℕ, ◌<◌, ◌/◌, Bool, true, false, cond, List, [], ◌∷◌, ◌++◌, map, Option, Some, None, refl, ap, sym, subst}
use Rattle.std.proofs.Common.{◌∙◌, arith}
use Rattle.std.specs.Prelude.{IfSome, IsSome, unwrap_or}
use Rattle.std.specs.declared.alloc.Global.{Global}
use Rattle.std.specs.declared.cmp.Ordering.TheVariants.{Less, Equal, Greater}
use Rattle.std.specs.declared.vec.Vec.{Vec}
use Rattle.std.specs.BTreeMap.{is_at}
use Rattle.std.specs.List.{AllByRecursion}
use Rattle.std.specs.List.Sorted.{IsStrictlySortedBy}
use Rattle.std.specs.Map.{lookup, set_value}
use Rattle.std.specs.Ordering.{nat_cmp, is_eq, eq_by_cmp, ordering_then}
use Rattle.std.specs.Cmp.{IsTotalOrder, nat_cmp_is}
use Rattle.std.proofs.lemmas.Cmp.{tied_itself, ranked, nat_cmp_total, on_total, then_total}
use Rattle.std.proofs.lemmas.Map.Lookups.{exact_unsigned, exact_pairs}
use Rattle.std.proofs.lemmas.List.{map-append}
use Rattle.jls_values.specs.OrderedSetLaws.{sorted-append}
use Rattle.jls_values.proofs.Lists.{all_append}
use Rattle.jls_values.proofs.Tests.{tied}
use Rattle.jls_partial.specs.declared.packed_lines.PackedLines.{PackedLines}
use Rattle.jls_partial.specs.declared.line_place.LinePlace.{LinePlace}
use Rattle.jls_partial.specs.declared.line_place.PageNumber.{PageNumber}
use Rattle.jls_partial.specs.LineSet.{PictureLines, no_lines}
use Rattle.jls_partial.specs.PackedLines.{IsLineSet}
use Rattle.jls_partial.specs.Pages.{Row, Pages, page_cmp, page_of, pages_seen, rows_of, IsPage, IsPageOf, ArePages, ArePagesOf}
use Rattle.jls_partial.specs.LinePlace.{place_cmp}
use Rattle.jls_partial.specs.ReadingOrder.{place_total, same_place}
use Rattle.jls_partial.specs.Stored.{LineSlots, StoredLines, slots_of_entries, entries_in, rows_seen, stored_at, AreRowsOf, ChangesAt}
use Rattle.jls_partial.specs.Stored.{Extends, lines_in}
use Rattle.jls_partial.proofs.KeyedLists.{each_by, lookup_by}
use Rattle.jls_partial.proofs.StoredLines.{UpdatedBy, all_stay, still_packed, lookup_seen}

-- ---- the order of pages

page_total : IsTotalOrder page_cmp
page_total = then_total (on_total (λ (p : PageNumber). p.component) nat_cmp_total) (on_total (λ (p : PageNumber). p.number) nat_cmp_total)

-- two page numbers that compare as equal are one
same_page : (p q : PageNumber) → eq_by_cmp page_cmp p q ≡ true → p ≡ q
same_page p q e = ap (λ (x : ℕ × ℕ). record { component = x.0; number = x.1 })
    (exact_pairs nat_cmp nat_cmp exact_unsigned exact_unsigned (p.component, p.number) (q.component, q.number) (tied (page_cmp p q) e))

-- ---- lines and their pages

-- lines of an earlier page are before those of a later one
lines_apart : (m n : ℕ) → nat_cmp (m / 64) (n / 64) ≡ Less → nat_cmp m n ≡ Less
lines_apart m n h =
    let below : m / 64 < n / 64 = ranked (m / 64) (n / 64) Less (sym h) in
    let lines : m < n = omega (arith, below) in
    sym (nat_cmp_is m n Less lines)

-- lines of pages that rise rise
pub pages_apart : (a b : LinePlace) → page_cmp (page_of a) (page_of b) ≡ Less → place_cmp a b ≡ Less
pages_apart a b =
    elim (nat_cmp a.component b.component) as (λ o. ordering_then o (nat_cmp (a.line / 64) (b.line / 64)) ≡ Less
    → ordering_then o (nat_cmp a.line b.line) ≡ Less) [
      | Less ↦ λ h. refl
      | Equal ↦ λ h. lines_apart a.line b.line h
      | Greater ↦ λ h. absurd cc
    ]

page_itself : (p : PageNumber) → is_at (page_cmp p) p ≡ true
page_itself p = ap is_eq (tied_itself page_total p)

-- a line of another page is another line
other_line : (at q : LinePlace) → is_at (page_cmp (page_of at)) (page_of q) ≡ false → is_at (place_cmp at) q ≡ false
other_line at q h =
    elim (is_at (place_cmp at) q) as (λ b. is_at (place_cmp at) q ≡ b → b ≡ false) [
      | false ↦ λ e. refl
      | true ↦ λ e.
          let same : is_at (page_cmp (page_of at)) (page_of q) ≡ true =
          ap (λ (z : LinePlace). is_at (page_cmp (page_of at)) (page_of z)) (sym (same_place at q e)) ∙ page_itself (page_of at) in
          let bad : true ≡ false = sym same ∙ h in
          absurd cc
    ] refl

-- ---- what is found

abbrev items_or : Option (Vec Row Global) → List Row
items_or None = []
items_or (Some rows) = rows.items

-- the rows of the page of a line
abbrev pub rows_at : Pages → LinePlace → List Row
rows_at ps q = items_or (lookup (is_at (page_cmp (page_of q))) ps)

pub rows_there : (ps : Pages) (at : LinePlace) (v : Vec Row Global) → lookup (is_at (page_cmp (page_of at))) ps ≡ Some v → rows_at ps at
    ≡ v.items
rows_there ps at v found = ap items_or found

pub rows_missing : (ps : Pages) (at : LinePlace) → lookup (is_at (page_cmp (page_of at))) ps ≡ None → rows_at ps at ≡ []
rows_missing ps at missing = ap items_or missing

-- where the first list has nothing, the second is looked up
none_first : (t : LinePlace → Bool) (xs ys : List Row) → lookup t xs ≡ None → lookup t (xs ++ ys) ≡ lookup t ys
none_first t [] ys h = refl
none_first t (x ∷ xs) ys h =
    elim (t x.0) as (λ b. cond b (Some x.1) (lookup t xs) ≡ None → cond b (Some x.1) (lookup t (xs ++ ys)) ≡ lookup t ys) [
      | true ↦ λ e. absurd cc
      | false ↦ λ e. none_first t xs ys e
    ] h

-- where the second list has nothing, the first alone is looked up
none_second : (t : LinePlace → Bool) (xs ys : List Row) → lookup t ys ≡ None → lookup t (xs ++ ys) ≡ lookup t xs
none_second t [] ys h = h
none_second t (x ∷ xs) ys h = ap (λ o. cond (t x.0) (Some x.1) o) (none_second t xs ys h)

-- a line has no row in another page
none_elsewhere : (q : LinePlace) (page : PageNumber) (rows : List Row) → is_at (page_cmp (page_of q)) page ≡ false
    → AllByRecursion (λ r. page_of r.0 ≡ page) rows
    → lookup (is_at (place_cmp q)) rows ≡ None
none_elsewhere q page [] h own = refl
none_elsewhere q page (r ∷ rows) h own =
    let apart : is_at (place_cmp q) r.0 ≡ false = other_line q r.0 (ap (is_at (page_cmp (page_of q))) own.0 ∙ h) in
    ap (λ b. cond b (Some r.1) (lookup (is_at (place_cmp q)) rows)) apart ∙ none_elsewhere q page rows h own.1

-- nor in the pages after its own
none_after : (q : LinePlace) (page : PageNumber) (ps : Pages) → is_at (page_cmp (page_of q)) page ≡ true
    → AllByRecursion (λ k. page_cmp page k ≡ Less) (map (λ p. p.0) ps) → AllByRecursion (λ p. IsPage p.0 p.1.items) ps
    → lookup (is_at (place_cmp q)) (rows_of ps) ≡ None
none_after q page [] h above each = refl
none_after q page (p ∷ ps) h above each =
    let same : page_of q ≡ page = same_page (page_of q) page h in
    let apart : is_at (page_cmp (page_of q)) p.0 ≡ false = ap (λ (z : PageNumber). is_at (page_cmp z) p.0) same ∙ ap is_eq above.0 in
    none_first (is_at (place_cmp q)) p.1.items (rows_of ps) (none_elsewhere q p.0 p.1.items apart each.0.own)
    ∙ none_after q page ps h above.1 each.1

-- what is found of a line among all rows is found in its page
found_in_page : (ps : Pages) (q : LinePlace) → IsStrictlySortedBy page_cmp (map (λ p. p.0) ps)
    → AllByRecursion (λ p. IsPage p.0 p.1.items) ps
    → lookup (is_at (place_cmp q)) (rows_of ps) ≡ lookup (is_at (place_cmp q)) (rows_at ps q)
unfolding IsStrictlySortedBy
found_in_page [] q sorted each = refl
found_in_page (p ∷ ps) q sorted each =
    let t = is_at (place_cmp q) in
    elim (is_at (page_cmp (page_of q)) p.0) as (λ b. is_at (page_cmp (page_of q)) p.0 ≡ b → lookup t (p.1.items ++ rows_of ps)
    ≡ lookup t (items_or (cond b (Some p.1) (lookup (is_at (page_cmp (page_of q))) ps)))) [
      | true ↦ λ e. none_second t p.1.items (rows_of ps) (none_after q p.0 ps e sorted.0 each.1)
      | false ↦ λ e. none_first t p.1.items (rows_of ps) (none_elsewhere q p.0 p.1.items e each.0.own) ∙ found_in_page ps q sorted.1 each.1
    ] refl

pub page_found : (ps : Pages) (q : LinePlace) → ArePages ps → lookup (is_at (place_cmp q)) (rows_of ps)
    ≡ lookup (is_at (place_cmp q)) (rows_at ps q)
page_found ps q are = found_in_page ps q are.sorted are.each

-- ---- all rows rise

-- a place of an earlier page is before each row of a later one
rows_above : (x : LinePlace) (page : PageNumber) (rows : List Row) → page_cmp (page_of x) page ≡ Less
    → AllByRecursion (λ r. page_of r.0 ≡ page) rows
    → AllByRecursion (λ y. place_cmp x y ≡ Less) (map (λ r. r.0) rows)
rows_above x page [] h own = tt
rows_above x page (r ∷ rows) h own = (pages_apart x r.0 (ap (page_cmp (page_of x)) own.0 ∙ h), rows_above x page rows h own.1)

-- a place is before all rows of pages that are after its page
pages_above : (x : LinePlace) (ps : Pages) → AllByRecursion (λ k. page_cmp (page_of x) k ≡ Less) (map (λ p. p.0) ps)
    → AllByRecursion (λ p. IsPage p.0 p.1.items) ps → AllByRecursion (λ y. place_cmp x y ≡ Less) (map (λ r. r.0) (rows_of ps))
pages_above x [] above each = tt
pages_above x (p ∷ ps) above each =
    subst (AllByRecursion (λ y. place_cmp x y ≡ Less)) (sym (map-append (λ (r : Row). r.0) p.1.items (rows_of ps)))
    (all_append (λ y. place_cmp x y ≡ Less) (map (λ r. r.0) p.1.items) (map (λ r. r.0) (rows_of ps))
    (rows_above x p.0 p.1.items above.0 each.0.own) (pages_above x ps above.1 each.1))

-- each row of a page is before all rows of the pages after it
each_above : (page : PageNumber) (rows : List Row) (ps : Pages) → AllByRecursion (λ r. page_of r.0 ≡ page) rows
    → AllByRecursion (λ k. page_cmp page k ≡ Less) (map (λ p. p.0) ps) → AllByRecursion (λ p. IsPage p.0 p.1.items) ps
    → AllByRecursion (λ x. AllByRecursion (λ y. place_cmp x y ≡ Less) (map (λ r. r.0) (rows_of ps))) (map (λ r. r.0) rows)
each_above page [] ps own above each = tt
each_above page (r ∷ rows) ps own above each = (
  pages_above r.0 ps (subst (λ (z : PageNumber). AllByRecursion (λ k. page_cmp z k ≡ Less) (map (λ p. p.0) ps)) (sym own.0) above) each,
  each_above page rows ps own.1 above each,
)

-- the rows of pages that rise, one page after the other, rise
rows_rise : (ps : Pages) → IsStrictlySortedBy page_cmp (map (λ p. p.0) ps) → AllByRecursion (λ p. IsPage p.0 p.1.items) ps
    → IsStrictlySortedBy place_cmp (map (λ r. r.0) (rows_of ps))
unfolding IsStrictlySortedBy
rows_rise [] sorted each = tt
rows_rise (p ∷ ps) sorted each =
    subst (IsStrictlySortedBy place_cmp) (sym (map-append (λ (r : Row). r.0) p.1.items (rows_of ps)))
    (sorted-append place_total (map (λ r. r.0) p.1.items) (map (λ r. r.0) (rows_of ps)) each.0.sorted (rows_rise ps sorted.1 each.1)
    (each_above p.0 p.1.items ps each.0.own sorted.0 each.1))

pub all_rise : (ps : Pages) → ArePages ps → IsStrictlySortedBy place_cmp (map (λ r. r.0) (rows_of ps))
all_rise ps are = rows_rise ps are.sorted are.each

-- ---- a page

pub page_here : (ps : Pages) (at : LinePlace) (v : Vec Row Global) → ArePages ps → lookup (is_at (page_cmp (page_of at))) ps ≡ Some v
    → IsPage (page_of at) v.items
page_here ps at v are found = subst (λ (o : Option (Vec Row Global)). IfSome o (λ w. IsPage (page_of at) w.items)) found
    (lookup_by page_total same_page (λ p. IsPage p.0 p.1.items) ps (page_of at) are.each)

-- one page more, or one changed
pub pages_more : (es fs : Pages) (page : PageNumber) (v : Vec Row Global) → ArePages es → UpdatedBy page_cmp es page v fs
    → IsStrictlySortedBy page_cmp (map (λ p. p.0) fs) → IsPage page v.items → ArePages fs
pages_more es fs page v are u order is = record {
  sorted = order;
  each = each_by page_total same_page (λ p. IsPage p.0 p.1.items) fs order
      (λ q. subst (λ (o : Option (Vec Row Global)). IfSome o (λ w. IsPage q w.items)) (sym (u q))
      (elim (is_at (page_cmp page) q) as (λ b. is_at (page_cmp page) q ≡ b
      → IfSome (cond b (Some v) (lookup (is_at (page_cmp q)) es)) (λ w. IsPage q w.items)) [
        | true ↦ λ e. subst (λ (z : PageNumber). IsPage z v.items) (same_page page q e) is
        | false ↦ λ e. lookup_by page_total same_page (λ p. IsPage p.0 p.1.items) es q are.each
      ] refl));
}

-- of a page that is found and written over
pub record IsPageWritten (es : Pages) (at : LinePlace) (w v : Vec Row Global) (fs : Pages) : Type 0 where
  pub found : lookup (is_at (page_cmp (page_of at))) es ≡ Some w
  pub is : fs ≡ set_value (is_at (page_cmp (page_of at))) es v
  pub updated : UpdatedBy page_cmp es (page_of at) v fs
  pub are : ArePages fs

-- where one page is put in place of another, and nothing else changes, that page is written
pub page_written : (es fs : Pages) (at : LinePlace) (page : PageNumber) (w v : Vec Row Global) → page ≡ page_of at → ArePages es
    → Some w ≡ lookup (is_at (page_cmp page)) es → fs ≡ set_value (is_at (page_cmp page)) es v
    → (IsSome (lookup (is_at (page_cmp page)) es) → UpdatedBy page_cmp es page v fs)
    → IsStrictlySortedBy page_cmp (map (λ p. p.0) fs) → IsPage (page_of at) v.items → IsPageWritten es at w v fs
page_written es fs at page w v named are found is u order kept =
    let updated : UpdatedBy page_cmp es (page_of at) v fs =
    subst (λ (z : PageNumber). UpdatedBy page_cmp es z v fs) named (u (subst (λ (o : Option (Vec Row Global)). IsSome o) found refl)) in
    record {
      found = ap (λ (z : PageNumber). lookup (is_at (page_cmp z)) es) (sym named) ∙ sym found;
      is = is ∙ ap (λ (z : PageNumber). set_value (is_at (page_cmp z)) es v) named;
      updated = updated;
      are = pages_more es fs (page_of at) v are updated order kept;
    }

-- ---- what is kept

-- what all pages have at a place is what its page has there
pub seen_page : (packed : PackedLines) (ps : Pages) (q : LinePlace) → ArePages ps
    → lookup (is_at (place_cmp q)) (entries_in packed (rows_of ps)) ≡ lookup (is_at (place_cmp q)) (entries_in packed (rows_at ps q))
seen_page packed ps q are =
    lookup_seen packed (rows_of ps) q (lookup (is_at (place_cmp q)) (rows_at ps q)) (page_found ps q are)
    ∙ sym (lookup_seen packed (rows_at ps q) q (lookup (is_at (place_cmp q)) (rows_at ps q)) refl)

-- the lines of a place are those of its page
pub lines_of_page : (packed : PackedLines) (ps : Pages) (at : LinePlace) → ArePages ps
    → stored_at (pages_seen packed ps) at ≡ stored_at (rows_seen packed (rows_at ps at)) at
lines_of_page packed ps at are =
    ap (λ (o : Option PictureLines). unwrap_or o (no_lines packed.precision packed.width)) (seen_page packed ps at are)

-- the lines at a place are those of its page
pub lines_there : (packed : PackedLines) (ps : Pages) (at : LinePlace) (v : Vec Row Global) → ArePages ps
    → lookup (is_at (page_cmp (page_of at))) ps ≡ Some v
    → stored_at (pages_seen packed ps) at ≡ stored_at (rows_seen packed v.items) at
lines_there packed ps at v are found =
    lines_of_page packed ps at are ∙ ap (λ (rows : List Row). stored_at (rows_seen packed rows) at) (rows_there ps at v found)

-- where there is no page, there are no lines
pub lines_missed : (packed : PackedLines) (ps : Pages) (at : LinePlace) → ArePages ps → lookup (is_at (page_cmp (page_of at))) ps ≡ None
    → stored_at (pages_seen packed ps) at ≡ no_lines packed.precision packed.width
lines_missed packed ps at are missing =
    lines_of_page packed ps at are ∙ ap (λ (rows : List Row). stored_at (rows_seen packed rows) at) (rows_missing ps at missing)

abbrev P : PackedLines → LineSlots → Type 0
P packed e = IsLineSet packed.precision packed.width packed.samples.items e.1

parts : (packed : PackedLines) (xs ys : List Row) → AllByRecursion (P packed) (slots_of_entries (xs ++ ys))
    → AllByRecursion (P packed) (slots_of_entries xs) × AllByRecursion (P packed) (slots_of_entries ys)
parts packed [] ys h = (tt, h)
parts packed (x ∷ xs) ys h = let k = parts packed xs ys h.1 in ((h.0, k.0), k.1)

each_page : (packed : PackedLines) (ps : Pages) → AllByRecursion (P packed) (slots_of_entries (rows_of ps))
    → AllByRecursion (λ p. AllByRecursion (P packed) (slots_of_entries p.1.items)) ps
each_page packed [] h = tt
each_page packed (p ∷ ps) h = let k = parts packed p.1.items (rows_of ps) h in (k.0, each_page packed ps k.1)

-- the rows of a page are of what is packed
page_packed : (packed : PackedLines) (ps : Pages) (page : PageNumber) (v : Vec Row Global) → AreRowsOf packed (rows_of ps)
    → lookup (is_at (page_cmp page)) ps ≡ Some v → AreRowsOf packed v.items
page_packed packed ps page v rows_packed found = record {
  precision_at_most = rows_packed.precision_at_most;
  width_at_least = rows_packed.width_at_least;
  each = subst (λ (o : Option (Vec Row Global)). IfSome o (λ w. AllByRecursion (P packed) (slots_of_entries w.items))) found
      (lookup_by page_total same_page (λ p. AllByRecursion (P packed) (slots_of_entries p.1.items)) ps page
      (each_page packed ps rows_packed.each));
}

-- the page that is looked up has its rows, and is of what is packed
pub rows_here : (packed : PackedLines) (ps : Pages) (at : LinePlace) (v : Vec Row Global) → ArePagesOf packed ps
    → lookup (is_at (page_cmp (page_of at))) ps ≡ Some v
    → IsPageOf packed (page_of at) v.items
rows_here packed ps at v are found = record {
  page = page_here ps at v are.pages found;
  rows_packed = page_packed packed ps (page_of at) v are.rows_packed found;
}

-- ---- a page that is changed, or made

module _ (old new : PackedLines) (longer : Extends old new) (es fs : Pages) (at : LinePlace) (v : Vec Row Global)
    (pages : ArePagesOf old es) (are_new : ArePages fs) (u : UpdatedBy page_cmp es (page_of at) v fs) where
  -- a line of that page, or of another
  by_page : (G : Option PictureLines → Type 0) (q : LinePlace)
      → (page_of at ≡ page_of q → G (lookup (is_at (place_cmp q)) (entries_in new v.items)))
      → (is_at (place_cmp at) q ≡ false → G (lookup (is_at (place_cmp q)) (entries_in old (rows_of es))))
      → G (lookup (is_at (place_cmp q)) (entries_in new (rows_of fs)))
  by_page G q here there =
      subst G (sym (seen_page new fs q are_new
      ∙ ap (λ (o : Option (Vec Row Global)). lookup (is_at (place_cmp q)) (entries_in new (items_or o))) (u (page_of q))))
      (elim (is_at (page_cmp (page_of at)) (page_of q)) as (λ b. is_at (page_cmp (page_of at)) (page_of q) ≡ b
      → G (lookup (is_at (place_cmp q)) (entries_in new (items_or (cond b (Some v) (lookup (is_at (page_cmp (page_of q))) es)))))) [
        | true ↦ λ e. here (same_page (page_of at) (page_of q) e)
        | false ↦ λ e. subst G (sym (sym (seen_page new es q pages.pages)
            ∙ ap (lookup (is_at (place_cmp q))) (all_stay old new longer (slots_of_entries (rows_of es)) pages.rows_packed)))
            (there (other_line at q e))
      ] refl)

  -- what has changed in the page has changed in the whole
  pub page_changes : (C : PictureLines → PictureLines → Type 0) → ChangesAt (rows_seen old (rows_at es at)) at C (rows_seen new v.items)
      → ChangesAt (pages_seen old es) at C (pages_seen new fs)
  page_changes C h = record {
    precision = h.precision;
    width = h.width;
    lines = h.lines;
    changed = subst (λ (L : PictureLines). C L h.lines) (sym (lines_of_page old es at pages.pages)) h.changed;
    puts = λ q.
        by_page (λ o. o ≡ cond (is_at (place_cmp at) q) (Some h.lines) (lookup (is_at (place_cmp q)) (entries_in old (rows_of es)))) q
        (λ same. h.puts q ∙ ap (cond (is_at (place_cmp at) q) (Some h.lines)) (was q same))
        (λ apart. sym (ap (λ b. cond b (Some h.lines) (lookup (is_at (place_cmp q)) (entries_in old (rows_of es)))) apart));
  }
    where
      was : (q : LinePlace) → page_of at ≡ page_of q → lookup (is_at (place_cmp q)) (entries_in old (rows_at es at))
          ≡ lookup (is_at (place_cmp q)) (entries_in old (rows_of es))
      was q same =
          ap (λ (page : PageNumber). lookup (is_at (place_cmp q)) (entries_in old (items_or (lookup (is_at (page_cmp page)) es)))) same
          ∙ sym (seen_page old es q pages.pages)

  -- where a page of what is packed is put in, all pages are of what is packed
  pub pages_packed : IsPageOf new (page_of at) v.items → ArePagesOf new fs
  pages_packed page =
      let still = still_packed old new longer (slots_of_entries (rows_of es)) pages.rows_packed in
      record {
        pages = are_new;
        rows_packed = record {
          precision_at_most = still.precision_at_most;
          width_at_least = still.width_at_least;
          each = all_pages fs (each_by page_total same_page (λ p. AllByRecursion (P new) (slots_of_entries p.1.items)) fs are_new.sorted
              (λ q.
              subst (λ (o : Option (Vec Row Global)). IfSome o (λ w. AllByRecursion (P new) (slots_of_entries w.items))) (sym (u q))
              (elim (is_at (page_cmp (page_of at)) q) as (λ b. IfSome (cond b (Some v) (lookup (is_at (page_cmp q)) es))
              (λ w. AllByRecursion (P new) (slots_of_entries w.items))) [
                | true ↦ page.rows_packed.each
                | false ↦ lookup_by page_total same_page (λ p. AllByRecursion (P new) (slots_of_entries p.1.items)) es q
                    (each_page new es still.each)
              ])));
        };
      }
    where
      joined : (xs ys : List Row) → AllByRecursion (P new) (slots_of_entries xs) → AllByRecursion (P new) (slots_of_entries ys)
          → AllByRecursion (P new) (slots_of_entries (xs ++ ys))
      joined [] ys h k = k
      joined (x ∷ xs) ys h k = (h.0, joined xs ys h.1 k)

      all_pages : (ps : Pages) → AllByRecursion (λ p. AllByRecursion (P new) (slots_of_entries p.1.items)) ps
          → AllByRecursion (P new) (slots_of_entries (rows_of ps))
      all_pages [] h = tt
      all_pages (p ∷ ps) h = joined p.1.items (rows_of ps) h.0 (all_pages ps h.1)

-- ---- a page that is seen as before

seen-append : (packed : PackedLines) (xs ys : List Row) → entries_in packed (xs ++ ys) ≡ entries_in packed xs ++ entries_in packed ys
seen-append packed [] ys = refl
seen-append packed (x ∷ xs) ys = ap (λ t. (x.0, lines_in packed x.1) ∷ t) (seen-append packed xs ys)

-- where a page is put in place of one that is seen alike, all pages are seen as before
same_seen : (packed : PackedLines) (t : PageNumber → Bool) (ps : Pages) (v : Vec Row Global)
    → IfSome (lookup t ps) (λ w. entries_in packed v.items ≡ entries_in packed w.items) → entries_in packed (rows_of (set_value t ps v))
    ≡ entries_in packed (rows_of ps)
same_seen packed t [] v h = refl
same_seen packed t (p ∷ ps) v h =
    elim (t p.0) as (λ b. IfSome (cond b (Some p.1) (lookup t ps)) (λ w. entries_in packed v.items ≡ entries_in packed w.items)
    → entries_in packed (rows_of (cond b ((p.0, v) ∷ ps) (p ∷ set_value t ps v))) ≡ entries_in packed (p.1.items ++ rows_of ps)) [
      | true ↦ λ e. seen-append packed v.items (rows_of ps) ∙ ap (λ t. t ++ entries_in packed (rows_of ps)) e
          ∙ sym (seen-append packed p.1.items (rows_of ps))
      | false ↦ λ e. seen-append packed p.1.items (rows_of (set_value t ps v))
          ∙ ap (λ t. entries_in packed p.1.items ++ t) (same_seen packed t ps v e) ∙ sym (seen-append packed p.1.items (rows_of ps))
    ] h

-- such a page changes nothing
pub page_same : (old new : PackedLines) → Extends old new → (es fs : Pages) (at : LinePlace) (w v : Vec Row Global)
    → AreRowsOf old (rows_of es)
    → lookup (is_at (page_cmp (page_of at))) es ≡ Some w → fs ≡ set_value (is_at (page_cmp (page_of at))) es v
    → rows_seen new v.items ≡ rows_seen old w.items → pages_seen new fs ≡ pages_seen old es
page_same old new longer es fs at w v rows_packed found is same =
    let t = is_at (page_cmp (page_of at)) in
    let before = all_stay old new longer (slots_of_entries w.items) (page_packed old es (page_of at) w rows_packed found) in
    let entries =
    ap (λ (ps : Pages). entries_in new (rows_of ps)) is
    ∙ same_seen new t es v (subst (λ (o : Option (Vec Row Global)). IfSome o (λ w. entries_in new v.items ≡ entries_in new w.items))
    (sym found) (ap (λ (s : StoredLines). s.entries) same ∙ sym before))
    ∙ all_stay old new longer (slots_of_entries (rows_of es)) rows_packed in
    λ i. record { precision = longer.precision i; width = longer.width i; entries = entries i }
