use Rattle.std.proofs.Common.{◌≡◌, ◌++◌, ℕ, List, [], ◌∷◌, true, false, not, set, map, ap, sym, subst, ◌∙◌}
use Rattle.std.specs.BTreeMap.{is_at}
use Rattle.std.specs.Cmp.Lexicographic.{slice_cmp}
use Rattle.std.specs.Ordering.{nat_cmp}
use Rattle.jls_values.specs.OrderedSetLaws.{contains-empty}
use Rattle.std.proofs.lemmas.Result.{err_from_is_err_and}
use Rattle.jls_values.specs.OrderedSet as sets
use Rattle.jls_partial.specs.declared.slots.Slots.{Slots}
use Rattle.jls_partial.specs.LineEntries.{PutsLine}
use Rattle.jls_partial.specs.Slots.{slots_of}
use Rattle.jls_partial.specs.LineSet.{PictureLines, no_lines, with_lines}
use Rattle.jls_partial.specs.Packed.{IsGap}
use Rattle.jls_partial.specs.Pages.{Row, page_of, IsPage}
use Rattle.jls_partial.specs.LinePlace.{place_cmp}
use Rattle.jls_partial.specs.Stored.{LineSlots, slots_of_entries, seen_entries, rows_seen, stored_at, holds_line, lines_in, AreSlotsPacked}
use Rattle.jls_partial.proofs.PageRows.{IsWritten, written, set_page, row_missing, insert_updates, insert_page}
use Rattle.jls_partial.proofs.StoredLines.{Updated, IsFirst, first_line, updated-map, changes_at, puts_line, more_packed, still_packed}
use Rattle.jls_partial.proofs.StoredLines.{all_stay, lines_found, lines_missing, slots_found, entries_same, ordered_slots}
use Rattle.jls_partial.proofs.line_pages.take_row.Goals.{After-index_mut, In-Err, After-append}
use Rattle.jls_partial.proofs.line_pages.take_row.Goals as goal

-- ---- a line that has a row

-- the rows with these slots in its row
abbrev rows_with : After-index_mut → Slots → List Row
rows_with c y = set c.args.rows.now.items c.in-Ok.i (c.index_mut.result.now.0, y)

rows_written : (c : After-index_mut) (y : Slots) → IsWritten c.args.rows.now.items c.args.at c.index_mut.result.now.1 y (rows_with c y)
rows_written c y =
    written c.args.rows.now.items c.deref.result.now c.args.at c.in-Ok.i c.index_mut.result.now y c.deref.ensures.value
    c.requires.page.page.sorted c.in-Ok.ensures.found c.in-Ok.ensures.same c.index_mut.ensures.value

-- its lines are those of its row
was : (c : After-index_mut) → stored_at (rows_seen c.args.packed.now c.args.rows.now.items) c.args.at
    ≡ lines_in c.args.packed.now c.index_mut.result.now.1
was c =
    let old = c.args.packed.now in
    let x = c.index_mut.result.now.1 in
    lines_found old c.args.rows.now.items c.args.at x (no_lines old.precision old.width) (rows_written c x).found

-- slots that are as before change nothing
same_rows : (c : After-index_mut) (y : Slots) → slots_of y ≡ slots_of c.index_mut.result.now.1 → slots_of_entries (rows_with c y)
    ≡ slots_of_entries c.args.rows.now.items
same_rows c y same =
    let w = rows_written c y in
    entries_same c.args.rows.now.items (rows_with c y) c.args.at c.index_mut.result.now.1 y w.found w.is same

page_with : (c : After-index_mut) (y : Slots) → IsPage (page_of c.args.at) (rows_with c y)
page_with c y =
    subst (IsPage (page_of c.args.at)) (sym (rows_written c y).is)
    (set_page (page_of c.args.at) c.args.rows.now.items (is_at (place_cmp c.args.at)) y c.requires.page.page)

pub take-requires-clause-slots : goal.take-requires-clause-slots
take-requires-clause-slots c =
    let x = c.index_mut.result.now.1 in
    slots_found c.args.packed.now c.args.rows.now.items c.args.at x c.requires.page.rows_packed
    (rows_written (goal.at.take-requires-clause-slots c).After-index_mut x).found

-- the place has a row, and memory is refused: the page is one still
pub returns-in_err-added-in-Ok-clause-page : goal.returns-in_err-added-in-Ok-clause-page
returns-in_err-added-in-Ok-clause-page c =
    let here = (goal.at.returns-in_err-added-in-Ok-clause-page c).After-index_mut in
    let new = c.take.new.self in
    let y = c.take.new.slots in
    record {
      page = page_with here y;
      rows_packed = subst (AreSlotsPacked new.precision new.width new.samples.items)
          (sym (same_rows here y c.in_err-added-in-Ok.ensures.err_slots))
          (still_packed c.args.packed.now new c.take.ensures.extends (slots_of_entries c.args.rows.now.items) c.requires.page.rows_packed);
    }

-- the place has a row, and memory is refused: nothing has changed
pub returns-in_err-added-in-Ok-clause-err : goal.returns-in_err-added-in-Ok-clause-err
returns-in_err-added-in-Ok-clause-err c =
    let p = err_from_is_err_and c.from_residual.result c.from_residual.ensures.1 in
    let new = c.take.new.self in
    let longer = c.take.ensures.extends in
    let same = same_rows (goal.at.returns-in_err-added-in-Ok-clause-err c).After-index_mut c.take.new.slots
    c.in_err-added-in-Ok.ensures.err_slots in
    let entries = ap (λ (ss : List LineSlots). seen_entries new.precision new.width new.samples.items ss) same
    ∙ all_stay c.args.packed.now new longer (slots_of_entries c.args.rows.now.items) c.requires.page.rows_packed in
    rw p.1 (λ i. record { precision = longer.precision i; width = longer.width i; entries = entries i })

-- a held line without new sources needs no memory
pub returns-in_err-added-in-Ok-clause-no_memory : goal.returns-in_err-added-in-Ok-clause-no_memory
returns-in_err-added-in-Ok-clause-no_memory c = λ h e.
    let found = was (goal.at.returns-in_err-added-in-Ok-clause-no_memory c).After-index_mut in
    let bad : false ≡ true = c.in_err-added-in-Ok.ensures.no_memory
    (sym (ap (λ (L : PictureLines). sets.contains L.lines c.args.samples.now) found) ∙ h) e in
    absurd cc

-- the place has a row, which takes the line: the page is one still
pub returns-in_ok-added-in-Ok-clause-page : goal.returns-in_ok-added-in-Ok-clause-page
returns-in_ok-added-in-Ok-clause-page c =
    let here = (goal.at.returns-in_ok-added-in-Ok-clause-page c).After-index_mut in
    let rows = c.args.rows.now.items in
    let at = c.args.at in
    let y = c.take.new.slots in
    let fs = rows_with here y in
    record {
      page = page_with here y;
      rows_packed = more_packed c.args.packed.now c.take.new.self c.take.ensures.extends (slots_of_entries rows) (slots_of_entries fs) at
          (slots_of y) c.requires.page.rows_packed (updated-map slots_of rows fs at y (rows_written here y).updated) c.take.ensures.slots
          (ordered_slots fs (page_with here y).sorted);
    }

-- the place has a row, which takes the line
pub returns-in_ok-added-in-Ok-clause-ok : goal.returns-in_ok-added-in-Ok-clause-ok
returns-in_ok-added-in-Ok-clause-ok c =
    let here = (goal.at.returns-in_ok-added-in-Ok-clause-ok c).After-index_mut in
    let new = c.take.new.self in
    let rows = c.args.rows.now.items in
    let at = c.args.at in
    let x = c.args.samples.now in
    let ss = c.args.sources.now in
    let y = c.take.new.slots in
    let fs = rows_with here y in
    changes_at c.args.packed.now new c.take.ensures.extends (slots_of_entries rows) (slots_of_entries fs) at (slots_of y)
    c.requires.page.rows_packed (updated-map slots_of rows fs at y (rows_written here y).updated)
    (λ was now. PutsLine was x ss now)
    (puts_line _ x ss new (slots_of y) c.take.ensures.slots c.len.ensures.small
    (c.in_ok-added-in-Ok.ensures.ok ∙ ap (λ (L : PictureLines). with_lines L ((x, ss) ∷ [])) (sym (was here))))

pub returns-in_ok-added-in-Ok-clause-added : goal.returns-in_ok-added-in-Ok-clause-added
returns-in_ok-added-in-Ok-clause-added c =
    c.in_ok-added-in-Ok.ensures.added
    ∙ ap (λ (L : PictureLines). not (sets.contains L.lines c.args.samples.now))
    (sym (was (goal.at.returns-in_ok-added-in-Ok-clause-added c).After-index_mut))

-- ---- the first line of its place

gap : (c : In-Err) → IsGap place_cmp (map (λ r. r.0) c.args.rows.now.items) c.in-Err.i c.args.at
gap c = subst (λ (rs : List Row). IsGap place_cmp (map (λ (r : Row). r.0) rs) c.in-Err.i c.args.at) c.deref.ensures.value
    c.in-Err.ensures.gap

-- its place has no line
missing : (c : In-Err) → stored_at (rows_seen c.args.packed.now c.args.rows.now.items) c.args.at
    ≡ no_lines c.args.packed.now.precision c.args.packed.now.width
missing c =
    let old = c.args.packed.now in
    let rows = c.args.rows.now.items in
    lines_missing old rows c.args.at (no_lines old.precision old.width) (row_missing rows c.args.at c.in-Err.i (gap c))

none_held : (c : In-Err) → holds_line (rows_seen c.args.packed.now c.args.rows.now.items) c.args.at c.args.samples.now ≡ false
none_held c = ap (λ (L : PictureLines). sets.contains L.lines c.args.samples.now) (missing c)
    ∙ contains-empty (slice_cmp nat_cmp) c.args.samples.now

-- a line at a place that had none is the first there
first : (c : After-append) → IsFirst c.args.packed.now c.append.new.self c.args.samples.now c.args.sources.now
    (slots_of c.in_ok-new-in-Err.new)
first c =
    first_line c.args.packed.now c.append.new.self c.args.samples.now c.args.sources.now (slots_of c.in_ok-new-in-Err.new)
    (slots_of_entries c.args.rows.now.items) c.requires.page.rows_packed c.requires.fits c.in_ok-new-in-Err.ensures.slots
    (c.append.ensures.precision ∙ c.in_ok-new-in-Err.ensures.precision) (c.append.ensures.width ∙ c.in_ok-new-in-Err.ensures.width)
    (c.append.ensures.samples ∙ ap (λ (xs : List ℕ). xs ++ c.args.samples.now) c.in_ok-new-in-Err.ensures.same)

updated : (c : After-append) → IsGap place_cmp (map (λ r. r.0) c.args.rows.now.items) c.in-Err.i c.args.at
    → Updated c.args.rows.now.items c.args.at c.in_ok-new-in-Err.new c.insert.new.self.items
updated c none =
    subst (Updated c.args.rows.now.items c.args.at c.in_ok-new-in-Err.new) (sym c.in_ok-insert-in-Err.ensures.items)
    (insert_updates c.args.rows.now.items c.args.at c.in-Err.i c.in_ok-new-in-Err.new none)

pub returns-in_err-new-in-Err-clause-no_memory : goal.returns-in_err-new-in-Err-clause-no_memory
returns-in_err-new-in-Err-clause-no_memory c = λ h e.
    let bad : true ≡ false = sym h ∙ none_held (goal.at.returns-in_err-new-in-Err-clause-no_memory c).In-Err in
    absurd cc

pub returns-in_err-insert-in-Err-clause-no_memory : goal.returns-in_err-insert-in-Err-clause-no_memory
returns-in_err-insert-in-Err-clause-no_memory c = λ h e.
    let bad : true ≡ false = sym h ∙ none_held (goal.at.returns-in_err-insert-in-Err-clause-no_memory c).In-Err in
    absurd cc

pub returns-in_ok-insert-in-Err-clause-added : goal.returns-in_ok-insert-in-Err-clause-added
returns-in_ok-insert-in-Err-clause-added c = sym (ap not (none_held (goal.at.returns-in_ok-insert-in-Err-clause-added c).In-Err))

-- the place gets a row: the page is one still
pub returns-in_ok-insert-in-Err-clause-page : goal.returns-in_ok-insert-in-Err-clause-page
returns-in_ok-insert-in-Err-clause-page c =
    let here = goal.at.returns-in_ok-insert-in-Err-clause-page c in
    let f = first here.After-append in
    let none = gap here.In-Err in
    let rows = c.args.rows.now.items in
    let at = c.args.at in
    let fs = c.insert.new.self.items in
    let own = c.in_ok-new-in-Err.new in
    let page = subst (IsPage (page_of at)) (sym c.in_ok-insert-in-Err.ensures.items)
    (insert_page rows at c.in-Err.i own c.requires.page.page none) in
    record {
      page = page;
      rows_packed = more_packed c.args.packed.now c.append.new.self f.longer (slots_of_entries rows) (slots_of_entries fs) at (slots_of own)
          c.requires.page.rows_packed (updated-map slots_of rows fs at own (updated here.After-append none)) f.kept
          (ordered_slots fs page.sorted);
    }

-- the place gets a row, with the line as its first
pub returns-in_ok-insert-in-Err-clause-ok : goal.returns-in_ok-insert-in-Err-clause-ok
returns-in_ok-insert-in-Err-clause-ok c =
    let here = goal.at.returns-in_ok-insert-in-Err-clause-ok c in
    let f = first here.After-append in
    let new = c.append.new.self in
    let rows = c.args.rows.now.items in
    let at = c.args.at in
    let x = c.args.samples.now in
    let ss = c.args.sources.now in
    let fs = c.insert.new.self.items in
    let own = c.in_ok-new-in-Err.new in
    changes_at c.args.packed.now new f.longer (slots_of_entries rows) (slots_of_entries fs) at (slots_of own) c.requires.page.rows_packed
    (updated-map slots_of rows fs at own (updated here.After-append (gap here.In-Err)))
    (λ was now. PutsLine was x ss now)
    (subst (λ (L : PictureLines). PutsLine L x ss (lines_in new own)) (sym (missing here.In-Err)) f.puts)
