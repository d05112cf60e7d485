use Rattle.std.proofs.Common.{◌≡◌, ◌<◌, List, length, set, map, ap, sym, subst, arith}
use Rattle.std.specs.BTreeMap.{is_at}
use Rattle.std.proofs.lemmas.Result.{on_ok_weaker, on_err_weaker}
use Rattle.jls_values.specs.OrderedSet as sets
use Rattle.jls_partial.specs.LineEntries.{MarksLine}
use Rattle.jls_partial.specs.Slots.{slots_of}
use Rattle.jls_partial.specs.LineSet.{PictureLines, no_lines}
use Rattle.jls_partial.specs.Packed.{IsGap}
use Rattle.jls_partial.specs.Pages.{Row, page_of, IsPage}
use Rattle.jls_partial.specs.LinePlace.{place_cmp}
use Rattle.jls_partial.specs.Stored.{LineSlots, slots_of_entries, seen_entries, stored, stored_at, rows_seen, lines_in}
use Rattle.jls_partial.proofs.LineSets.{length_kept}
use Rattle.jls_partial.proofs.PageRows.{IsWritten, written, set_page, row_missing}
use Rattle.jls_partial.proofs.Store.{none_below}
use Rattle.jls_partial.specs.declared.slots.Slots.{Slots}
use Rattle.jls_partial.proofs.StoredLines.{updated-map, changes_at, more_packed, lines_found, lines_missing, slots_found, entries_same}
use Rattle.jls_partial.proofs.StoredLines.{ordered_slots, itself}
use Rattle.jls_partial.proofs.line_pages.mark_row.Goals.{After-index_mut}
use Rattle.jls_partial.proofs.line_pages.mark_row.Goals as goal

-- its row, with these slots in it
with_slots : (c : After-index_mut) (y : Slots) → IsWritten c.args.rows.now.items c.args.at c.index_mut.result.now.1 y
    (set c.args.rows.now.items c.in-Ok.k (c.index_mut.result.now.0, y))
with_slots c y = written c.args.rows.now.items c.deref.result.now c.args.at c.in-Ok.k c.index_mut.result.now y c.deref.ensures.value
    c.requires.page.page.sorted c.in-Ok.ensures.found c.in-Ok.ensures.same c.index_mut.ensures.value

-- its lines are those of its row
was : (c : After-index_mut) → stored_at (rows_seen c.args.packed.now c.args.rows.now.items) c.args.at
    ≡ lines_in c.args.packed.now c.index_mut.result.now.1
was c =
    let x = c.index_mut.result.now.1 in
    lines_found c.args.packed.now c.args.rows.now.items c.args.at x (no_lines c.args.packed.now.precision c.args.packed.now.width)
    (with_slots c x).found

pub mark-requires-clause-slots : goal.mark-requires-clause-slots
mark-requires-clause-slots c =
    let x = c.index_mut.result.now.1 in
    slots_found c.args.packed.now c.args.rows.now.items c.args.at x c.requires.page.rows_packed
    (with_slots (goal.at.mark-requires-clause-slots c).After-index_mut x).found

-- the line to be marked is one of the row
pub mark-requires-clause-within : goal.mark-requires-clause-within
mark-requires-clause-within c =
    let packed = c.args.packed.now in
    let x = c.index_mut.result.now in
    let here = lines_in packed x.1 in
    let below : c.args.i < length (sets.items here.lines) =
    subst (λ (L : PictureLines). c.args.i < length (sets.items L.lines))
    (was (goal.at.mark-requires-clause-within c).After-index_mut) c.requires.within in
    let many = length_kept packed.precision packed.width packed.samples.items (slots_of x.1) here (mark-requires-clause-slots c)
    (λ _. here) in
    omega (arith, below, many)

-- the row of a held line is found
pub unreachable-requires : goal.unreachable-requires
unreachable-requires c =
    let packed = c.args.packed.now in
    let rows = c.args.rows.now.items in
    let gap : IsGap place_cmp (map (λ (r : Row). r.0) rows) c.in-Err.field-0 c.args.at =
    subst (λ (rs : List Row). IsGap place_cmp (map (λ (r : Row). r.0) rs) c.in-Err.field-0 c.args.at) c.deref.ensures.value
    c.in-Err.ensures.gap in
    none_below packed.precision packed.width c.args.i (stored_at (rows_seen packed rows) c.args.at)
    (lines_missing packed rows c.args.at (no_lines packed.precision packed.width) (row_missing rows c.args.at c.in-Err.field-0 gap))
    c.requires.within

-- the page is one still
pub returns-clause-page : goal.returns-clause-page
returns-clause-page c =
    let packed = c.args.packed.now in
    let rows = c.args.rows.now.items in
    let at = c.args.at in
    let y = c.mark.new.slots in
    let fs = set rows c.in-Ok.k (c.index_mut.result.now.0, y) in
    let w = with_slots (goal.at.returns-clause-page c).After-index_mut y in
    let page = subst (IsPage (page_of at)) (sym w.is) (set_page (page_of at) rows (is_at (place_cmp at)) y c.requires.page.page) in
    record {
      page = page;
      rows_packed = more_packed packed packed (itself packed) (slots_of_entries rows) (slots_of_entries fs) at (slots_of y)
          c.requires.page.rows_packed (updated-map slots_of rows fs at y w.updated) c.mark.ensures.slots
          (ordered_slots fs page.sorted);
    }

-- the line has the source, and nothing else has changed
pub returns-clause-ok : goal.returns-clause-ok
returns-clause-ok c =
    let packed = c.args.packed.now in
    let rows = c.args.rows.now.items in
    let y = c.mark.new.slots in
    let fs = set rows c.in-Ok.k (c.index_mut.result.now.0, y) in
    let here = (goal.at.returns-clause-ok c).After-index_mut in
    on_ok_weaker c.mark.result
    (λ marks. changes_at packed packed (itself packed) (slots_of_entries rows) (slots_of_entries fs) c.args.at (slots_of y)
    c.requires.page.rows_packed (updated-map slots_of rows fs c.args.at y (with_slots here y).updated)
    (λ was now. MarksLine was c.args.i c.args.source now)
    (subst (λ (L : PictureLines). MarksLine L c.args.i c.args.source (lines_in packed y)) (sym (was here)) marks))
    c.mark.ensures.ok

-- where memory is refused, the page is as it was
pub returns-clause-err : goal.returns-clause-err
returns-clause-err c =
    let packed = c.args.packed.now in
    let x = c.index_mut.result.now in
    let w = with_slots (goal.at.returns-clause-err c).After-index_mut c.mark.new.slots in
    on_err_weaker c.mark.result
    (λ same. ap (λ (ss : List LineSlots). stored packed (seen_entries packed.precision packed.width packed.samples.items ss))
    (entries_same c.args.rows.now.items (set c.args.rows.now.items c.in-Ok.k (x.0, c.mark.new.slots)) c.args.at x.1 c.mark.new.slots
    w.found w.is same))
    c.mark.ensures.err
