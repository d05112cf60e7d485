use Rattle.std.proofs.Common.{◌≡◌, ◌<◌, List, Some, None, length, ap, sym, subst, ◌∙◌}
use Rattle.std.specs.BTreeMap.{is_at}
use Rattle.std.specs.Map.{lookup}
use Rattle.std.proofs.lemmas.Result.{on_ok_weaker, on_err_weaker}
use Rattle.jls_values.specs.OrderedSet as set
use Rattle.jls_partial.specs.declared.line_place.PageNumber.{PageNumber}
use Rattle.jls_partial.specs.LineEntries.{MarksLine}
use Rattle.jls_partial.specs.LineSet.{PictureLines}
use Rattle.jls_partial.specs.Pages.{Row, page_cmp, page_of, pages_seen}
use Rattle.jls_partial.specs.Stored.{AddsSource, rows_seen, stored_at}
use Rattle.jls_partial.proofs.Pages.{rows_there, rows_here, page_written, IsPageWritten, lines_there, lines_missed, page_changes}
use Rattle.jls_partial.proofs.Pages.{pages_packed, page_same}
use Rattle.jls_partial.proofs.Store.{none_below}
use Rattle.jls_partial.proofs.StoredLines.{itself}
use Rattle.jls_partial.proofs.line_pages.mark_at.Goals.{In-Some, After-mark_row}
use Rattle.jls_partial.proofs.line_pages.mark_at.Goals as goal

-- the rows of its page
found : (c : In-Some) → lookup (is_at (page_cmp (page_of c.args.at))) c.args.pages.now.entries ≡ Some c.in-Some.rows.now
found c = ap (λ (z : PageNumber). lookup (is_at (page_cmp z)) c.args.pages.now.entries) (sym c.page.ensures) ∙ sym c.in-Some.ensures.value

-- what is written over them
written : (c : After-mark_row)
    → IsPageWritten c.args.pages.now.entries c.args.at c.in-Some.rows.now c.mark_row.new.rows
    (c.get_mut.follows.lender c.mark_row.new.rows).entries
written c =
    let v = c.mark_row.new.rows in
    let held = c.get_mut.follows.holds v in
    page_written c.args.pages.now.entries (c.get_mut.follows.lender v).entries c.args.at c.page.result c.in-Some.rows.now v c.page.ensures
    c.requires.pages.pages c.in-Some.ensures.value held.0 (λ some. (held.3 some).0) held.4 c.mark_row.ensures.page.page

pub mark_row-requires-clause-page : goal.mark_row-requires-clause-page
mark_row-requires-clause-page c =
    rows_here c.args.packed.now c.args.pages.now.entries c.args.at c.in-Some.rows.now c.requires.pages
    (found (goal.at.mark_row-requires-clause-page c).In-Some)

pub mark_row-requires-clause-within : goal.mark_row-requires-clause-within
mark_row-requires-clause-within c =
    let there = found (goal.at.mark_row-requires-clause-within c).In-Some in
    subst (λ (L : PictureLines). c.args.i < length (set.items L.lines))
    (lines_there c.args.packed.now c.args.pages.now.entries c.args.at c.in-Some.rows.now c.requires.pages.pages there) c.requires.within

-- the page of a held line is found
pub unreachable-requires : goal.unreachable-requires
unreachable-requires c =
    let packed = c.args.packed.now in
    let es = c.args.pages.now.entries in
    let at = c.args.at in
    let missing : lookup (is_at (page_cmp (page_of at))) es ≡ None =
    ap (λ (z : PageNumber). lookup (is_at (page_cmp z)) es) (sym c.page.ensures) ∙ sym c.in-None.ensures.value in
    none_below packed.precision packed.width c.args.i (stored_at (pages_seen packed es) at)
    (lines_missed packed es at c.requires.pages.pages missing) c.requires.within

-- the pages are in order still
pub returns-clause-pages : goal.returns-clause-pages
returns-clause-pages c =
    let packed = c.args.packed.now in
    let v = c.mark_row.new.rows in
    let w = written (goal.at.returns-clause-pages c).After-mark_row in
    pages_packed packed packed (itself packed) c.args.pages.now.entries (c.get_mut.follows.lender v).entries c.args.at v c.requires.pages
    w.are w.updated c.mark_row.ensures.page

-- the line of the place in its page has the source, and nothing else has changed
pub returns-clause-ok : goal.returns-clause-ok
returns-clause-ok c =
    let packed = c.args.packed.now in
    let at = c.args.at in
    let es = c.args.pages.now.entries in
    let v = c.mark_row.new.rows in
    let w = written (goal.at.returns-clause-ok c).After-mark_row in
    on_ok_weaker c.mark_row.result
    (λ adds. page_changes packed packed (itself packed) es (c.get_mut.follows.lender v).entries at v c.requires.pages w.are w.updated
    (λ was now. MarksLine was c.args.i c.args.source now)
    (subst (λ (rs : List Row). AddsSource (rows_seen packed rs) at c.args.i c.args.source (rows_seen packed v.items))
    (sym (rows_there es at c.in-Some.rows.now w.found)) adds))
    c.mark_row.ensures.ok

-- where memory is refused, nothing has changed
pub returns-clause-err : goal.returns-clause-err
returns-clause-err c =
    let packed = c.args.packed.now in
    let v = c.mark_row.new.rows in
    let w = written (goal.at.returns-clause-err c).After-mark_row in
    on_err_weaker c.mark_row.result
    (λ same. page_same packed packed (itself packed) c.args.pages.now.entries (c.get_mut.follows.lender v).entries c.args.at
    c.in-Some.rows.now v c.requires.pages.rows_packed w.found w.is same)
    c.mark_row.ensures.err
