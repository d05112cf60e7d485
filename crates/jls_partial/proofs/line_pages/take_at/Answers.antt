use Rattle.std.proofs.Common.{◌≡◌, Bool, List, Some, true, false, not, ap, sym, subst, ◌∙◌}
use Rattle.std.specs.Prelude.{IfOk}
use Rattle.std.specs.BTreeMap.{is_at}
use Rattle.std.specs.Cmp.Lexicographic.{slice_cmp}
use Rattle.std.specs.Map.{lookup}
use Rattle.std.specs.Ordering.{nat_cmp}
use Rattle.std.proofs.lemmas.Result.{on_ok_weaker, on_err_weaker}
use Rattle.jls_values.specs.OrderedSetLaws.{contains-empty}
use Rattle.jls_values.specs.OrderedSet as set
use Rattle.jls_partial.specs.declared.line_place.PageNumber.{PageNumber}
use Rattle.jls_partial.specs.LineEntries.{PutsLine}
use Rattle.jls_partial.specs.LineSet.{PictureLines}
use Rattle.jls_partial.specs.Pages.{Row, page_cmp, page_of, pages_seen}
use Rattle.jls_partial.specs.Stored.{TakesLine, holds_line, rows_seen, stored_at}
use Rattle.jls_partial.proofs.Pages.{rows_there, rows_here, page_written, IsPageWritten, lines_there, lines_missed, page_changes}
use Rattle.jls_partial.proofs.Pages.{pages_packed, page_same}
use Rattle.jls_partial.proofs.line_pages.take_at.Goals.{In-Some, In-None, After-take_row}
use Rattle.jls_partial.proofs.line_pages.take_at.Goals as goal

-- ---- a page that is there

-- the rows of its page
found : (c : In-Some) → lookup (is_at (page_cmp (page_of c.args.at))) c.args.pages.now.entries ≡ Some c.in-Some.rows.now
found c = ap (λ (z : PageNumber). lookup (is_at (page_cmp z)) c.args.pages.now.entries) (sym c.page.ensures) ∙ sym c.in-Some.ensures.value

-- its lines are those of its page
was : (c : In-Some) → stored_at (pages_seen c.args.packed.now c.args.pages.now.entries) c.args.at
    ≡ stored_at (rows_seen c.args.packed.now c.in-Some.rows.now.items) c.args.at
was c = lines_there c.args.packed.now c.args.pages.now.entries c.args.at c.in-Some.rows.now c.requires.pages.pages (found c)

-- what is written over them
written : (c : After-take_row)
    → IsPageWritten c.args.pages.now.entries c.args.at c.in-Some.rows.now c.take_row.new.rows
    (c.get_mut.follows.lender c.take_row.new.rows).entries
written c =
    let v = c.take_row.new.rows in
    let held = c.get_mut.follows.holds v in
    page_written c.args.pages.now.entries (c.get_mut.follows.lender v).entries c.args.at c.page.result c.in-Some.rows.now v c.page.ensures
    c.requires.pages.pages c.in-Some.ensures.value held.0 (λ some. (held.3 some).0) held.4 c.take_row.ensures.page.page

pub take_row-requires-clause-page : goal.take_row-requires-clause-page
take_row-requires-clause-page c =
    rows_here c.args.packed.now c.args.pages.now.entries c.args.at c.in-Some.rows.now c.requires.pages
    (found (goal.at.take_row-requires-clause-page c).In-Some)

-- the pages are in order, with the one that took the line
pub returns-in-Some-clause-pages : goal.returns-in-Some-clause-pages
returns-in-Some-clause-pages c =
    let v = c.take_row.new.rows in
    let w = written (goal.at.returns-in-Some-clause-pages c).After-take_row in
    pages_packed c.args.packed.now c.take_row.new.packed c.take_row.ensures.extends c.args.pages.now.entries
    (c.get_mut.follows.lender v).entries c.args.at v c.requires.pages w.are w.updated c.take_row.ensures.page

-- the line is taken into the page of its place
pub returns-in-Some-clause-ok : goal.returns-in-Some-clause-ok
returns-in-Some-clause-ok c =
    let old = c.args.packed.now in
    let new = c.take_row.new.packed in
    let at = c.args.at in
    let es = c.args.pages.now.entries in
    let v = c.take_row.new.rows in
    let w = written (goal.at.returns-in-Some-clause-ok c).After-take_row in
    on_ok_weaker c.take_row.result
    (λ takes. page_changes old new c.take_row.ensures.extends es (c.get_mut.follows.lender v).entries at v c.requires.pages w.are w.updated
    (λ was now. PutsLine was c.args.samples.now c.args.sources.now now)
    (subst (λ (rs : List Row). TakesLine (rows_seen old rs) at c.args.samples.now c.args.sources.now (rows_seen new v.items))
    (sym (rows_there es at c.in-Some.rows.now w.found)) takes))
    c.take_row.ensures.ok

-- where memory is refused, nothing has changed
pub returns-in-Some-clause-err : goal.returns-in-Some-clause-err
returns-in-Some-clause-err c =
    let v = c.take_row.new.rows in
    let w = written (goal.at.returns-in-Some-clause-err c).After-take_row in
    on_err_weaker c.take_row.result
    (λ same. page_same c.args.packed.now c.take_row.new.packed c.take_row.ensures.extends c.args.pages.now.entries
    (c.get_mut.follows.lender v).entries c.args.at c.in-Some.rows.now v c.requires.pages.rows_packed w.found w.is same)
    c.take_row.ensures.err

pub returns-in-Some-clause-added : goal.returns-in-Some-clause-added
returns-in-Some-clause-added c =
    subst (λ (L : PictureLines). IfOk c.take_row.result (λ added. added ≡ not (set.contains L.lines c.args.samples.now)))
    (sym (was (goal.at.returns-in-Some-clause-added c).In-Some)) c.take_row.ensures.added

pub returns-in-Some-clause-no_memory : goal.returns-in-Some-clause-no_memory
returns-in-Some-clause-no_memory c = λ h e.
    c.take_row.ensures.no_memory (sym
    (ap (λ (L : PictureLines). set.contains L.lines c.args.samples.now) (was (goal.at.returns-in-Some-clause-no_memory c).In-Some)) ∙ h) e

-- ---- a page that is missing

-- where there is no page, the line is not held
none_held : (c : In-None) → holds_line (pages_seen c.args.packed.now c.args.pages.now.entries) c.args.at c.args.samples.now ≡ false
none_held c =
    let es = c.args.pages.now.entries in
    let missing = ap (λ (z : PageNumber). lookup (is_at (page_cmp z)) es) (sym c.page.ensures) ∙ sym c.in-None.ensures.value in
    ap (λ (L : PictureLines). set.contains L.lines c.args.samples.now)
    (lines_missed c.args.packed.now es c.args.at c.requires.pages.pages missing)
    ∙ contains-empty (slice_cmp nat_cmp) c.args.samples.now

pub returns-in-None-clause-added : goal.returns-in-None-clause-added
returns-in-None-clause-added c =
    subst (λ (b : Bool). IfOk c.start_at.result (λ added. added ≡ not b)) (sym (none_held (goal.at.returns-in-None-clause-added c).In-None))
    c.start_at.ensures.added

pub returns-in-None-clause-no_memory : goal.returns-in-None-clause-no_memory
returns-in-None-clause-no_memory c = λ h e.
    let bad : true ≡ false = sym h ∙ none_held (goal.at.returns-in-None-clause-no_memory c).In-None in
    absurd cc
