use Rattle.std.proofs.Common.{◌≡◌, Some, ◌<◌, List, length, get_or, map, ap, sym, subst, ◌∙◌}
use Rattle.std.specs.BTreeMap.{is_at}
use Rattle.std.specs.List.Sorted.{IsStrictlySortedBy}
use Rattle.std.specs.Map.{lookup}
use Rattle.jls_partial.specs.Packed.{IsGap}
use Rattle.jls_partial.specs.Pages.{IsPage, Row, page_cmp, page_of, rows_of}
use Rattle.jls_partial.specs.LinePlace.{place_cmp}
use Rattle.jls_partial.specs.declared.line_place.PageNumber.{PageNumber}
use Rattle.jls_partial.proofs.Pages.{page_found, page_here, rows_there, rows_missing}
use Rattle.jls_partial.proofs.PageRows.{row_found, row_missing}
use Rattle.jls_partial.proofs.line_pages.row_at.Goals.{In-Some}
use Rattle.jls_partial.proofs.line_pages.row_at.Goals as goal

-- the rows of its page
found : (c : In-Some) → lookup (is_at (page_cmp (page_of c.args.at))) c.args.pages.now.entries ≡ Some c.in-Some.rows.now
found c = ap (λ (z : PageNumber). lookup (is_at (page_cmp z)) c.args.pages.now.entries) (sym c.page.ensures) ∙ sym c.in-Some.ensures.value

page : (c : In-Some) → IsPage (page_of c.args.at) c.in-Some.rows.now.items
page c = page_here c.args.pages.now.entries c.args.at c.in-Some.rows.now c.requires (found c)

-- what is found among these is what is found among all
among : (c : In-Some) → lookup (is_at (place_cmp c.args.at)) (rows_of c.args.pages.now.entries)
    ≡ lookup (is_at (place_cmp c.args.at)) c.in-Some.rows.now.items
among c = page_found c.args.pages.now.entries c.args.at c.requires
    ∙ ap (lookup (is_at (place_cmp c.args.at))) (rows_there c.args.pages.now.entries c.args.at c.in-Some.rows.now (found c))

pub find_row-requires : goal.find_row-requires
find_row-requires c =
    subst (λ (rows : List Row). IsStrictlySortedBy place_cmp (map (λ r. r.0) rows)) (sym c.deref.ensures.value)
    (page (goal.at.find_row-requires c).In-Some).sorted

-- the row of the place is found
pub returns-in-Ok : goal.returns-in-Ok
returns-in-Ok c =
    let here = (goal.at.returns-in-Ok c).In-Some in
    let rows = c.in-Some.rows.now.items in
    let lt : c.in-Ok.i < length rows = subst (λ (rs : List Row). c.in-Ok.i < length rs) c.deref.ensures.value c.in-Ok.ensures.found in
    let same : get_or (map (λ (r : Row). r.0) rows) c.in-Ok.i c.args.at ≡ c.args.at =
    subst (λ (rs : List Row). get_or (map (λ (r : Row). r.0) rs) c.in-Ok.i c.args.at ≡ c.args.at) c.deref.ensures.value
    c.in-Ok.ensures.same in
    sym (among here ∙ row_found rows c.args.at c.in-Ok.i c.index.result.now (page here).sorted lt same c.index.ensures)

-- the page has no row of the place
pub returns-in-Err : goal.returns-in-Err
returns-in-Err c =
    let rows = c.in-Some.rows.now.items in
    let gap : IsGap place_cmp (map (λ (r : Row). r.0) rows) c.in-Err.field-0 c.args.at =
    subst (λ (rs : List Row). IsGap place_cmp (map (λ (r : Row). r.0) rs) c.in-Err.field-0 c.args.at) c.deref.ensures.value
    c.in-Err.ensures.gap in
    sym (among (goal.at.returns-in-Err c).In-Some ∙ row_missing rows c.args.at c.in-Err.field-0 gap)

-- the place has no page
pub returns-in-None : goal.returns-in-None
returns-in-None c =
    let es = c.args.pages.now.entries in
    let at = c.args.at in
    let missing = ap (λ (z : PageNumber). lookup (is_at (page_cmp z)) es) (sym c.page.ensures) ∙ sym c.in-None.ensures.value in
    sym (page_found es at c.requires ∙ ap (lookup (is_at (place_cmp at))) (rows_missing es at missing))
