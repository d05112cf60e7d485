use Rattle.std.proofs.Common.{◌≡◌, ◌++◌, ℕ, List, [], ◌∷◌, ap, sym, subst, ◌∙◌}
use Rattle.jls_partial.specs.declared.line_place.PageNumber.{PageNumber}
use Rattle.jls_partial.specs.LineEntries.{PutsLine}
use Rattle.jls_partial.specs.Slots.{slots_of}
use Rattle.jls_partial.specs.Pages.{Row, page_cmp, page_of, rows_of, IsPageOf}
use Rattle.jls_partial.specs.Stored.{slots_of_entries, rows_seen, AreRowsOf, TakesLine}
use Rattle.jls_partial.proofs.PageRows.{first_page, first_updates}
use Rattle.jls_partial.proofs.Pages.{rows_missing, pages_more, page_changes, pages_packed}
use Rattle.jls_partial.proofs.StoredLines.{UpdatedBy, IsFirst, first_line, updated-map, changes_at}
use Rattle.jls_partial.proofs.line_pages.start_at.Goals.{After-append}
use Rattle.jls_partial.proofs.line_pages.start_at.Goals as goal

-- the line is the first of its place
first : (c : After-append) → IsFirst c.args.packed.now c.append.new.self c.args.samples.now c.args.sources.now (slots_of c.in_ok-new.new)
first c =
    first_line c.args.packed.now c.append.new.self c.args.samples.now c.args.sources.now (slots_of c.in_ok-new.new)
    (slots_of_entries (rows_of c.args.pages.now.entries)) c.requires.pages.rows_packed c.requires.fits c.in_ok-new.ensures.slots
    (c.append.ensures.precision ∙ c.in_ok-new.ensures.precision) (c.append.ensures.width ∙ c.in_ok-new.ensures.width)
    (c.append.ensures.samples ∙ ap (λ (xs : List ℕ). xs ++ c.args.samples.now) c.in_ok-new.ensures.same)

-- its row alone is its page
rows_are : (c : After-append) → c.push.new.self.items ≡ (c.args.at, c.in_ok-new.new) ∷ []
rows_are c = c.in_ok-push.ensures.items ∙ ap (λ (rs : List Row). rs ++ (c.args.at, c.in_ok-new.new) ∷ []) c.new-rows.ensures.items

updated : (c : After-append) → UpdatedBy page_cmp c.args.pages.now.entries (page_of c.args.at) c.push.new.self c.insert.new.self.entries
updated c = subst (λ (z : PageNumber). UpdatedBy page_cmp c.args.pages.now.entries z c.push.new.self c.insert.new.self.entries)
    c.page.ensures c.in_ok-insert.ensures.updates.0

-- the pages with the new one are in order
pub returns-clause-pages : goal.returns-clause-pages
returns-clause-pages c =
    let here = (goal.at.returns-clause-pages c).After-append in
    let new = c.append.new.self in
    let at = c.args.at in
    let es = c.args.pages.now.entries in
    let fs = c.insert.new.self.entries in
    let v = c.push.new.self in
    let kept = (first here).kept in
    let page : IsPageOf new (page_of at) v.items = subst (IsPageOf new (page_of at)) (sym (rows_are here)) (record {
      page = first_page at c.in_ok-new.new;
      rows_packed = record { precision_at_most = kept.precision_at_most; width_at_least = kept.width_at_least; each = (kept, tt) };
    }) in
    pages_packed c.args.packed.now new (first here).longer es fs at v c.requires.pages
    (pages_more es fs (page_of at) v c.requires.pages.pages (updated here) c.in_ok-insert.ensures.ordered page.page) (updated here) page

-- the line is the first at its place, in a page of its own
pub returns-clause-ok : goal.returns-clause-ok
returns-clause-ok c =
    let here = (goal.at.returns-clause-ok c).After-append in
    let old = c.args.packed.now in
    let new = c.append.new.self in
    let x = c.args.samples.now in
    let ss = c.args.sources.now in
    let at = c.args.at in
    let es = c.args.pages.now.entries in
    let v = c.push.new.self in
    let own = c.in_ok-new.new in
    let nothing : AreRowsOf old [] =
    record {
      precision_at_most = c.requires.pages.rows_packed.precision_at_most;
      width_at_least =
          c.requires.pages.rows_packed.width_at_least;
      each = tt;
    } in
    let page : List Row = (at, own) ∷ [] in
    let put = updated-map slots_of [] page at own (first_updates at own) in
    page_changes old new (first here).longer es c.insert.new.self.entries at v c.requires.pages (returns-clause-pages c).pages
    (updated here) (λ was now. PutsLine was x ss now)
    (subst (λ (rs : List Row). TakesLine (rows_seen old rs) at x ss (rows_seen new v.items)) (sym (rows_missing es at c.requires.none))
    (subst (λ (rs : List Row). TakesLine (rows_seen old []) at x ss (rows_seen new rs)) (sym (rows_are here))
    (changes_at old new (first here).longer [] (slots_of_entries page) at (slots_of own) nothing put (λ was now. PutsLine was x ss now)
    (first here).puts)))
