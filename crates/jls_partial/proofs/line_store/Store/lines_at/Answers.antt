use Rattle.std.proofs.Common.{ap, sym, ◌∙◌, Some, None}
use Rattle.std.specs.BTreeMap.{is_at}
use Rattle.std.specs.Map.{lookup}
use Rattle.jls_partial.specs.Pages.{rows_of}
use Rattle.jls_partial.specs.LinePlace.{place_cmp}
use Rattle.jls_partial.specs.Stored.{StoredLines}
use Rattle.jls_partial.proofs.StoredLines.{slots_found, lookup_seen}
use Rattle.jls_partial.proofs.line_store.Store.lines_at.Goals as goal

pub of-requires : goal.of-requires
of-requires c =
    slots_found c.self.inside.packed (rows_of c.self.inside.pages.entries) c.args.at c.in-Some.slots.now c.self.invariant.rows_packed
    (sym c.in-Some.ensures)

pub returns-in-Some : goal.returns-in-Some
returns-in-Some c =
    ap Some c.of.ensures ∙ sym (lookup_seen c.self.inside.packed (rows_of c.self.inside.pages.entries) c.args.at (Some c.in-Some.slots.now)
    (sym c.in-Some.ensures))
    ∙ ap (λ (s : StoredLines). lookup (is_at (place_cmp c.args.at)) s.entries) c.self.view_is

pub returns-in-None : goal.returns-in-None
returns-in-None c =
    sym (lookup_seen c.self.inside.packed (rows_of c.self.inside.pages.entries) c.args.at None (sym c.in-None.ensures))
    ∙ ap (λ (s : StoredLines). lookup (is_at (place_cmp c.args.at)) s.entries) c.self.view_is
