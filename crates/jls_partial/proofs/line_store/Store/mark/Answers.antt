use Rattle.std.proofs.lemmas.Result.{on_ok_weaker}
use Rattle.jls_partial.specs.Pages.{rows_of}
use Rattle.jls_partial.proofs.Pages.{all_rise}
use Rattle.jls_partial.proofs.StoredLines.{ordered_seen}
use Rattle.jls_partial.proofs.line_store.Store.mark.Goals as goal

pub returns-clause-ordered : goal.returns-clause-ordered
returns-clause-ordered c =
    let ps = c.mark_at.new.pages.entries in
    on_ok_weaker c.mark_at.result (λ _. ordered_seen c.self.inside.packed (rows_of ps) (all_rise ps c.mark_at.ensures.pages.pages))
    c.mark_at.ensures.ok
