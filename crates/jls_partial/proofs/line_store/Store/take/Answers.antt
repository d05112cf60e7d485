use Rattle.std.proofs.Common.{ap, ◌∙◌}
use Rattle.std.proofs.lemmas.Result.{on_ok_weaker}
use Rattle.jls_partial.specs.Pages.{rows_of}
use Rattle.jls_partial.specs.Stored.{StoredLines, holds_line}
use Rattle.jls_partial.proofs.Pages.{all_rise}
use Rattle.jls_partial.proofs.StoredLines.{ordered_seen}
use Rattle.jls_partial.proofs.line_store.Store.take.Goals as goal

pub returns-clause-ordered : goal.returns-clause-ordered
returns-clause-ordered c =
    let ps = c.take_at.new.pages.entries in
    on_ok_weaker c.take_at.result (λ _. ordered_seen c.take_at.new.packed (rows_of ps) (all_rise ps c.take_at.ensures.pages.pages))
    c.take_at.ensures.ok

pub returns-clause-no_memory : goal.returns-clause-no_memory
returns-clause-no_memory c = λ h e.
    c.take_at.ensures.no_memory (ap (λ (s : StoredLines). holds_line s c.args.at c.args.samples.now) c.self.view_is ∙ h) e
