use Rattle.jls_partial.proofs.TextMerges.{rest_taken}
use Rattle.jls_partial.proofs.text_reading.read_rest.Goals as goal

pub returns-then-not-is_empty-clause-prefix : goal.returns-then-not-is_empty-clause-prefix
returns-then-not-is_empty-clause-prefix c =
    rest_taken c.args.form.size c.args.form.version c.args.partial.now.shape c.args.count c.args.bytes.now c.args.partial.now
    c.read_entries.new.partial c.in_ok-rest.rest.now c.in_ok-rest.ensures.read
