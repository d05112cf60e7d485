use Rattle.std.specs.Prelude.{IsTrue}
use Rattle.jls_mend.specs.Asking.{IsNumberOf}
use Rattle.jls_mend.proofs.ListFiles.{list_at}
use Rattle.jls_mend.proofs.asking.are_of_copies.Goals as goal

pub returns-then-not-is_number_of : goal.returns-then-not-is_number_of
returns-then-not-is_number_of c = (
  λ t. absurd cc,
  λ all. let is = list_at c.args.bad.now c.loop-list.list-index c.loop-list-test.true (λ l. IsNumberOf c.args.count l.copy) _ all in
      let yes : IsTrue c.is_number_of.result = c.is_number_of.ensures.1 is in
      let no = c.if-not-is_number_of.true in
      absurd cc,
)
