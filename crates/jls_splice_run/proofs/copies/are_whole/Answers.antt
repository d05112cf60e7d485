use Rattle.std.specs.Prelude.{IsTrue}
use Rattle.jls_splice_run.proofs.Members.{whole_at}
use Rattle.jls_splice_run.proofs.copies.are_whole.Goals as goal

pub returns-then-not-is_whole : goal.returns-then-not-is_whole
returns-then-not-is_whole c = (
  λ t. absurd cc,
  λ w. let v = c.copy-item.result in
      let e = whole_at c.args.copies.now c.loop-copy.copy-index v v c.loop-copy-test.true c.copy-item.is w in
      let y : IsTrue c.is_whole.result = c.is_whole.ensures.1 e in
      let n = c.if-not-is_whole.true in
      absurd cc,
)
