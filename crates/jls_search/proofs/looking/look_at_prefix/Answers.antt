use Rattle.jls_search.specs.Choices.{prefix_of}
use Rattle.jls_search.specs.Faultless.{IsDead, IsFaultless, IsSought}
use Rattle.jls_search.proofs.Prefixes.{of_some}
use Rattle.jls_search.proofs.WholeSplices.{dead_prefix}
use Rattle.jls_search.proofs.looking.look_at_prefix.Goals as goal

pub returns-then-dead : goal.returns-then-dead
returns-then-dead c = λ ps path is _ fed.
    dead_prefix c.args.judge.now.ceiling ps path is
    (λ more low sought. of_some c.args.reader (prefix_of ps path) (λ bytes. IsDead IsFaultless bytes) fed
    (c.in_ok-dead.ensures c.if-dead.true) more low sought.0)

pub returns-then-above : goal.returns-then-above
returns-then-above c = λ ps path is _ fed.
    dead_prefix c.args.judge.now.ceiling ps path is
    (of_some c.args.reader (prefix_of ps path) (λ bytes. IsDead (IsSought c.args.judge.now.ceiling) bytes) fed
    (c.in_ok-above.ensures c.if-above.true))

pub returns-then-goes_on : goal.returns-then-goes_on
returns-then-goes_on c = λ ps path is more fed. (more, fed)

pub returns : goal.returns
returns c = λ ps path is more fed. (more, tt)
