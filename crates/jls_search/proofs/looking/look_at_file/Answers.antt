use Rattle.std.proofs.Common.{◌<◌, ◌∙◌}
use Rattle.std.specs.List.{AllByRecursion}
use Rattle.std.proofs.lemmas.Option.{IfSome_then}
use Rattle.jls_search.specs.Choices.{prefix_of}
use Rattle.jls_search.specs.Faultless.{IsSought}
use Rattle.jls_search.proofs.Prefixes.{of_some}
use Rattle.jls_search.proofs.WholeSplices.{faulty_file}
use Rattle.jls_search.proofs.looking.look_at_file.Goals as goal

pub returns-then-sought : goal.returns-then-sought
returns-then-sought c = λ ps path whole fed. (
  whole,
  of_some c.args.reader (prefix_of ps path) (λ bytes. IsSought c.args.judge.now.ceiling bytes) fed
      (c.in_ok-sought.ensures.sought c.if-sought.true),
  IfSome_then c.in_ok-found.found c.in_ok-found.ensures (λ clone same. same ∙ fed),
)

pub returns : goal.returns
returns c = λ ps path whole fed.
    faulty_file c.args.judge.now.ceiling ps path whole
    (of_some c.args.reader (prefix_of ps path) (λ bytes. AllByRecursion (λ b. b < 256) bytes → IsSought c.args.judge.now.ceiling bytes → ⊥)
    fed (c.in_ok-sought.ensures.unsought c.if-sought.false))
