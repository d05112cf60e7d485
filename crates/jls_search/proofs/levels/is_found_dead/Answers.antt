use Rattle.std.proofs.Common.{◌≡◌, Bool, true, rules}
use Rattle.std.specs.Prelude.{IfSome}
use Rattle.std.proofs.lemmas.Result.{IfOk-weaker}
use Rattle.jls_search.specs.Choices.{prefix_of}
use Rattle.jls_search.specs.Faultless.{IsDead, IsFaultless, IsSought}
use Rattle.jls_search.proofs.EarlyReads.{fed_none, fed_some}
use Rattle.jls_search.proofs.Prefixes.{of_some}
use Rattle.jls_search.proofs.levels.is_found_dead.Goals as goal

pub returns-then-above : goal.returns-then-above
returns-then-above c = λ _.
    of_some c.in-Some.reader (prefix_of c.args.parts.now c.args.path.now) (λ bytes. IsDead (IsSought c.args.judge.now.ceiling) bytes)
    (fed_some c.args.parts.now c.args.path.now c.in_ok-reader.field-0 c.in-Some.reader c.in-Some.is c.in_ok-reader.ensures.living)
    (c.in_ok-above.ensures c.if-above.true)

pub returns : goal.returns
returns c =
    let prefix = prefix_of c.args.parts.now c.args.path.now in
    let fed = c.in-Some.reader in
    IfOk-weaker c.is_dead.result (λ (dead : Bool). dead ≡ true → IfSome fed (λ bytes. IsDead IsFaultless bytes))
    (λ (dead : Bool). dead ≡ true → IsDead (IsSought c.args.judge.now.ceiling) prefix)
    (λ dead reported yes more low sought. of_some fed prefix (λ bytes. IsDead IsFaultless bytes)
    (fed_some c.args.parts.now c.args.path.now c.in_ok-reader.field-0 c.in-Some.reader c.in-Some.is c.in_ok-reader.ensures.living)
    (reported yes) more low sought.0)
    c.is_dead.ensures

pub returns-in_default : goal.returns-in_default
returns-in_default c = λ _ more low sought. fed_none c.args.parts.now c.args.path.now c.in_ok-reader.field-0 (search rules)
    c.in_ok-reader.ensures.dead more low sought.0
