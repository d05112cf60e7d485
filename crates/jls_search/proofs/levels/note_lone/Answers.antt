use Rattle.std.proofs.Common.{◌≡◌, ℕ, List, [], ◌∷◌, Vec, Global, length, sym, ◌∙◌, ap, subst, arith, rules}
use Rattle.std.specs.List.{AllByRecursion}
use Rattle.std.proofs.lemmas.List.{map-append}
use Rattle.jls_values.proofs.Lists.{all_more}
use Rattle.jls_diff.specs.Parts.{Part}
use Rattle.jls_search.specs.Faultless.{IsSought}
use Rattle.jls_search.specs.Levels.{IsLone}
use Rattle.jls_search.specs.Search.{lists_of}
use Rattle.jls_search.proofs.NextLevels.{lone_of_one}
use Rattle.jls_search.proofs.levels.note_lone.Goals as goal

pub returns-clause-lone : goal.returns-clause-lone
returns-clause-lone c =
    let Sought : List ℕ → Type 0 = IsSought c.args.judge.now.ceiling in
    let ps : List Part = c.args.parts.now in
    let vs : List (Vec ℕ Global) = c.args.level.now.living.items in
    let choices : Vec ℕ Global = c.in_ok-choices.choices in
    let items : choices.items ≡ c.deref-path.result.now = search rules in
    let count = c.len.ensures ∙ c.args.level.now.living.ok.0 in
    let one : length vs ≡ 1 = omega (arith, count) in
    let lone : IsLone Sought ps choices.items = subst (IsLone Sought ps) (sym (items ∙ c.deref-path.ensures.value))
    (lone_of_one Sought ps c.args.level.now.count vs c.index.result.now c.requires.level one c.index.ensures) in
    subst (AllByRecursion (IsLone Sought ps))
    (sym (ap lists_of c.in_ok-push.ensures.items
    ∙ map-append (λ (v : Vec ℕ Global). v.items) c.args.lone.now.items (choices ∷ [])))
    (all_more (IsLone Sought ps) (lists_of c.args.lone.now.items) choices.items c.requires.lone lone)
