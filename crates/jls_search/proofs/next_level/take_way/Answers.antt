use Rattle.std.proofs.Common.{◌≡◌, ℕ, ◌+◌, List, [], ◌∷◌, ◌++◌, length, length-append, sym, ap, ◌∙◌, subst}
use Rattle.std.specs.List.{AllByRecursion}
use Rattle.jls_diff.specs.Parts.{Part}
use Rattle.jls_search.specs.Choices.{IsPath}
use Rattle.jls_search.specs.Faultless.{IsSought}
use Rattle.jls_search.specs.LevelSearches.{IsLiving, IsTaken, paths_of}
use Rattle.jls_search.specs.declared.next_level.NextLevel.{NextLevel}
use Rattle.jls_search.proofs.Paths.{path_more}
use Rattle.jls_search.proofs.next_level.take_way.Goals as goal

pub take_path-requires-clause-path : goal.take_path-requires-clause-path
take_path-requires-clause-path c =
    let ps : List Part = c.args.parts.now in
    let path : List ℕ = c.args.from.now.kept.choices.items in
    subst (IsPath ps) (sym (c.in_ok-begin.ensures ∙ ap (λ (p : List ℕ). p ++ c.args.choice ∷ []) c.deref.ensures.value))
    (path_more ps path c.args.choice c.requires.path c.requires.more c.requires.first)

pub returns-clause-each : goal.returns-clause-each
returns-clause-each c =
    let ps : List Part = c.args.parts.now in
    let path : List ℕ = c.args.from.now.kept.choices.items in
    let is = c.in_ok-begin.ensures ∙ ap (λ (p : List ℕ). p ++ c.args.choice ∷ []) c.deref.ensures.value in
    let longer : length c.in_ok-begin.begin.items ≡ length path + 1 = ap length is ∙ length-append path (c.args.choice ∷ []) in
    c.make_room.ensures.each ps (length path + 1)
    (subst (λ n. AllByRecursion (IsLiving ps n) c.take_path.new.living.items) longer
    (c.in_ok-take_path.ensures.each
    (subst (λ n. AllByRecursion (IsLiving ps n) c.args.next.now.living.items) (sym longer) c.requires.each)))

pub returns-clause-before : goal.returns-clause-before
returns-clause-before c = λ e. ap (λ (n : NextLevel). n.is_used_up) (sym (c.make_room.ensures.all e)) ∙ e

pub returns-clause-taken : goal.returns-clause-taken
returns-clause-taken c = λ e.
    let Sought : List ℕ → Type 0 = IsSought c.args.rules.ceiling in
    let ps : List Part = c.args.parts.now in
    let path : List ℕ = c.args.from.now.kept.choices.items in
    let old : List (List ℕ) = paths_of c.args.next.now.living.items in
    let is = c.in_ok-begin.ensures ∙ ap (λ (p : List ℕ). p ++ c.args.choice ∷ []) c.deref.ensures.value in
    subst (λ (n : NextLevel). IsTaken Sought ps (path ++ c.args.choice ∷ []) old (paths_of n.living.items))
    (sym (c.make_room.ensures.all e))
    (subst (λ (begin : List ℕ). IsTaken Sought ps begin old (paths_of c.take_path.new.living.items)) is c.in_ok-take_path.ensures.taken)
