use Rattle.std.proofs.Common.{◌≡◌, ℕ, ◌<◌, List, [], ◌∷◌, ◌++◌, Vec, Global, sym, ap, ◌∙◌, subst, rules, inl, inr}
use Rattle.std.specs.List.{AllByRecursion, Contains}
use Rattle.std.proofs.lemmas.List.{map-append}
use Rattle.std.proofs.lemmas.List.Elements.{Contains-append_left, Contains-append_right}
use Rattle.jls_values.proofs.Lists.{all_more, is_first}
use Rattle.jls_search.specs.Choices.{IsWhole, prefix_of}
use Rattle.jls_search.specs.Faultless.{IsSought}
use Rattle.jls_search.specs.Search.{MakeFiles, lists_of}
use Rattle.jls_search.proofs.Prefixes.{of_some}
use Rattle.jls_search.proofs.level_search.take_file.Goals as goal

pub returns-then-not-sought : goal.returns-then-not-sought
returns-then-not-sought c = λ parts r.
    let prefix = prefix_of parts c.args.path.now.kept.choices.items in
    record {
      files = λ before. before;
      still = λ other was. was;
      judged = inr (of_some c.in_ok-try_clone.field-0 prefix
          (λ bytes. AllByRecursion (λ b. b < 256) bytes → IsSought c.args.ceiling bytes → ⊥) (c.in_ok-try_clone.ensures ∙ r.0)
          (c.in_ok-sought.ensures.unsought c.if-not-sought.true));
      reader = λ was. was;
    }

pub returns : goal.returns
returns c = λ parts r.
    let path : List ℕ = c.args.path.now.kept.choices.items in
    let sought : IsSought c.args.ceiling (prefix_of parts path) =
    of_some c.in_ok-try_clone.field-0 (prefix_of parts path) (λ bytes. IsSought c.args.ceiling bytes) (c.in_ok-try_clone.ensures ∙ r.0)
    (c.in_ok-sought.ensures.sought c.if-not-sought.false) in
    let old : List (List ℕ) = lists_of c.args.found.now.splices.items in
    let copied : c.in_ok-choices.choices.items ≡ c.deref.result.now = search rules in
    let new : lists_of c.push.new.self.items ≡ old ++ path ∷ [] =
    ap lists_of c.in_ok-push.ensures.items
    ∙ map-append (λ (v : Vec ℕ Global). v.items) c.args.found.now.splices.items (c.in_ok-choices.choices ∷ [])
    ∙ ap (λ (p : List ℕ). old ++ p ∷ []) (copied ∙ c.deref.ensures.value) in
    record {
      files = λ before.
          subst (MakeFiles (IsSought c.args.ceiling) parts) (sym new)
          (all_more (λ choices. IsWhole parts choices × IsSought c.args.ceiling (prefix_of parts choices)) old path before
          ((r.1, r.2), sought));
      still = λ other was. subst (λ xs. Contains xs other) (sym new) (Contains-append_left old (path ∷ []) other was);
      judged = inl (subst (λ xs. Contains xs path) (sym new) (Contains-append_right old (path ∷ []) path (is_first path [])));
      reader = λ was. c.in_ok-keep_first.ensures parts r.0 was;
    }
