use Rattle.std.proofs.Common.{◌≡◌, List, [], ◌∷◌, ◌++◌, ℕ, sym, ap, ◌∙◌, subst, ◌⊎◌, inl, inr, refl, Vec, Global, length}
use Rattle.std.proofs.lemmas.List.{map-append}
use Rattle.jls_diff.specs.Parts.{Part}
use Rattle.jls_search.specs.Choices.{IsPath, prefix_of}
use Rattle.jls_search.specs.Faultless.{IsDead, IsSought}
use Rattle.jls_search.specs.Levels.{IsPathTaken}
use Rattle.jls_search.specs.Search.{lists_of}
use Rattle.jls_search.specs.Tried.{AreFixed, IsSetFor, IsStop}
use Rattle.jls_search.specs.declared.setting.Goal.TheVariants.{Whole}
use Rattle.jls_search.proofs.LevelPaths.{begins_so, followed}
use Rattle.jls_search.proofs.Sets.{prefix_of_stop, same_of_fixed, set_of_all}
use Rattle.jls_search.proofs.levels.take_path.Goals as goal

pub follow-requires-clause-path : goal.follow-requires-clause-path
follow-requires-clause-path c = set_of_all c.args.parts.now c.args.begin.items c.requires.path

pub is_found_dead-requires-clause-path : goal.is_found_dead-requires-clause-path
is_found_dead-requires-clause-path c =
    subst (IsPath c.args.parts.now) (sym c.deref.ensures.value) c.in_ok-follow.ensures.path.0

pub is_found_dead-requires-clause-few : goal.is_found_dead-requires-clause-few
is_found_dead-requires-clause-few c = c.requires.short c.deref.result.now (is_found_dead-requires-clause-path c)

-- the path goes on from the begin, and adds itself to those that live or is dead
taken : (Sought : List ℕ → Type 0) (ps : List Part) (begin path : List ℕ) (old new : List (List ℕ)) → IsSetFor ps Whole path
    → IsStop ps Whole path → ((more : List ℕ) × (path ≡ begin ++ more)) → AreFixed ps Whole (length begin) (length path)
    → (new ≡ old ++ path ∷ []) ⊎ ((new ≡ old) × IsDead Sought (prefix_of ps path)) → IsPathTaken Sought ps begin old new
taken Sought ps begin path old new set stop grew fixed added = record {
  path = path;
  is_next = followed ps begin path set.0 (prefix_of_stop ps path stop) grew (same_of_fixed ps (length begin) (length path) fixed);
  begins = begins_so begin path grew;
  added = added;
}

pub returns-then-dead : goal.returns-then-dead
returns-then-dead c =
    let on = c.in_ok-follow.ensures in
    let Sought : List ℕ → Type 0 = IsSought c.args.judge.now.ceiling in
    taken Sought c.args.parts.now c.args.begin.items c.follow.new.path.items (lists_of c.args.living.now.items)
    (lists_of c.args.living.now.items) on.path on.stop on.grew on.fixed (inr (
      refl,
      subst (λ p. IsDead Sought (prefix_of c.args.parts.now p)) c.deref.ensures.value (c.in_ok-dead.ensures c.if-dead.true),
    ))

pub returns : goal.returns
returns c =
    let on = c.in_ok-follow.ensures in
    taken (IsSought c.args.judge.now.ceiling) c.args.parts.now c.args.begin.items c.follow.new.path.items
    (lists_of c.args.living.now.items) (lists_of c.push.new.self.items) on.path on.stop on.grew on.fixed
    (inl (ap lists_of c.in_ok-push.ensures.items
    ∙ map-append (λ (v : Vec ℕ Global). v.items) c.args.living.now.items (c.follow.new.path ∷ [])))
