use Rattle.std.proofs.Common.{◌≡◌, ℕ, ◌<◌, List, [], length, sym, ◌∙◌, subst, Result, Ok, Err, ◌∷◌, ◌++◌, ap, append_assoc}
use Rattle.std.specs.Prelude.{get_or, OnOk}
use Rattle.std.specs.declared.alloc.AllocError.{AllocError}
use Rattle.jls_diff.specs.Parts.{Part, Same}
use Rattle.jls_search.specs.Choices.{IsFirstWay}
use Rattle.jls_search.specs.Tried.{IsSetFor, IsSetWholeFor, IsTried, copy_of}
use Rattle.jls_search.specs.Order.{Goes, IsToCome}
use Rattle.jls_search.proofs.Sets.{TakesCopy, none_before, set_more, to_come_least}
use Rattle.jls_search.proofs.path.descend.Goals as goal

by : (r : Result (Unit {0}) AllocError) (W A B C : List ℕ → Type 0) → ((ds : List ℕ) → W ds → A ds → B ds)
    → OnOk r ((ds : List ℕ) → W ds → B ds → C ds) → OnOk r ((ds : List ℕ) → W ds → A ds → C ds)
by (Ok u) W A B C f h = λ ds w a. h ds w (f ds w a)
by (Err e) W A B C f h = h

pub follow-requires-clause-path : goal.follow-requires-clause-path
follow-requires-clause-path c =
    let ps : List Part = c.args.parts.now in
    let path : List ℕ = c.args.path.now.items in
    let g = c.args.goal in
    let k : length path < length ps = c.requires.more in
    let at = c.len.ensures ∙ c.args.path.now.ok.0 in
    let choice = c.first_choice.result in
    subst (IsSetFor ps g) (sym c.in_ok-push.ensures.items)
    (set_more ps g path choice c.requires.path k (subst (λ n. IsFirstWay (get_or ps n (Same [])) choice) at c.first_choice.ensures.first)
    (subst (λ n. (IsTried g n → ⊥) → TakesCopy ps (copy_of g) n choice) at c.first_choice.ensures.same))

pub returns-clause-kept : goal.returns-clause-kept
returns-clause-kept c =
    let ps : List Part = c.args.parts.now in
    let path : List ℕ = c.args.path.now.items in
    let g = c.args.goal in
    let k : length path < length ps = c.requires.more in
    let at = c.len.ensures ∙ c.args.path.now.ok.0 in
    let choice = c.first_choice.result in
    let mid : List ℕ = c.push.new.self.items in
    let new : List ℕ = c.follow.new.path.items in
    by c.follow.result (IsSetWholeFor ps g) (IsToCome path) (IsToCome mid) (IsToCome new)
    (λ choices whole to_come.
    let less : length path < length choices = subst (λ n. length path < n) (sym whole.1) k in
    subst (λ p. IsToCome p choices) (sym c.in_ok-push.ensures.items)
    (to_come_least path choices choice to_come less
    (none_before ps g choices whole.0 (length path) choice less
    (subst (λ n. IsFirstWay (get_or ps n (Same [])) choice) at c.first_choice.ensures.first)
    (subst (λ n. (IsTried g n → ⊥) → TakesCopy ps (copy_of g) n choice) at c.first_choice.ensures.same)
    (subst (λ n. IsTried g n → choice ≡ 0) at c.first_choice.ensures.least)))) c.follow.ensures.kept

by_grew : (r : Result (Unit {0}) AllocError) (old mid new : List ℕ) (choice : ℕ) → mid ≡ old ++ choice ∷ []
    → OnOk r ((more : List ℕ) × (new ≡ mid ++ more)) → OnOk r (Goes old new)
by_grew (Ok u) old mid new choice e (more, f) = (choice, more, f ∙ ap (λ p. p ++ more) e ∙ append_assoc old (choice ∷ []) more)
by_grew (Err x) old mid new choice e h = tt

pub returns-clause-grew : goal.returns-clause-grew
returns-clause-grew c =
    by_grew c.follow.result c.args.path.now.items c.push.new.self.items c.follow.new.path.items c.first_choice.result
    c.in_ok-push.ensures.items
    c.follow.ensures.grew
