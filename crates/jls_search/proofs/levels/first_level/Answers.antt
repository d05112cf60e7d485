use Rattle.std.proofs.Common.{ℕ, List, [], sym, ap, ◌∙◌, subst, length}
use Rattle.std.proofs.lemmas.Option.{IfSome_then}
use Rattle.jls_diff.specs.Parts.{Part}
use Rattle.jls_search.specs.Faultless.{IsSought}
use Rattle.jls_search.specs.Levels.{IsLevel, IsPathTaken}
use Rattle.jls_search.specs.Search.{lists_of}
use Rattle.jls_search.proofs.NextLevels.{first_is_dead, first_level_is, first_is_one, none_then}
use Rattle.jls_search.proofs.levels.first_level.Goals as goal

pub returns : goal.returns
returns c =
    let Sought : List ℕ → Type 0 = IsSought c.args.judge.now.ceiling in
    let ps : List Part = c.args.parts.now in
    let living : List (List ℕ) = lists_of c.take_path.new.living.items in
    let taken : IsPathTaken Sought ps [] [] living =
    subst (λ begin. IsPathTaken Sought ps begin [] living) c.new.ensures.items
    (subst (λ vs. IsPathTaken Sought ps c.new.result.items (lists_of vs) living) c.new-living.ensures.items c.in_ok-take_path.ensures) in
    record {
      level = IfSome_then c.level_of.result c.level_of.ensures.some (λ level is.
          subst (IsLevel Sought ps level.count) (sym is.0) (first_level_is Sought ps level.count living taken is.1 is.2));
      one = IfSome_then c.level_of.result c.level_of.ensures.some (λ level is. ap length is.0 ∙ first_is_one Sought ps living taken is.1);
      dead = none_then c.level_of.result c.level_of.ensures.none (λ none. first_is_dead Sought ps living taken none);
    }
