use Rattle.std.proofs.Common.{◌≡◌, ℕ, List, [], sym, subst, length}
use Rattle.std.specs.List.{AllByRecursion}
use Rattle.jls_diff.specs.Parts.{Part}
use Rattle.jls_search.specs.Faultless.{IsSought}
use Rattle.jls_search.specs.LevelSearches.{IsLiving, IsTaken, paths_of}
use Rattle.jls_search.proofs.ReaderLevels.{first_all, read_to}
use Rattle.jls_search.proofs.level_search.LevelSearch.begin.Goals as goal

pub returns-clause-stands : goal.returns-clause-stands
returns-clause-stands c =
    let ps : List Part = c.args.parts.now in
    let living = c.take_path.new.living.items in
    let stop = c.next_stop.ensures in
    let none : c.new.result.items ≡ [] = c.new.ensures.items in
    let taken : IsTaken (IsSought c.args.rules.ceiling) ps [] (paths_of c.new-living.result.items) (paths_of living) =
    subst (λ begin. IsTaken (IsSought c.args.rules.ceiling) ps begin (paths_of c.new-living.result.items) (paths_of living)) none
    c.in_ok-take_path.ensures.taken in
    let each : AllByRecursion (IsLiving ps 0) living =
    subst (λ (begin : List ℕ). AllByRecursion (IsLiving ps (length begin)) living) none
    (c.in_ok-take_path.ensures.each
    (subst (AllByRecursion (IsLiving ps (length c.new.result.items))) (sym c.new-living.ensures.items) tt)) in
    record {
      within = stop.within;
      each = read_to ps 0 c.next_stop.result stop living each;
      all = λ _. first_all (IsSought c.args.rules.ceiling) ps (paths_of c.new-living.result.items) (paths_of living) c.next_stop.result
          taken stop;
    }
