use Rattle.std.proofs.Common.{◌-◌, length}
use Rattle.jls_search.specs.LevelSearches.{IsLevelSearch}
use Rattle.jls_carried.proofs.own_splices.search_levels.Given as goal

abbrev pub invariant-levels : goal.invariant-levels
invariant-levels l = IsLevelSearch l.parts l.search

abbrev pub decreases-levels : goal.decreases-levels
decreases-levels l = length l.parts - l.search.count
