-- The ceilings under which files and a cut file are sought, and what a search over all splices came to.
use Rattle.std.specs.Prelude.{◌≡◌, ℕ, Bool, true, false, List, [], ◌∷◌, Option, Some, None, IfSome}
use Rattle.jls_diff.specs.Parts.{Part}
use Rattle.jls_search.specs.Faultless.{IsSought}
use Rattle.jls_search.specs.Levels.{IsLone}
use Rattle.jls_search.specs.Search.{CameTo, IsKeptReader, lists_of}
use Rattle.jls_search.specs.declared.whole_search.Searched.{Searched}
use Rattle.jls_splice_run.specs.declared.stages.CountingSearch.{CountingSearch}

-- whether something is listed
abbrev pub has_some : {X : Type 0} → List X → Bool
has_some [] = false
has_some (x ∷ xs) = true

-- if a ceiling is given, a search has that one
abbrev pub KeepsCeiling : Option ℕ → Option ℕ → Type 0
KeepsCeiling None ceiling = Unit {0}
KeepsCeiling (Some given) ceiling = ceiling ≡ Some given

-- the ceiling of a shallow picture: one of the ceilings in turn, where one path is lone under that and under the last
abbrev pub IsShallowCeiling : List Part → ℕ → Type 0
IsShallowCeiling parts ceiling =
    (ceiling ≡ 16383) × (path : List ℕ) × IsLone (IsSought (Some 16383)) parts path × IsLone (IsSought (Some 46340)) parts path

-- As the code has it -----------------------------------------------------------------------------------------------

-- A search over these parts came to files that are sought under its ceiling. If it was not cut off, it came to each splice that is. The
-- reader that it kept, if it kept one, was fed what its choices make
pub record IsSearchOf (parts : List Part) (s : Searched) : Type 0 where
  pub came_to : CameTo (IsSought s.ceiling) parts (lists_of s.splices.items) s.is_used_up
  pub reader : IfSome s.reader (IsKeptReader parts)

-- the search that counts is such a search. Both it and the ceiling for a cut file keep the ceiling that is given
pub record IsCounting (given : Option ℕ) (parts : List Part) (all : CountingSearch) : Type 0 where
  pub is_search : IsSearchOf parts all.searched
  pub ceiling_is : KeepsCeiling given all.searched.ceiling
  pub cut_ceiling_is : KeepsCeiling given all.cut_ceiling
