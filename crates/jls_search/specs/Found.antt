-- What was found in some copies: by the search of all splices, and by groups where that was cut off or came to nothing.
use Rattle.std.specs.Prelude.{◌≡◌, ℕ, ◌↔◌, Bool, true, List, [], ◌++◌, length, take, drop, Option, Some, None, IsSome, IfSome}
use Rattle.std.specs.Prelude.{option_map, ◌⊎◌}
use Rattle.std.specs.List.{AllByRecursion}
use Rattle.jls_diff.specs.Parts.{Part, AreParts}
use Rattle.jls_search.specs.Faultless.{IsSought}
use Rattle.jls_search.specs.Search.{CameTo, files_of, lists_of}
use Rattle.jls_diff.specs.Groups.{CoverParts, IsGroup}
use Rattle.jls_search.specs.OfGroups.{IsOfGroup, IsOnce}
use Rattle.jls_search.specs.GroupTries.{AreGroupsSearched}
use Rattle.jls_diff.specs.declared.group.Group.{Group}
use Rattle.jls_search.specs.declared.found.GroupsReported.{GroupsReported}
use Rattle.jls_search.specs.declared.found.FoundSplices.{FoundSplices}

-- What a search by groups came to: how many groups there are, how much it tried, and whether it was cut off. Each of its splices stands as
-- its choices
pub record ByGroups : Type 0 where
  pub groups : ℕ
  pub tries : ℕ
  pub choices : List (List ℕ)
  pub is_used_up : Bool

-- What was found: the parts of the copies, and the splices that the search of all came to, each as its choices. Beside these stand whether
-- it was cut off, and what a search by groups came to, if there was one
pub record Found : Type 0 where
  pub parts : List Part
  pub choices : List (List ℕ)
  pub is_used_up : Bool
  pub by_groups : Option ByGroups

-- The groups take in each part in which copies differ. Each splice reads in one of the groups, and outside of it is what one copy has
pub record IsByGroups (parts : List Part) (b : ByGroups) : Type 0 where
  pub groups : List Group
  pub are_groups : AllByRecursion (IsGroup parts) groups
  pub cover : CoverParts parts groups
  pub count_is : b.groups ≡ length groups
  pub each : AllByRecursion (IsOfGroup parts) b.choices

-- A search by groups searched groups that take in each part in which copies differ. It tried each so often at most, with each of so many
-- copies outside of it. What it tells of its groups, of its tries, of its splices and of whether it was cut off is so
pub record IsGroupSearch (most_tries copies : ℕ) (parts : List Part) (b : ByGroups) : Type 0 where
  pub groups : List Group
  pub are_groups : AllByRecursion (IsGroup parts) groups
  pub cover : CoverParts parts groups
  pub count_is : b.groups ≡ length groups
  pub once : IsOnce b.choices
  pub searched : AreGroupsSearched most_tries copies parts groups b.tries b.choices b.is_used_up

-- A search over these copies, for files under the ceiling, found it. Groups were searched where the search of all splices was cut off or
-- came to nothing, and only there. They have no ceiling
pub record IsFound (ceiling : Option ℕ) (copies : List (List ℕ)) (f : Found) : Type 0 where
  pub are_parts : AreParts copies f.parts
  pub came_to : CameTo (IsSought ceiling) f.parts f.choices f.is_used_up
  pub searched : IsSome f.by_groups ↔ ((f.is_used_up ≡ true) ⊎ (f.choices ≡ []))
  pub by_groups : IfSome f.by_groups (IsByGroups f.parts)

-- the splices that groups gave
abbrev pub choices_by : Option ByGroups → List (List ℕ)
choices_by None = []
choices_by (Some b) = b.choices

-- all splices that were found: those of the search of all, and then those that groups gave
abbrev pub splices_in : Found → List (List ℕ)
splices_in f = files_of f.parts (f.choices ++ choices_by f.by_groups)

-- As the code has it -----------------------------------------------------------------------------------------------

-- what the search by groups came to, from what the code tells of it and the choices of its splices
abbrev pub by_groups_of : List (List ℕ) → GroupsReported → ByGroups
by_groups_of choices reported = record {
  groups = reported.groups;
  tries = reported.tries;
  choices = choices;
  is_used_up = reported.is_used_up;
}

-- What a search found, from the value of the code. Its first `whole` splices are those of the search of all, the others those of groups
abbrev pub found_of : FoundSplices → Found
found_of s = record {
  parts = s.parts;
  choices = take s.whole (lists_of s.splices.items);
  is_used_up = s.is_used_up;
  by_groups = option_map (by_groups_of (drop s.whole (lists_of s.splices.items))) s.by_groups;
}
