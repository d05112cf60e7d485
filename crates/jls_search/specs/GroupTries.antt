-- How much a search by groups tries, and what it finds. Each group has tries of its own.
use Rattle.std.specs.Prelude.{◌≡◌, ℕ, ◌+◌, ◌-◌, ◌^◌, ◌<◌, ◌≤◌, ◌⊎◌, ◌||◌, Bool, true, false, List, ◌++◌, length, map, min, slice_get, Some}
use Rattle.std.specs.List.{AllByRecursion, Contains, flat_map, list_any, sum_by}
use Rattle.std.specs.List.Sorted.{IsPermutation}
use Rattle.jls_diff.specs.Parts.{Part}
use Rattle.jls_diff.specs.declared.group.Group.{Group}
use Rattle.jls_search.specs.Choices.{prefix_of}
use Rattle.jls_search.specs.OfGroups.{IsPassedBy, ReadsWith}
use Rattle.jls_search.specs.Search.{lists_of}
use Rattle.jls_search.specs.declared.searching.Search.{Search}
use Rattle.jls_search.specs.declared.setting.Goal.TheVariants.{Group as ForGroup}
use Rattle.jls_search.specs.declared.setting.Setting.{Setting}
use Rattle.jls_search.specs.declared.whole_search.Searched.{Searched}

-- What the search of a group with one copy outside of it came to: how much it tried, and whether it was cut off. The splices are those
-- that it found and that were not found before, each as its choices
pub record SettingSearched : Type 0 where
  pub tries : ℕ
  pub splices : List (List ℕ)
  pub is_cut_off : Bool

-- what the search of a group came to, with each copy outside of it, in the order of the copies
pub record GroupSearched : Type 0 where
  pub group : Group
  pub settings : List SettingSearched

-- the tries of a group
abbrev pub tries_in : List SettingSearched → ℕ
tries_in settings = sum_by (λ s. s.tries) settings

-- the splices that it gave
abbrev pub given_in : List SettingSearched → List (List ℕ)
given_in settings = flat_map (λ s. s.splices) settings

-- whether its search was cut off with some copy outside of it
abbrev pub is_cut_in : List SettingSearched → Bool
is_cut_in settings = list_any (λ s. s.is_cut_off) settings

-- What the search of a group with this copy outside of it came to. The group was tried so often, and these splices were found in all. At
-- most 64 were found with the copy, and they read so. If it was not cut off, it was tried, and each splice of bytes that reads so was
-- found, or is passed by. If it was, the group had all its tries, 64 were found, or 4,096 were in all
pub record IsSettingSearched (most_tries tries : ℕ) (parts : List Part) (found : List (List ℕ)) (group : Group) (copy : ℕ)
    (s : SettingSearched) : Type 0 where
  pub few : length s.splices ≤ 64
  pub each : AllByRecursion (ReadsWith parts group copy) s.splices
  pub some : s.is_cut_off ≡ false → 0 < s.tries
  pub cut_off : s.is_cut_off ≡ true → (tries ≡ most_tries) ⊎ ((length s.splices ≡ 64) ⊎ (length found ≡ 4096))
  pub all : s.is_cut_off ≡ false → (choices : List ℕ) → ReadsWith parts group copy choices
      → AllByRecursion (λ b. b < 256) (prefix_of parts choices) → Contains found choices ⊎ IsPassedBy parts group choices

-- a group was searched with each of so many copies outside of it, and has so many tries
pub record IsGroupSearched (most_tries copies : ℕ) (parts : List Part) (found : List (List ℕ)) (g : GroupSearched) : Type 0 where
  pub each_copy : length g.settings ≡ copies
  pub within : tries_in g.settings ≤ most_tries
  pub each : (copy : ℕ) (s : SettingSearched) → slice_get g.settings copy ≡ Some s
      → IsSettingSearched most_tries (tries_in g.settings) parts found g.group copy s

-- A search of these groups, in some order, each with tries of its own. It tells what it tried in all, as far as 32 bits tell it, and
-- whether it was cut off anywhere. In all it found at most 4,096 splices
pub record AreGroupsSearched (most_tries copies : ℕ) (parts : List Part) (groups : List Group) (tries : ℕ) (found : List (List ℕ))
    (is_used_up : Bool) : Type 0 where
  pub searched : List GroupSearched
  pub in_some_order : IsPermutation groups (map (λ g. g.group) searched)
  pub each : AllByRecursion (IsGroupSearched most_tries copies parts found) searched
  pub tries_are : tries ≡ min (sum_by (λ g. tries_in g.settings) searched) (2 ^ 32 - 1)
  pub found_are : found ≡ flat_map (λ g. given_in g.settings) searched
  pub few : length found ≤ 4096
  pub used_up : is_used_up ≡ list_any (λ g. is_cut_in g.settings) searched

-- Inside the crate -------------------------------------------------------------------------------------------------

-- a search of a group with this copy outside of it begins after what was found so far
abbrev pub IsGroupBegun : Setting → Searched → Search → Type 0
IsGroupBegun setting before s =
    (s.goal ≡ ForGroup setting) × (s.goes_on ≡ true) × (s.tries ≡ before.tries) × (s.splices ≡ before.splices)
    × (s.most ≡ min (length before.splices.items + 64) 4096)

-- a search of a group went on with one copy more outside of it
pub record GoesThrough (most_tries : ℕ) (parts : List Part) (setting : Setting) (before more : Searched) : Type 0 where
  pub came_to : SettingSearched
  pub is : IsSettingSearched most_tries more.tries parts (lists_of more.splices.items) setting.group setting.copy came_to
  pub tries : more.tries ≡ before.tries + came_to.tries
  pub within : more.tries ≤ most_tries
  pub found : lists_of more.splices.items ≡ lists_of before.splices.items ++ came_to.splices
  pub few : length (lists_of more.splices.items) ≤ 4096
  pub used_up : more.is_used_up ≡ (came_to.is_cut_off || before.is_used_up)

-- a search went on with a group, with each of so many copies outside of it. Its tries are those of the group
pub record GoesThroughCopies (most_tries copies : ℕ) (parts : List Part) (group : Group) (before more : Searched) : Type 0 where
  pub settings : List SettingSearched
  pub is : IsGroupSearched most_tries copies parts (lists_of more.splices.items) (record { group = group; settings = settings })
  pub tries : more.tries ≡ tries_in settings
  pub found : lists_of more.splices.items ≡ lists_of before.splices.items ++ given_in settings
  pub few : length (lists_of more.splices.items) ≤ 4096
  pub used_up : more.is_used_up ≡ (is_cut_in settings || before.is_used_up)
