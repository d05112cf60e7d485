-- Inside the crate: the parts whose ways a search tries. It concerns no caller.
use Rattle.std.specs.Prelude.{◌≡◌, ℕ, ◌<◌, ◌≤◌, List, [], length, get_or, ◌⊎◌}
use Rattle.std.specs.List.{AllByRecursion}
use Rattle.jls_diff.specs.Groups.{IsInside}
use Rattle.jls_diff.specs.Parts.{Part, Same, Differs, way}
use Rattle.jls_search.specs.Choices.{IsPath}
use Rattle.jls_search.specs.OfGroups.{HasCopy}
use Rattle.jls_search.specs.declared.setting.Goal.{Goal}
use Rattle.jls_search.specs.declared.setting.Goal.TheVariants.{Whole, Group}

-- the ways of the part of this number are tried
abbrev pub IsTried : Goal → ℕ → Type 0
IsTried Whole place = Unit {0}
IsTried (Group setting) place = IsInside setting.group place

-- and copies differ in it
abbrev pub IsFree : List Part → Goal → ℕ → Type 0
IsFree parts goal place = IsTried goal place × Differs (get_or parts place (Same []))

-- elsewhere this copy's way is taken. Where the ways of all parts are tried, it makes no difference
abbrev pub copy_of : Goal → ℕ
copy_of Whole = 0
copy_of (Group setting) = setting.copy

-- that copy has something at each part
abbrev pub HasCopyElsewhere : List Part → Goal → Type 0
HasCopyElsewhere parts Whole = Unit {0}
HasCopyElsewhere parts (Group setting) = AllByRecursion (HasCopy setting.copy) parts

-- choices take that elsewhere
abbrev pub IsCopyElsewhere : List Part → Goal → List ℕ → Type 0
IsCopyElsewhere parts goal choices =
    (place : ℕ) → place < length choices → (IsTried goal place → ⊥)
    → way (get_or choices place 0) (get_or parts place (Same [])) ≡ way (copy_of goal) (get_or parts place (Same []))

-- a choice for each of the first parts, which elsewhere are the copy's
abbrev pub IsSetFor : List Part → Goal → List ℕ → Type 0
IsSetFor parts goal path = IsPath parts path × IsCopyElsewhere parts goal path

-- and one for each part
abbrev pub IsSetWholeFor : List Part → Goal → List ℕ → Type 0
IsSetWholeFor parts goal choices = IsSetFor parts goal choices × (length choices ≡ length parts)

-- choices go up to the next part whose ways are tried and in which copies differ, or to the end of the file
abbrev pub IsStop : List Part → Goal → List ℕ → Type 0
IsStop parts goal path = IsFree parts goal (length path) ⊎ (length path ≡ length parts)

-- there is no such part from this place on, up to that one
abbrev pub AreFixed : List Part → Goal → ℕ → ℕ → Type 0
AreFixed parts goal from to = (place : ℕ) → from ≤ place → place < to → IsFree parts goal place → ⊥
