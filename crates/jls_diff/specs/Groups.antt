-- Groups of parts: what stands between two borders, with the head of the parts, which belongs to every group.
use Rattle.std.specs.Prelude.{◌≡◌, ℕ, ◌<◌, ◌≤◌, true, false, List, [], ◌∷◌, ◌++◌, length, get_or, Option, IfSome, ◌⊎◌, if◌then◌else◌}
use Rattle.std.specs.List.{AllByRecursion, Contains}
use Rattle.jls_diff.specs.Parts.{Part, Same, Differs}
use Rattle.jls_diff.specs.Borders.{IsBorder}
use Rattle.jls_diff.specs.declared.border.Border.{Border}
use Rattle.jls_diff.specs.declared.group.Group.{Group}
use Rattle.jls_diff.specs.declared.grouping.Found.{Found}

-- a group begins at a border after the head, and ends at a later border, or with the parts
abbrev pub IsGroup : List Part → Group → Type 0
IsGroup parts group =
    IsBorder parts group.begin × (group.head ≤ group.begin.part)
    × IfSome group.end (λ border. IsBorder parts border × (group.begin.part < border.part))

-- the part of this number is one of the group
abbrev pub IsInside : Group → ℕ → Type 0
IsInside group place = (place < group.head) ⊎ ((group.begin.part < place) × IfSome group.end (λ border. place < border.part))

-- it is one of some group
abbrev pub IsInSome : List Group → ℕ → Type 0
IsInSome groups place = (group : Group) × Contains groups group × IsInside group place

-- where there are groups, each part in which copies differ is one of a group
abbrev pub CoverParts : List Part → List Group → Type 0
CoverParts parts groups =
    0 < length groups → (place : ℕ) → place < length parts → Differs (get_or parts place (Same [])) → IsInSome groups place

-- Inside the crate -------------------------------------------------------------------------------------------------

-- the part is in the head, or one of some group, or one of the group that is open
abbrev pub IsCovered : Found → ℕ → Type 0
IsCovered found place =
    (place < found.head) ⊎ (IsInSome found.groups.items place ⊎ ((found.is_open ≡ true) × (found.begin.part < place)))

-- the groups of `before`, and the one that is open in it, if one is, with this end
abbrev pub closed_groups : Found → Option Border → List Group
closed_groups before end =
    if before.is_open then before.groups.items ++ (record { head = before.head; begin = before.begin; end = end }) ∷ []
    else before.groups.items

-- the group that is open, if one is, ends there
pub record IsClosed (before : Found) (end : Option Border) (after : Found) : Type 0 where
  pub head : after.head ≡ before.head
  pub begin : after.begin ≡ before.begin
  pub is_open : after.is_open ≡ false
  pub groups : after.groups.items ≡ closed_groups before end

-- what is found of so many parts
pub record AreGroupsFound (parts : List Part) (count : ℕ) (found : Found) : Type 0 where
  pub begin : IsBorder parts found.begin
  pub following : found.begin.part < count
  pub head : found.head ≤ found.begin.part
  pub groups : AllByRecursion (λ group. IsGroup parts group × (group.head ≡ found.head)) found.groups.items
  pub covered : (place : ℕ) → place < count → Differs (get_or parts place (Same [])) → IsCovered found place
