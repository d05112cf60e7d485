-- What a search by groups comes to. Files are read under the wide profile.
use Rattle.std.specs.Prelude.{◌≡◌, ℕ, ◌<◌, ◌≤◌, true, List, [], ◌∷◌, ◌++◌, length, get_or, take, Some, None, ◌⊎◌}
use Rattle.std.specs.List.{AllByRecursion, Contains}
use Rattle.jls_diff.specs.Parts.{Part, Same, Differ, way}
use Rattle.jls_search.specs.Choices.{IsPath, IsWhole, prefix_of}
use Rattle.jls_copy.specs.Course.{Course, IsCourseUnder}
use Rattle.jls_copy.specs.CopyReads.{IsDoneUnder}
use Rattle.jls_copy.specs.Prefixes.{IsPieceBrokenUnder}
use Rattle.jls_copy.specs.Pieces.{pieces}
use Rattle.jls_copy.specs.TellingLaws.{AreRecordsOf}
use Rattle.jls_copy.specs.declared.piece.PieceRecord.{PieceRecord}
use Rattle.jls_marker.specs.declared.profile.Profile.TheVariants.{Wide}
use Rattle.jls_diff.specs.Groups.{IsGroup, IsInside}
use Rattle.jls_search.specs.Places.{offset_of, end_offset_of}
use Rattle.jls_search.specs.ReadsBetween.{ReadsBetween}
use Rattle.jls_diff.specs.declared.group.Group.{Group}
use Rattle.jls_search.specs.declared.setting.Setting.{Setting}

-- outside of the group the choices take what this copy has
abbrev pub IsCopyOutside : List Part → Group → ℕ → List ℕ → Type 0
IsCopyOutside parts group copy choices =
    (place : ℕ) → place < length choices → (IsInside group place → ⊥)
    → way (get_or choices place 0) (get_or parts place (Same [])) ≡ way copy (get_or parts place (Same []))

-- the file that the choices make reads between the borders of the group
abbrev pub ReadsInGroup : List Part → Group → List ℕ → Type 0
ReadsInGroup parts group choices =
    ReadsBetween (offset_of parts choices group.begin) (end_offset_of parts choices group.end) (prefix_of parts choices)

-- the file has more than 4,096 faulty pieces
abbrev pub HasManyFaults : List ℕ → Type 0
HasManyFaults file = (c : Course) × IsCourseUnder Wide file c × (rs : List PieceRecord) × AreRecordsOf (pieces c) rs × (4096 < length rs)

-- No file is tried that begins with what the path makes. The file has ended there, before the group. Or the path goes into the group, and
-- the piece in hand is broken. Or it goes there, and the file has ended, and doesn't read from the group's begin on or has too many faulty
-- pieces
pub data IsGivenUp (parts : List Part) (group : Group) (path : List ℕ) : Type 0 where
  ended_before : length path ≤ group.begin.part → IsDoneUnder Wide (prefix_of parts path) true → IsGivenUp parts group path
  broken : group.begin.part < length path → IsPieceBrokenUnder Wide (prefix_of parts path) → IsGivenUp parts group path
  ended_within : group.begin.part < length path → IsDoneUnder Wide (prefix_of parts path) true
      → (ReadsBetween (offset_of parts path group.begin) None (prefix_of parts path) → HasManyFaults (prefix_of parts path))
      → IsGivenUp parts group path

-- A file that choices make is passed by. It has too many faulty pieces, or what its first choices make, up to a part of the group, was
-- given up
abbrev pub IsPassedBy : List Part → Group → List ℕ → Type 0
IsPassedBy parts group choices =
    HasManyFaults (prefix_of parts choices) ⊎ ((count : ℕ) × IsInside group count × IsGivenUp parts group (take count choices))

-- the copy of this number has something at the part, were it nothing
abbrev pub HasCopy : ℕ → Part → Type 0
HasCopy copy (Same bytes) = Unit {0}
HasCopy copy (Differ ways) = copy < length ways

-- the choices, one for each part, take outside of the group what this copy has, and make a file that reads in the group
pub record ReadsWith (parts : List Part) (group : Group) (copy : ℕ) (choices : List ℕ) : Type 0 where
  pub whole : IsWhole parts choices
  pub outside : IsCopyOutside parts group copy choices
  pub reads : ReadsInGroup parts group choices

-- the choices do so with some group and one of the copies
pub record IsOfGroup (parts : List Part) (choices : List ℕ) : Type 0 where
  pub group : Group
  pub is_group : IsGroup parts group
  pub copy : ℕ
  pub is_copy : AllByRecursion (HasCopy copy) parts
  pub is : ReadsWith parts group copy choices

-- no choices are there twice
abbrev pub IsOnce : List (List ℕ) → Type 0
IsOnce [] = Unit {0}
IsOnce (choices ∷ found) = (Contains found choices → ⊥) × IsOnce found

-- Inside the crate -------------------------------------------------------------------------------------------------

-- a group of the parts, and one of the copies
abbrev pub IsSetting : List Part → Setting → Type 0
IsSetting parts setting = IsGroup parts setting.group × AllByRecursion (HasCopy setting.copy) parts

-- the choices were found before, and nothing was added; or they weren't, and were added after those that were
abbrev pub IsAddedOnce : List (List ℕ) → List ℕ → List (List ℕ) → Type 0
IsAddedOnce before choices found =
    (Contains before choices × (found ≡ before)) ⊎ ((Contains before choices → ⊥) × (found ≡ before ++ choices ∷ []))

-- Splices that a search by groups has found so far. Each reads in a group, with a copy outside of it, and none is there twice
abbrev pub AreOfGroups : List Part → List (List ℕ) → Type 0
AreOfGroups parts found = AllByRecursion (IsOfGroup parts) found × IsOnce found
