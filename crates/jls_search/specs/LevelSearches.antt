-- A search level by level, in which each path that lives has a reader of its own.
use Rattle.std.specs.Prelude.{◌≡◌, ℕ, ◌+◌, ◌<◌, ◌≤◌, false, List, [], length, map, take, get_or, ◌⊎◌, IfSome}
use Rattle.std.specs.List.{AllByRecursion, Contains}
use Rattle.jls_diff.specs.Parts.{Part, Same, Differs}
use Rattle.jls_search.specs.Choices.{IsPath, prefix_of}
use Rattle.jls_search.specs.Faultless.{IsSought}
use Rattle.jls_search.specs.Levels.{AreJudged, IsNextPath, LivesOrIsDead, NoPartDiffers}
use Rattle.jls_search.specs.Search.{IsKeptReader, MakeFiles, lists_of}
use Rattle.jls_search.specs.declared.level_search.FoundFiles.{FoundFiles}
use Rattle.jls_search.specs.declared.level_search.LevelSearch.{LevelSearch}
use Rattle.jls_search.specs.declared.next_level.LivingPath.{LivingPath}
use Rattle.jls_search.specs.declared.next_level.NextLevel.{NextLevel}

-- the choices of these paths
abbrev pub paths_of : List LivingPath → List (List ℕ)
paths_of living = map (λ path. path.kept.choices.items) living

-- a path has so many choices, and its reader was fed what they make
abbrev pub IsReadTo : List Part → ℕ → LivingPath → Type 0
IsReadTo parts count path =
    IsKeptReader parts path.kept × IsPath parts path.kept.choices.items × (length path.kept.choices.items ≡ count)

-- A search is at the level of so many choices: its paths that live have that many, and their readers were fed what they make. If its tries
-- weren't used up, each other path of the level makes bytes with which no file begins that is sought
pub record IsLevelSearch (parts : List Part) (s : LevelSearch) : Type 0 where
  pub within : s.count ≤ length parts
  pub each : AllByRecursion (IsReadTo parts s.count) s.living.items
  pub all : s.is_used_up ≡ false → (path : List ℕ) → IsPath parts path → length path ≡ s.count
      → LivesOrIsDead (IsSought s.rules.ceiling) parts (paths_of s.living.items) path

-- Inside the crate -------------------------------------------------------------------------------------------------

-- the next part from a place on in which copies differ, or the end
pub record IsNextStop (parts : List Part) (from stop : ℕ) : Type 0 where
  pub from_on : from ≤ stop
  pub within : stop ≤ length parts
  pub same : NoPartDiffers parts from stop
  pub stops : Differs (get_or parts stop (Same [])) ⊎ (stop ≡ length parts)

-- a path goes on from so many choices, and its reader was fed what it makes
abbrev pub IsLiving : List Part → ℕ → LivingPath → Type 0
IsLiving parts from path = IsKeptReader parts path.kept × IsNextPath parts from path.kept.choices.items

-- A path begins so, and goes on to the next part in which copies differ. It is one of those that live now, or is dead. Those that lived
-- before still do
pub record IsTaken (Sought : List ℕ → Type 0) (parts : List Part) (begin : List ℕ) (old new : List (List ℕ)) : Type 0 where
  pub path : List ℕ
  pub is_next : IsNextPath parts (length begin) path
  pub begins : take (length begin) path ≡ begin
  pub judged : LivesOrIsDead Sought parts new path
  pub still : (other : List ℕ) → Contains old other → Contains new other

-- each path of the next level was judged that begins with this one, and those that lived before still do. No way was passed over before
pub record WentOn (Sought : List ℕ → Type 0) (parts : List Part) (path : List ℕ) (old new : NextLevel) : Type 0 where
  pub before : old.is_used_up ≡ false
  pub still : (other : List ℕ) → Contains (paths_of old.living.items) other → Contains (paths_of new.living.items) other
  pub judged : AreJudged Sought parts (length path + 1) (paths_of new.living.items) path

-- so was each that begins with one of these
abbrev pub AreGoneOn : (List ℕ → Type 0) → List Part → ℕ → List LivingPath → List (List ℕ) → Type 0
AreGoneOn Sought parts from old living = AllByRecursion (λ path. AreJudged Sought parts from living path.kept.choices.items) old

-- a path is one of those found, or makes no file of bytes that is sought
abbrev pub IsFoundOrNot : (List ℕ → Type 0) → List Part → List (List ℕ) → LivingPath → Type 0
IsFoundOrNot Sought parts found path =
    Contains found path.kept.choices.items
    ⊎ (AllByRecursion (λ b. b < 256) (prefix_of parts path.kept.choices.items) → Sought (prefix_of parts path.kept.choices.items) → ⊥)

-- a path was judged as a file. What was found before still is
pub record IsFileTaken (Sought : List ℕ → Type 0) (parts : List Part) (path : LivingPath) (old new : FoundFiles) : Type 0 where
  pub files : MakeFiles Sought parts (lists_of old.splices.items) → MakeFiles Sought parts (lists_of new.splices.items)
  pub still : (other : List ℕ) → Contains (lists_of old.splices.items) other → Contains (lists_of new.splices.items) other
  pub judged : IsFoundOrNot Sought parts (lists_of new.splices.items) path
  pub reader : IfSome old.reader (IsKeptReader parts) → IfSome new.reader (IsKeptReader parts)
