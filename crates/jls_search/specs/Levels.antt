-- Levels of the search. A level is all paths that go up to the same part in which the copies differ, or to the end: they have one length.
use Rattle.std.specs.Prelude.{◌≡◌, ℕ, ◌<◌, ◌≤◌, List, [], ◌∷◌, ◌++◌, length, take, get_or, ◌⊎◌}
use Rattle.std.specs.List.{AllByRecursion, Contains}
use Rattle.jls_diff.specs.Parts.{Part, Same}
use Rattle.jls_search.specs.Choices.{IsPrefix, IsPath, prefix_of}
use Rattle.jls_diff.specs.Parts.{Differs}
use Rattle.jls_search.specs.Faultless.{IsDead}

-- a path goes up to a part in which the copies differ, or to the end. Each other path of as many choices makes bytes with which no file of
-- the kind that is sought begins
pub record IsLone (Sought : List ℕ → Type 0) (parts : List Part) (path : List ℕ) : Type 0 where
  pub is_path : IsPath parts path
  pub prefix : IsPrefix parts path
  pub others : (other : List ℕ) → IsPath parts other → length other ≡ length path → (other ≡ path → ⊥)
      → IsDead Sought (prefix_of parts other)

-- copies differ in no part from this place on, up to that one
abbrev pub NoPartDiffers : List Part → ℕ → ℕ → Type 0
NoPartDiffers parts from to = (place : ℕ) → from ≤ place → place < to → Differs (get_or parts place (Same [])) → ⊥

-- a path goes from so many choices on to the next part in which copies differ, or to the end
pub record IsNextPath (parts : List Part) (from : ℕ) (path : List ℕ) : Type 0 where
  pub is_path : IsPath parts path
  pub prefix : IsPrefix parts path
  pub from_on : from ≤ length path
  pub same : NoPartDiffers parts from (length path)

-- no file of the kind that is sought begins as all copies do, up to the first part in which they differ, or else whole
abbrev pub IsFirstDead : (List ℕ → Type 0) → List Part → Type 0
IsFirstDead Sought parts = (path : List ℕ) × IsNextPath parts 0 path × IsDead Sought (prefix_of parts path)

-- Inside the crate -------------------------------------------------------------------------------------------------

-- a path is one of those that live, or no file of the kind that is sought begins with what it makes
abbrev pub LivesOrIsDead : (List ℕ → Type 0) → List Part → List (List ℕ) → List ℕ → Type 0
LivesOrIsDead Sought parts living path = Contains living path ⊎ IsDead Sought (prefix_of parts path)

-- each path does that begins so, and goes from so many choices on to the next part in which copies differ
abbrev pub AreJudged : (List ℕ → Type 0) → List Part → ℕ → List (List ℕ) → List ℕ → Type 0
AreJudged Sought parts from living begin =
    (path : List ℕ) → IsNextPath parts from path → take (length begin) path ≡ begin → LivesOrIsDead Sought parts living path

-- a path that begins so, and goes on to the next part in which copies differ, was added to those that live, or is dead
pub record IsPathTaken (Sought : List ℕ → Type 0) (parts : List Part) (begin : List ℕ) (old new : List (List ℕ)) : Type 0 where
  pub path : List ℕ
  pub is_next : IsNextPath parts (length begin) path
  pub begins : take (length begin) path ≡ begin
  pub added : (new ≡ old ++ path ∷ []) ⊎ ((new ≡ old) × IsDead Sought (prefix_of parts path))

-- a path of a level of so many choices
abbrev pub IsOfLevel : List Part → ℕ → List ℕ → Type 0
IsOfLevel parts count path = IsPath parts path × IsPrefix parts path × (length path ≡ count)

-- of the paths of a level of so many choices, those that live: each other one is dead
pub record IsLevel (Sought : List ℕ → Type 0) (parts : List Part) (count : ℕ) (living : List (List ℕ)) : Type 0 where
  pub each : AllByRecursion (IsOfLevel parts count) living
  pub others : (path : List ℕ) → IsPath parts path → length path ≡ count → LivesOrIsDead Sought parts living path
