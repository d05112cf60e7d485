-- Choices of ways, part by part, and the bytes that they make.
use Rattle.std.specs.Prelude.{◌≡◌, ℕ, ◌<◌, List, [], ◌∷◌, ◌++◌, length, get_or, ◌⊎◌}
use Rattle.jls_diff.specs.Parts.{Part, Same, Differ, Differs, way}

-- the bytes that choices make of the first parts
abbrev pub prefix_of : List Part → List ℕ → List ℕ
prefix_of parts [] = []
prefix_of [] (choice ∷ choices) = []
prefix_of (part ∷ parts) (choice ∷ choices) = way choice part ++ prefix_of parts choices

-- no way before this one has the same bytes
abbrev pub IsNew : List (List ℕ) → ℕ → Type 0
IsNew ways choice = (other : ℕ) → other < choice → get_or ways other [] ≡ get_or ways choice [] → ⊥

-- a choice is a way of a part, and the first with its bytes
abbrev pub IsFirstWay : Part → ℕ → Type 0
IsFirstWay (Same bytes) choice = choice ≡ 0
IsFirstWay (Differ ways) choice = (choice < length ways) × IsNew ways choice

-- there is such a choice for each of the first parts
abbrev pub IsPath : List Part → List ℕ → Type 0
IsPath parts [] = Unit {0}
IsPath [] (choice ∷ choices) = ⊥
IsPath (part ∷ parts) (choice ∷ choices) = IsFirstWay part choice × IsPath parts choices

-- there is such a choice for each part
abbrev pub IsWhole : List Part → List ℕ → Type 0
IsWhole parts choices = IsPath parts choices × (length choices ≡ length parts)

-- choices go up to the next part in which copies differ, or to the end of the file
abbrev pub IsPrefix : List Part → List ℕ → Type 0
IsPrefix parts path = Differs (get_or parts (length path) (Same [])) ⊎ (length path ≡ length parts)

-- a part that differs has a way
abbrev pub HasSomeWay : Part → Type 0
HasSomeWay (Same bytes) = Unit {0}
HasSomeWay (Differ ways) = 0 < length ways
