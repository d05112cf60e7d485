-- The laws of splices.
use Rattle.std.specs.Prelude.{◌≡◌, ℕ, ◌<◌, List, [], length, get_or, ◌↔◌}
use Rattle.std.specs.List.{AllByRecursion, Contains}
use Rattle.jls_diff.specs.Parts.{Part, AreParts, IsSplice, splice_of, splices}

-- each copy is a splice of its parts
abbrev pub CopiesAreSplices : Type 0
CopiesAreSplices =
    (copies : List (List ℕ)) (parts : List Part) → AreParts copies parts → (j : ℕ) → j < length copies
    → IsSplice (length copies) parts (get_or copies j [])

-- of one copy or more, bytes are a splice if and only if they are listed
abbrev pub SplicesAreListed : Type 0
SplicesAreListed =
    (copies : List (List ℕ)) (parts : List Part) → AreParts copies parts → 0 < length copies → (bytes : List ℕ)
    → IsSplice (length copies) parts bytes ↔ Contains (splices parts) bytes

-- choices make a splice, and each splice is that of some choices, one for each part
abbrev pub ChoicesMakeSplices : Type 0
ChoicesMakeSplices =
    (count : ℕ) (parts : List Part) → 0 < count
    → ((choices : List ℕ) → AllByRecursion (λ j. j < count) choices → IsSplice count parts (splice_of parts choices))
    × ((bytes : List ℕ) → IsSplice count parts bytes
    → (choices : List ℕ) × (length choices ≡ length parts) × AllByRecursion (λ j. j < count) choices × (bytes ≡ splice_of parts choices))
