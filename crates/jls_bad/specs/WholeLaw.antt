-- The law of copies without bad places.
use Rattle.std.specs.Prelude.{◌≡◌, ℕ, List, [], length, map}
use Rattle.std.specs.List.{AllByRecursion}
use Rattle.jls_bad.specs.Known.{Copy, IsKnownCopy, AreKnownCopies}

-- what stands for a copy without bad places is the copy
abbrev pub IsWholeWithout : Type 0
IsWholeWithout =
    (copies : List Copy) (copy : Copy) (known : List ℕ) → IsKnownCopy copies copy known → copy.places ≡ [] → known ≡ copy.bytes

-- known copies are as many as the copies
abbrev pub AreAsMany : Type 0
AreAsMany = (copies : List Copy) (files : List (List ℕ)) → AreKnownCopies copies files → length files ≡ length copies

-- if no copy has a bad place, they are the copies
abbrev pub AreWholeWithout : Type 0
AreWholeWithout = (copies : List Copy) (files : List (List ℕ)) → AreKnownCopies copies files
    → AllByRecursion (λ copy. copy.places ≡ []) copies → files ≡ map (λ copy. copy.bytes) copies
