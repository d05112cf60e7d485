-- Inside the crate: what is seen of files before a shape is taken. It concerns no caller.
use Rattle.std.specs.Prelude.{◌≡◌, ℕ, Bool, true, false, List, [], ◌∷◌, slice_get, take, IsSomeAnd, ◌⊎◌}
use Rattle.std.specs.List.{AllByRecursion, Contains}
use Rattle.jls_values.specs.Shape.{PictureShape}
use Rattle.jls_copy.specs.CopyReads.{CopyGivesNoneUnder}
use Rattle.jls_copy.specs.declared.reader.CopyFault.TheVariants.{NoPicture}
use Rattle.jls_marker.specs.declared.profile.Profile.TheVariants.{Wide}
use Rattle.jls_search.specs.Faultless.{IsFaultless}
use Rattle.jls_search.specs.Shapes.{HasFrameOfShape}
use Rattle.jls_search.specs.declared.shape_found.ShapeFound.{ShapeFound}
use Rattle.jls_search.specs.declared.shape_found.ShapeFound.TheVariants as answer
use Rattle.jls_search.specs.declared.seen.Seen.{Seen}
use Rattle.jls_search.specs.declared.seen.Seen.TheVariants.{Faultless, Faulty, NoFrame}

-- this is seen of the file
abbrev pub IsSeen : List ℕ → Seen → Type 0
IsSeen file (Faultless shape) = HasFrameOfShape shape file × IsFaultless file
IsSeen file (Faulty shape) = HasFrameOfShape shape file × (IsFaultless file → ⊥)
IsSeen file (NoFrame fault offset) = CopyGivesNoneUnder Wide file (NoPicture fault offset)

-- and these are, of each file in turn
abbrev pub AreSeen : List (List ℕ) → List Seen → Type 0
AreSeen [] [] = Unit {0}
AreSeen (file ∷ files) (seen ∷ more) = IsSeen file seen × AreSeen files more
AreSeen _ _ = ⊥

-- whether it has no fault
abbrev pub verdict_of : Seen → Bool
verdict_of (Faultless shape) = true
verdict_of (Faulty shape) = false
verdict_of (NoFrame fault offset) = false

-- the file isn't without a fault
abbrev pub IsNotFaultless : Seen → Type 0
IsNotFaultless (Faultless shape) = ⊥
IsNotFaultless (Faulty shape) = Unit {0}
IsNotFaultless (NoFrame fault offset) = Unit {0}

-- it is, and has this shape; or it isn't
abbrev pub HasItIfFaultless : PictureShape → Seen → Type 0
HasItIfFaultless shape (Faultless own) = own ≡ shape
HasItIfFaultless shape (Faulty own) = Unit {0}
HasItIfFaultless shape (NoFrame fault offset) = Unit {0}

-- it has a frame, of this shape
abbrev pub HasFrame : PictureShape → Seen → Type 0
HasFrame shape (Faultless own) = own ≡ shape
HasFrame shape (Faulty own) = own ≡ shape
HasFrame shape (NoFrame fault offset) = ⊥

-- it has none
abbrev pub IsWithoutFrame : Seen → Type 0
IsWithoutFrame (Faultless shape) = ⊥
IsWithoutFrame (Faulty shape) = ⊥
IsWithoutFrame (NoFrame fault offset) = Unit {0}

-- it has one of another shape
abbrev pub HasOtherFrame : PictureShape → Seen → Type 0
HasOtherFrame shape (Faultless own) = own ≡ shape → ⊥
HasOtherFrame shape (Faulty own) = own ≡ shape → ⊥
HasOtherFrame shape (NoFrame fault offset) = ⊥

-- the shape of the first frame
abbrev pub IsFirstFrame : PictureShape → List Seen → Type 0
IsFirstFrame shape [] = ⊥
IsFirstFrame shape (file ∷ more) = HasFrame shape file ⊎ (IsWithoutFrame file × IsFirstFrame shape more)

-- the file of this number is the first that has a frame of another shape
abbrev pub IsFirstOtherFrame : PictureShape → List Seen → ℕ → Type 0
IsFirstOtherFrame shape seen copy =
    IsSomeAnd (slice_get seen copy) (HasOtherFrame shape) × AllByRecursion (λ file. HasOtherFrame shape file → ⊥) (take copy seen)

-- a file without a fault is among those seen, and has another shape
abbrev pub SomeFaultlessHasOther : PictureShape → List Seen → Type 0
SomeFaultlessHasOther shape seen = (other : PictureShape) × Contains seen (Faultless other) × (other ≡ shape → ⊥)

-- the copy that is named where shapes differ
abbrev pub IsNamed : List Seen → ℕ → Type 0
IsNamed seen copy =
    ((shape : PictureShape) × IsFirstFrame shape seen × IsFirstOtherFrame shape seen copy)
    ⊎ (((shape : PictureShape) → IsFirstFrame shape seen → AllByRecursion (λ file. HasOtherFrame shape file → ⊥) seen) × (copy ≡ 0))

-- what comes of the copies where no file is without a fault
abbrev pub IsOfCopies : List Seen → ShapeFound → Type 0
IsOfCopies seen (answer.Taken shape) = IsFirstFrame shape seen
IsOfCopies seen (answer.Differ copy) = ⊥
IsOfCopies seen (answer.NoFrame fault offset) =
    AllByRecursion IsWithoutFrame seen × IsSomeAnd (slice_get seen 0) (λ first. first ≡ NoFrame fault offset)
