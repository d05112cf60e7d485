-- Whether mended files read as the picture that is handed out.
use Rattle.std.specs.Prelude.{◌≡◌, ℕ, ◌<◌, List, [], ◌∷◌, length}
use Rattle.std.specs.List.{AllByRecursion}
use Rattle.jls_values.specs.Shape.{PictureShape}
use Rattle.jls_partial.specs.Partial.{PartialPicture, readings_at}
use Rattle.jls_marker.specs.declared.profile.Profile.TheVariants.{Wide}
use Rattle.jls_copy.specs.CopyReads.{CopyReadsUnder}
use Rattle.jls_copy.specs.ReadCopy.{ReadCopy}
use Rattle.jls_held.specs.MendedFiles.{MendedFile}
use Rattle.jls_search.specs.Faultless.{EndsWell, IsFaultless}

-- both have one reading of a line, the same one
abbrev pub HaveLineAlike : PartialPicture → PartialPicture → ℕ → ℕ → Type 0
HaveLineAlike p q component line =
    (samples : List ℕ) × (readings_at p component line ≡ samples ∷ []) × (readings_at q component line ≡ samples ∷ [])

-- and so of each line of a component of the second
abbrev pub HaveComponentAlike : PartialPicture → PartialPicture → ℕ → Type 0
HaveComponentAlike p q component = (line : ℕ) → line < q.shape.height → HaveLineAlike p q component line

-- the shapes have the same width and height, and as many components
pub record HaveSameSize (s t : PictureShape) : Type 0 where
  pub width_is : s.width ≡ t.width
  pub height_is : s.height ≡ t.height
  pub components_are : length s.ids ≡ length t.ids

-- The file has no fault. It is read under the wide profile, by line and by sample. It gives each line of the picture, and no other line.
-- Its precision may be another
pub record ReadsAs (p : PartialPicture) (file : List ℕ) : Type 0 where
  pub are_bytes : AllByRecursion (λ b. b < 256) file
  pub faultless : IsFaultless file
  pub read : ReadCopy
  pub reads : CopyReadsUnder Wide file read
  pub ends : EndsWell read.ended
  pub same_size : HaveSameSize read.partial.shape p.shape
  pub each_alike : (component : ℕ) → component < length p.shape.ids → HaveComponentAlike read.partial p component

-- and so each of the mended files
abbrev pub EachReadsAs : PartialPicture → List MendedFile → Type 0
EachReadsAs p files = AllByRecursion (λ f. ReadsAs p f.bytes) files
