-- Edited copies that make one file, and which of its bytes the copies have. What `judge` takes and answers, in these words.
use Rattle.std.specs.Prelude.{◌≡◌, ℕ, ◌<◌, Bool, List, [], ◌∷◌, length, get_or, map, Vec}
use Rattle.std.specs.List.{AllByRecursion, AllZip}
use Rattle.std.specs.declared.alloc.Global.{Global}
use Rattle.std.proofs.Common.{Bor}
use Rattle.jls_held.specs.declared.judging.EditedCopy.{EditedCopy as EditedCopyValue}
use Rattle.jls_held.specs.MendedFiles.{MendedFile}
use Rattle.jls_held.specs.Edits.{Edit, AreEdits, edited, held_by_either}
use Rattle.jls_held.specs.Mending.{edits_of}

-- a copy by its place among the copies, from 0, and edits of it
pub record EditedCopy : Type 0 where
  pub number : ℕ
  pub edits : List Edit

-- the copy is there, and its edits are in order and inside it
pub record FitsCopy (copies : List (List ℕ)) (e : EditedCopy) : Type 0 where
  pub within : e.number < length copies
  pub are_edits : AreEdits 0 (length (get_or copies e.number [])) e.edits

-- what the edits make of their copy
abbrev pub made_of : List (List ℕ) → EditedCopy → MendedFile
made_of copies e = edited 0 (get_or copies e.number []) e.edits

-- the edits make these bytes of their copy
pub record IsEditedTo (copies : List (List ℕ)) (bytes : List ℕ) (e : EditedCopy) : Type 0 where
  pub fits : FitsCopy copies e
  pub makes : (made_of copies e).bytes ≡ bytes

-- which bytes of a file at least one of the edited copies has
abbrev pub held_by_any : List (List ℕ) → List EditedCopy → List Bool
held_by_any copies [] = []
held_by_any copies (e ∷ coding) = held_by_either (made_of copies e).held (held_by_any copies coding)

-- A file is mended of the copies of one coding: the edits of each make its bytes. Held are those that at least one of the copies has
pub record IsMendedOf (copies : List (List ℕ)) (coding : List EditedCopy) (f : MendedFile) : Type 0 where
  pub some_copy : 0 < length coding
  pub each : AllByRecursion (IsEditedTo copies f.bytes) coding
  pub held_is : f.held ≡ held_by_any copies coding

-- as many files as codings, and each is mended of the copies of the coding in its place
abbrev pub AreMendedOf : List (List ℕ) → List (List EditedCopy) → List MendedFile → Type 0
AreMendedOf copies codings files = AllZip (IsMendedOf copies) codings files

-- the proposals that are taken: those of which some file is mended, in their order
pub data AreTaken (copies : List (List ℕ)) : List (List EditedCopy) → List (List EditedCopy) → Type 0 where
  none : AreTaken copies [] []
  taken : (coding : List EditedCopy) (f : MendedFile) → IsMendedOf copies coding f
      → (proposals codings : List (List EditedCopy)) → AreTaken copies proposals codings
      → AreTaken copies (coding ∷ proposals) (coding ∷ codings)
  left_out : (proposal : List EditedCopy) → ((f : MendedFile) → IsMendedOf copies proposal f → ⊥)
      → (proposals codings : List (List EditedCopy)) → AreTaken copies proposals codings → AreTaken copies (proposal ∷ proposals) codings

-- in the words of the code ---------------------------------------------------------------------------

-- the bytes that slices show
abbrev pub bytes_of : List (Bor (List ℕ)) → List (List ℕ)
bytes_of slices = map (λ slice. slice.now) slices

-- a copy by its place, and edits of it
abbrev pub edited_copy_of : EditedCopyValue → EditedCopy
edited_copy_of e = record { number = e.number; edits = edits_of e.edits.items }

-- and a list of them
abbrev pub coding_of : List EditedCopyValue → List EditedCopy
coding_of coding = map edited_copy_of coding

-- and a list of such lists
abbrev pub codings_of : List (Vec EditedCopyValue Global) → List (List EditedCopy)
codings_of codings = map (λ coding. coding_of coding.items) codings
