-- The laws of held lines: whatever undamaged files have the bytes that copies have, their held lines are the same.
use Rattle.std.specs.Prelude.{◌≡◌, ℕ, ◌<◌, Bool, true, List, [], ◌∷◌, length}
use Rattle.std.specs.List.{AllByRecursion}
use Rattle.jls_values.specs.OrderedSet as set
use Rattle.jls_partial.specs.Reading.{Reading}
use Rattle.jls_partial.specs.Partial.{PartialPicture, readings_at}
use Rattle.jls_partial.specs.Status.{IsSettled}
use Rattle.jls_held.specs.MendedFiles.{MendedFile, HasHeldBytes}
use Rattle.jls_held.specs.Edits.{Edit, edited, AreRefilled, held_by_either}
use Rattle.jls_held.specs.Judging.{EditedCopy, IsMendedOf}
use Rattle.jls_held.specs.HeldLines.{IsHeld}
use Rattle.jls_held.specs.HeldPictures.{AreReadingsHeld}
use Rattle.jls_carry_laws.specs.StrictlyHeld.{IsStrictlyHeld}
use Rattle.jls_carry_laws.specs.TrueFiles.{PictureLines, IsPictureLine, AreFilesOfBytes, HaveTrueFilesOfTheirSkeletons, HaveTrueFilesAsLong}
use Rattle.jls_carry_laws.specs.TrueFiles.{IsCopyOf}

-- A copy was damaged nowhere but in its edits, and the true bytes there are as many as those of the edits. Then the undamaged file has the
-- held bytes of the mended one, and its length
abbrev pub RefilledEditsKeepHeldBytes : Type 0
RefilledEditsKeepHeldBytes =
    (copy : List ℕ) (edits truth : List Edit) → AreRefilled edits truth
    → HasHeldBytes (edited 0 copy edits) (edited 0 copy truth).bytes
    × (length (edited 0 copy edits).bytes ≡ length (edited 0 copy truth).bytes)

-- a file that has the bytes of one file which one copy has, and those which another has, has all that either has
abbrev pub BytesAreHeldByEither : Type 0
BytesAreHeldByEither =
    (bytes truth : List ℕ) (held others : List Bool)
    → HasHeldBytes (record { bytes = bytes; held = held }) truth → HasHeldBytes (record { bytes = bytes; held = others }) truth
    → HasHeldBytes (record { bytes = bytes; held = held_by_either held others }) truth

-- A file is mended of copies of one coding, and each was damaged nowhere but in its edits. Then the true file of which all are copies has
-- its held bytes, and its length
abbrev pub JudgedFilesHaveTrueBytes : Type 0
JudgedFilesHaveTrueBytes =
    (copies : List (List ℕ)) (coding : List EditedCopy) (f : MendedFile) (truth : List ℕ)
    → IsMendedOf copies coding f → AllByRecursion (IsCopyOf copies truth) coding → HasHeldBytes f truth × (length f.bytes ≡ length truth)

-- Each of the files has a true file of one picture, with the same skeleton. Then each held line is that picture's. It can be a line of a
-- piece that is faulty or cut off
abbrev pub HeldLinesAreThePicture : Type 0
HeldLinesAreThePicture =
    (files : List MendedFile) (picture : PictureLines) → AreFilesOfBytes files → HaveTrueFilesOfTheirSkeletons picture files
    → (r : Reading) → IsHeld files r → IsPictureLine picture r

-- Each of the files has a true file of one picture that is at least as long. Then each line that is strictly held is that picture's
abbrev pub StrictlyHeldLinesAreThePicture : Type 0
StrictlyHeldLinesAreThePicture =
    (files : List MendedFile) (picture : PictureLines) → AreFilesOfBytes files → HaveTrueFilesAsLong picture files
    → (r : Reading) → IsStrictlyHeld files r → IsPictureLine picture r

-- Partial pictures of which all lines are held ---------------------------------------------------------

-- each reading of a partial picture is strictly held by the files
abbrev pub AreReadingsStrictlyHeld : List MendedFile → PartialPicture → Type 0
AreReadingsStrictlyHeld files p = (r : Reading) → set.contains p.readings r ≡ true → IsStrictlyHeld files r

-- each line of a partial picture has one reading, which is the picture's line
abbrev pub HasPictureLines : PictureLines → PartialPicture → Type 0
HasPictureLines picture p =
    (component line : ℕ) → component < length p.shape.ids → line < p.shape.height
    → readings_at p component line ≡ picture component line ∷ []

-- Let each line of a partial picture be settled, and each of its readings held. Then its lines are those of the picture of which the files
-- have true files, with their skeletons
abbrev pub SettledHeldLinesAreThePicture : Type 0
SettledHeldLinesAreThePicture =
    (files : List MendedFile) (picture : PictureLines) → AreFilesOfBytes files → HaveTrueFilesOfTheirSkeletons picture files
    → (p : PartialPicture) → IsSettled p → AreReadingsHeld files p → HasPictureLines picture p

-- If they are strictly held, the true files need only be as long
abbrev pub SettledStrictlyHeldLinesAreThePicture : Type 0
SettledStrictlyHeldLinesAreThePicture =
    (files : List MendedFile) (picture : PictureLines) → AreFilesOfBytes files → HaveTrueFilesAsLong picture files
    → (p : PartialPicture) → IsSettled p → AreReadingsStrictlyHeld files p → HasPictureLines picture p
