-- What copies in several codings give each other: mended files, and the lines that these hold.
use Rattle.std.specs.Prelude.{◌≡◌, ◌↔◌, ℕ, ◌+◌, Bool, true, false, IsTrue, List, [], ◌∷◌, ◌++◌, Option, Some, None, length, map}
use Rattle.std.specs.Prelude.{nat_eq, replicate, take, if◌then◌else◌}
use Rattle.std.specs.List.{Contains}
use Rattle.jls_values.specs.OrderedSet as set
use Rattle.jls_values.specs.Shape.{PictureShape}
use Rattle.jls_partial.specs.Partial.{PartialPicture, union}
use Rattle.jls_partial.specs.Status.{IsSettled}
use Rattle.jls_search.specs.Faultless.{IsFaultless}
use Rattle.jls_carried.specs.CodingLines.{are_all_printed}
use Rattle.jls_held.specs.MendedFiles.{MendedFile}
use Rattle.jls_held.specs.HeldPictures.{AreReadingsHeld}
use Rattle.jls_held.specs.Judging.{AreMendedOf, EditedCopy, codings_of}
use Rattle.jls_held.specs.Mending.{file_of}
use Rattle.jls_carried.specs.declared.carrying.Between.{Between}
use Rattle.jls_station.specs.Given.{marked}
use Rattle.jls_splice_run.specs.Listing.{NamedFile, numbered}
use Rattle.jls_splice_run.specs.ReadsAs.{EachReadsAs}
use Rattle.jls_splice_run.specs.declared.handed_out.HandedOut.{HandedOut}
use Rattle.jls_splice_run.specs.declared.found.Promise.{Promise}
use Rattle.jls_splice_run.specs.declared.found.Promise.TheVariants.{Held, Lines, Picture}

-- What copies gave each other: of each coding its copies, with the edits of each, and their mended file. Strangers are the copies that
-- agree with no other, by their numbers from 0. The lines are those that the mended files hold. It is said whether each file taken has a
-- fault, and whether the held lines are all lines, each with one reading. It is said too whether each mended file was found to read as
-- these
pub record Carried : Type 0 where
  pub codings : List (List EditedCopy)
  pub files : List MendedFile
  pub strangers : List ℕ
  pub held : PartialPicture
  pub is_alone : Bool
  pub is_held : Bool
  pub are_read : Bool

-- so it is for these copies and a shape, where these files are taken. What is held has no sources
pub record IsCarried (copies taken : List (List ℕ)) (shape : PictureShape) (c : Carried) : Type 0 where
  pub alone : IsTrue c.is_alone ↔ ((file : List ℕ) → Contains taken file → ¬ IsFaultless file)
  pub are_mended : AreMendedOf copies c.codings c.files
  pub shape_is : c.held.shape ≡ shape
  pub marks_are : c.held.marks ≡ set.empty
  pub are_held : AreReadingsHeld c.files c.held
  pub all_held : IsTrue c.is_held ↔ IsSettled c.held
  pub each_reads : IsTrue c.are_read → EachReadsAs c.held c.files

-- whether each edit has a line, and no copy agrees with no other
abbrev pub are_sound : List (List EditedCopy) → List ℕ → Bool
are_sound codings strangers = if are_all_printed codings then nat_eq (length strangers) 0 else false

-- The promise, by whether each line is held, and each mended file reads so. It is of the picture if all of it is so, each edit has a line,
-- and no copy agrees with no other
abbrev pub promise_for : List (List EditedCopy) → List ℕ → Bool → Bool → Promise
promise_for codings strangers is_held are_read =
    if is_held then (if are_read then (if are_sound codings strangers then Held else Lines) else Lines) else Lines

-- and so of what copies gave each other
abbrev pub carried_promise : Carried → Promise
carried_promise c = promise_for c.codings c.strangers c.is_held c.are_read

-- What is handed out, by the promise. If it is of the picture, these are the held lines, under the source. A file taken that says otherwise
-- is then a copy with edits. Else they are the held lines and what the files taken give
abbrev pub handed_by : Promise → Option ℕ → PartialPicture → PartialPicture → PartialPicture
handed_by Held source held given = marked source held
handed_by (Picture ceiling) source held given = union held given
handed_by Lines source held given = union held given

-- and so where copies in several codings may have given each other something
abbrev pub joined : Option ℕ → Option Carried → PartialPicture → PartialPicture
joined source None p = p
joined source (Some c) p = handed_by (carried_promise c) source c.held p

-- the mended file of the first coding, if the picture is promised and a name is given for it
abbrev pub carried_file : {A : Type 0} → Option A → Promise → List MendedFile → Option (List ℕ)
carried_file (Some name) Held (f ∷ files) = Some f.bytes
carried_file name promise files = None

-- files with their names, from this number on
abbrev pub numbered_from : List ℕ → ℕ → List MendedFile → List NamedFile
numbered_from prefix number [] = []
numbered_from prefix number (f ∷ files) =
    record { name = numbered prefix number; bytes = f.bytes } ∷ numbered_from prefix (number + 1) files

-- the mended files with their names, 64 at most, if what these begin with is given
abbrev pub carried_files : Option (List ℕ) → List MendedFile → List NamedFile
carried_files None files = []
carried_files (Some prefix) files = numbered_from prefix 1 (take 64 files)

-- The files of which those with numbers are made, where a file taken may be without a fault: those taken. The mended files stand before
-- them if the picture is promised
abbrev pub files_beside : Promise → List MendedFile → List (List ℕ) → List (List ℕ)
files_beside Held mended taken = map (λ f. f.bytes) mended ++ taken
files_beside (Picture ceiling) mended taken = taken
files_beside Lines mended taken = taken

-- As the code has it ------------------------------------------------------------------------------------------------

-- what was judged, whether each file taken has a fault, whether each line is held, and whether the mended files were found to read so
abbrev pub carried_of : Between → Bool → Bool → Bool → Carried
carried_of b is_alone is_held are_read = record {
  codings = codings_of b.judged.codings.items;
  files = map file_of b.judged.files.items;
  strangers = b.strangers.items;
  held = b.judged.held;
  is_alone = is_alone;
  is_held = is_held;
  are_read = are_read;
}

-- what is handed out of it, with the lines that are held, and whether each file taken has a fault
abbrev pub carried_out : HandedOut → PartialPicture → Bool → Carried
carried_out out held is_alone = record {
  codings = codings_of out.codings.items;
  files = map file_of out.mended.items;
  strangers = out.strangers.items;
  held = held;
  is_alone = is_alone;
  is_held = out.is_held;
  are_read = out.are_read;
}

-- the promise and the picture are those of these held lines, where the files taken give that
pub record IsHandedOut (source : Option ℕ) (held given : PartialPicture) (is_alone : Bool) (out : HandedOut) : Type 0 where
  pub promise_is : out.promise ≡ carried_promise (carried_out out held is_alone)
  pub picture_is : out.picture ≡ joined source (Some (carried_out out held is_alone)) given

-- verdicts on the same files: no mended file of a promised picture has a fault
abbrev pub verdicts_beside : Promise → List MendedFile → List Bool → List Bool
verdicts_beside Held mended verdicts = replicate (length mended) true ++ verdicts
verdicts_beside (Picture ceiling) mended verdicts = verdicts
verdicts_beside Lines mended verdicts = verdicts
