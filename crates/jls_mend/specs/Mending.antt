-- What is mended of copies in memory.
use Rattle.std.specs.Prelude.{◌≡◌, ◌≤◌, ◌↔◌, ◌⊎◌, ℕ, IsTrue, List, [], ◌∷◌, ◌++◌, Option, Some, None, Err, codes, length, map}
use Rattle.std.specs.Prelude.{position}
use Rattle.std.specs.List.{AllZip}
use Rattle.std.specs.Str.{bytes_eq}
use Rattle.clap.specs.Words.{Text}
use Rattle.jls_bad.specs.Known.{AreKnownCopies}
use Rattle.jls_bad.specs.ListText.{AreNamed}
use Rattle.jls_bad.specs.declared.place.Place.{Place}
use Rattle.jls_io.specs.Event.{Event, bytes_taken}
use Rattle.jls_partial.specs.Text.{text}
use Rattle.jls_station.specs.CopyFiles.{CopyBytes}
use Rattle.jls_station.specs.declared.input.ReadStop.TheVariants.{Whole}
use Rattle.jls_memory.specs.Files.{File}
use Rattle.jls_memory.specs.Held.{output_files}
use Rattle.jls_memory.specs.Inputs.{ReadsComeFrom}
use Rattle.jls_memory.specs.Outputs.{outputs_of}
use Rattle.jls_cli.specs.SpliceAsking.{AskFor}
use Rattle.jls_cli.specs.Outcomes.{status_of_done}
use Rattle.jls_cli.specs.declared.outcome.Cause.TheVariants.{OutOfMemory}
use Rattle.jls_cli.specs.declared.outcome.Refusal.{Refusal}
use Rattle.jls_splice_run.specs.BadLists.{copies_with}
use Rattle.jls_splice_run.specs.Copies.{AreWhole, bytes_read}
use Rattle.jls_splice_run.specs.Listing.{NamedFile}
use Rattle.jls_splice_run.specs.Making.{IsMade, Made, is_of_picture, lines, promise_on}
use Rattle.jls_splice_run.specs.Runs.{Run, Splices}
use Rattle.jls_mend.specs.Asking.{BadPlaces, asked_for, inputs_of, inputs_with, lists_of, names_in, said_by}
use Rattle.jls_mend.specs.declared.asking.MendOptions.{MendOptions}
use Rattle.jls_mend.specs.declared.mending.MendRefusal.{MendRefusal}
use Rattle.jls_mend.specs.declared.mending.Mended.{Mended}

-- ---- what was made

-- this was read of a copy: all of it, or the first bytes of one that has 4,294,967,295 bytes or more
pub record IsReadOf (copy : List ℕ) (read : CopyBytes) : Type 0 where
  pub following : List ℕ
  pub copy_is : copy ≡ read.bytes ++ following
  pub if_whole : read.stop ≡ Whole → following ≡ []
  pub if_not : (read.stop ≡ Whole → ⊥) → 4294967295 ≤ length copy

-- The lists name these places of the copies. What is searched are known copies. Each has its bytes that are not bad, and else those of the
-- first copy of the same length that has one which is not
pub record AreKnownOf (copies : List (List ℕ)) (bad : List BadPlaces) (searched : List (List ℕ)) : Type 0 where
  pub places : List (List Place)
  pub named : AllZip (λ l own. AreNamed l.text own) bad places
  pub known : AreKnownCopies (copies_with (said_by bad) places copies) searched

-- what is searched of copies. Without a list it is the copies
abbrev pub AreSearchedOf : List (List ℕ) → List BadPlaces → List (List ℕ) → Type 0
AreSearchedOf copies [] searched = searched ≡ copies
AreSearchedOf copies (l ∷ ls) searched = AreKnownOf copies (l ∷ ls) searched

-- the mended file as an output, if there is one
abbrev pub file_made : Option (List ℕ) → List File
file_made None = []
file_made (Some file) = record { name = codes "FILE"; bytes = file } ∷ []

-- a file that has a number as an output
abbrev pub numbered_made : NamedFile → File
numbered_made f = record { name = f.name; bytes = f.bytes }

-- what was made as outputs: the text of the picture, the mended file if there is one, and the files that have numbers
abbrev pub outputs_made : Made → List File
outputs_made m =
    record { name = codes "OUT"; bytes = text m.picture } ∷ (file_made m.single ++ map numbered_made m.files)

-- what the options ask for was made of what is searched of these copies and lists, and this is what is handed out of it
pub record IsMendedOf (o : MendOptions) (copies : List (List ℕ)) (bad : List BadPlaces) (v : Mended) : Type 0 where
  pub read : List CopyBytes
  pub read_of : AllZip IsReadOf copies read
  pub searched : List (List ℕ)
  pub are_searched : AreSearchedOf (bytes_read read) bad searched
  pub made : Made
  pub is_made : IsMade (asked_for o copies bad) searched made
  pub outputs_are : output_files v.outputs.items ≡ outputs_made made
  pub lines_are : v.lines.items ≡ lines (asked_for o copies bad) searched made
  pub promised : v.is_promised ≡ is_of_picture (promise_on made)
  pub whole : IsTrue v.is_whole ↔ AreWhole read

-- the same without lists: what was read of the copies is searched
pub record IsMendedAlone (o : MendOptions) (copies : List (List ℕ)) (v : Mended) : Type 0 where
  pub read : List CopyBytes
  pub read_of : AllZip IsReadOf copies read
  pub made : Made
  pub is_made : IsMade (asked_for o copies []) (bytes_read read) made
  pub outputs_are : output_files v.outputs.items ≡ outputs_made made
  pub lines_are : v.lines.items ≡ lines (asked_for o copies []) (bytes_read read) made
  pub promised : v.is_promised ≡ is_of_picture (promise_on made)
  pub whole : IsTrue v.is_whole ↔ AreWhole read

-- ---- what the program does

-- It is what the program hands out: whatever words ask for this, a run over them ends with this status. Its reads come from the copies, its
-- outputs hold these files, and it prints these lines
pub record IsOfRun (o : MendOptions) (copies : List (List ℕ)) (bad : List BadPlaces) (v : Mended) : Type 0 where
  pub desk : List Event
  pub report : List Event
  pub faults : List Event
  pub runs : (words : List Text) → AskFor words (asked_for o copies bad)
      → Run words (status_of_done v.is_promised v.is_whole) desk report faults
  pub reads : ReadsComeFrom (inputs_with copies bad) desk
  pub outputs_are : output_files v.outputs.items ≡ outputs_of desk
  pub lines_are : v.lines.items ≡ bytes_taken report

-- ---- why nothing was mended

-- something stops the program, by its events. The refusal has the cause, and the place of the copy or of the list at which it stops, if it
-- is one
pub record Stops (o : MendOptions) (copies : List (List ℕ)) (bad : List BadPlaces) (v : MendRefusal) : Type 0 where
  pub refusal : Refusal
  pub desk : List Event
  pub report : List Event
  pub faults : List Event
  pub splices : Splices (asked_for o copies bad) (Err refusal) desk report faults
  pub reads : ReadsComeFrom (inputs_with copies bad) desk
  pub cause_is : v.cause ≡ refusal.cause
  pub copy_is : v.copy ≡ position (λ name. bytes_eq name refusal.name.now) (names_in (inputs_of copies))
  pub list_is : v.list ≡ position (λ name. bytes_eq name refusal.name.now) (names_in (lists_of bad))

-- memory ran out before the program ran; or something stopped it
abbrev pub IsRefusedOf : MendOptions → List (List ℕ) → List BadPlaces → MendRefusal → Type 0
IsRefusedOf o copies bad v = ((v.cause ≡ OutOfMemory) × (v.copy ≡ None) × (v.list ≡ None)) ⊎ Stops o copies bad v
