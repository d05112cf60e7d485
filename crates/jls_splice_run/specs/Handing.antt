-- What was made, handed out.
use Rattle.std.specs.Prelude.{◌≡◌, ℕ, ◌+◌, List, [], ◌∷◌, ◌++◌, Option, Some, codes, length}
use Rattle.jls_io.specs.Event.{Event, created, not_created}
use Rattle.jls_io.specs.Writing.{Wrote, WrotePrefix}
use Rattle.jls_io.specs.Outputs.{HandsOut}
use Rattle.jls_cli.specs.Outputs.{StopsAtOutput}
use Rattle.jls_cli.specs.declared.outcome.Cause.TheVariants as cause
use Rattle.jls_cli.specs.declared.outcome.Refusal.{Refusal}
use Rattle.jls_splice_run.specs.Listing.{NamedFile}

-- the report output stops the run: it was handed so many of the bytes when a write failed
pub record StopsAtReport (bytes : List ℕ) (r : Refusal) (events : List Event) : Type 0 where
  pub count : ℕ
  pub wrote : WrotePrefix bytes count events
  pub name_is : r.name.now ≡ codes "-"
  pub cause_is : r.cause ≡ cause.NotWritten count

-- an output is handed these bytes if there are a name and bytes. Else nothing is done
abbrev pub HandsFile : Option (List ℕ) → Option (List ℕ) → List Event → Type 0
HandsFile (Some name) (Some bytes) events = HandsOut name bytes events
HandsFile _ _ events = events ≡ []

-- the output for the single file stops the run
abbrev pub StopsAtSingleFile : Option (List ℕ) → Option (List ℕ) → Refusal → List Event → Type 0
StopsAtSingleFile (Some name) (Some bytes) r events = StopsAtOutput name bytes r events
StopsAtSingleFile _ _ r events = ⊥

-- outputs of these names are handed these files, one after the other
pub data HandsFiles : List NamedFile → List Event → Type 0 where
  none_handed : HandsFiles [] []
  one_handed : (files : List NamedFile) (file : NamedFile) (events more : List Event) → HandsFiles files events
      → HandsOut file.name file.bytes more → HandsFiles (files ++ file ∷ []) (events ++ more)

-- the output of this number stops the run. It is not created, or it was handed so many of the bytes when a write failed
pub data StopsAtNumber (prefix : List ℕ) (number : ℕ) (file : NamedFile) (r : Refusal) : List Event → Type 0 where
  number_not_there : r.name.now ≡ prefix → r.cause ≡ cause.FileNotCreated number
      → StopsAtNumber prefix number file r (not_created file.name ∷ [])
  number_cut : (count : ℕ) (writes : List Event) → r.name.now ≡ prefix → r.cause ≡ cause.FileNotWritten number count
      → WrotePrefix file.bytes count writes → StopsAtNumber prefix number file r (created file.name ∷ writes)

-- one of these outputs stops the run, and those before it were handed their files
pub record StopsAtFiles (prefix : List ℕ) (files : List NamedFile) (r : Refusal) (events : List Event) : Type 0 where
  pub before : List NamedFile
  pub file : NamedFile
  pub after : List NamedFile
  pub files_are : files ≡ before ++ file ∷ after
  pub handing : List Event
  pub stop : List Event
  pub events_are : events ≡ handing ++ stop
  pub handed : HandsFiles before handing
  pub stops : StopsAtNumber prefix (length before + 1) file r stop

-- all that a run hands out: the lines that it prints, the text of its output, the single file, and the files that have numbers
pub record Texts : Type 0 where
  pub lines : List ℕ
  pub out : List ℕ
  pub text : List ℕ
  pub file_name : Option (List ℕ)
  pub file : Option (List ℕ)
  pub prefix : List ℕ
  pub files : List NamedFile

-- all of it is handed out in this order; the events are those of the desk and of the report output
pub record HandsAll (t : Texts) (desk report : List Event) : Type 0 where
  pub printed : Wrote t.lines report
  pub writing : List Event
  pub more : List Event
  pub rest : List Event
  pub desk_is : desk ≡ (writing ++ more) ++ rest
  pub handed : HandsOut t.out t.text writing
  pub file_handed : HandsFile t.file_name t.file more
  pub files_handed : HandsFiles t.files rest

-- the run stops before all of it is: at the report output, at OUT, at the file, or at one of those that have numbers
pub data StopsInHanding (t : Texts) (r : Refusal) : List Event → List Event → Type 0 where
  at_report : (report : List Event) → StopsAtReport t.lines r report → StopsInHanding t r [] report
  at_output : (desk report : List Event) → Wrote t.lines report → StopsAtOutput t.out t.text r desk → StopsInHanding t r desk report
  at_file : (writing more report : List Event) → Wrote t.lines report → HandsOut t.out t.text writing
      → StopsAtSingleFile t.file_name t.file r more → StopsInHanding t r (writing ++ more) report
  at_files : (writing more rest report : List Event) → Wrote t.lines report → HandsOut t.out t.text writing
      → HandsFile t.file_name t.file more → StopsAtFiles t.prefix t.files r rest → StopsInHanding t r ((writing ++ more) ++ rest) report
