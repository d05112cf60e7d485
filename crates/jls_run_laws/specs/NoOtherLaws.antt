-- Never another picture, for whole runs of `join` and of `write`: whatever other inputs they have, and whatever damaged intervals read as.
use Rattle.std.specs.Prelude.{◌≡◌, ℕ, ◌<◌, ◌^◌, Bool, true, List, [], ◌∷◌, length, ◌⊎◌}
use Rattle.std.specs.List.{Contains}
use Rattle.jls_values.specs.OrderedSet as set
use Rattle.jls_partial.specs.Partial.{PartialPicture}
use Rattle.jls_partial.specs.Text.{text}
use Rattle.jls_io.specs.Event.{Event}
use Rattle.jls_write.specs.Picture.{WholePicture}
use Rattle.jls_write.specs.WholePictures.{IsPicture}
use Rattle.jls_station.specs.Texts.{IsTextOf}
use Rattle.jls_salvage_run.specs.CommandLaws.{input_bytes, output_bytes}
use Rattle.jls_cli.specs.Outcomes.{finished}
use Rattle.jls_salvage_run.specs.WritingFiles.{file, WritesFile}
use Rattle.jls_salvage_run.specs.declared.writing.Format.{Format}
use Rattle.jls_salvage_run.specs.declared.writing.Format.TheVariants.{Jls}
use Rattle.jls_headline.specs.Damaged.{picture_reading, Survives}
use Rattle.jls_headline.specs.ReadsAs.{GivesPicture, FilesReadAs, ReadsAsOnly}
use Rattle.jls_run_laws.specs.RunLaws.{DoneJoin}

-- an input has a line of the picture. It is a copy in which the line survives, or a text of the picture's shape that holds it
abbrev pub InputHasLine : WholePicture → List ℕ → ℕ → ℕ → Type 0
InputHasLine pic bytes component line =
    Survives pic bytes component line
    ⊎ ((p : PartialPicture) × IsTextOf bytes p × (p.shape ≡ pic.shape)
    × (set.contains p.readings (picture_reading pic component line) ≡ true))

-- for each line of the picture, one of these inputs has it
abbrev pub SomeInputHasEachLine : WholePicture → List (List ℕ) → Type 0
SomeInputHasEachLine pic inputs = (component line : ℕ) → component < length pic.shape.ids → line < pic.shape.height
    → (bytes : List ℕ) × Contains inputs bytes × InputHasLine pic bytes component line

-- let a `join` be done, and each line of a picture be in some input, whatever its other inputs are or read as. If each line that it joined
-- is settled, they are that picture, and its output was handed the text of it, with what sources it has
abbrev pub SettledJoinsAreThePicture : Type 0
SettledJoinsAreThePicture =
    (run : DoneJoin) → run.settled ≡ true
    → (pic : WholePicture) → IsPicture pic → SomeInputHasEachLine pic (input_bytes run.events)
    → GivesPicture run.joined pic × FilesReadAs run.joined pic × (output_bytes run.events ≡ text run.joined ∷ [])

-- let the input of a `write` that is done have each line of a picture. Then the file of that picture was handed out
abbrev pub WrittenInputsAreThePicture : Type 0
WrittenInputsAreThePicture =
    (format : Format) (out name : List ℕ) (settled whole : Bool) (events : List Event)
    → WritesFile format out name (finished settled whole) events
    → (pic : WholePicture) → IsPicture pic → SomeInputHasEachLine pic (input_bytes events)
    → output_bytes events ≡ file format pic ∷ []

-- as JPEG-LS, with any restart interval, what such a `write` handed to its output reads as that picture and as no other
abbrev pub WrittenInputsReadAsThePicture : Type 0
WrittenInputsReadAsThePicture =
    (line : Bool) (ri : ℕ) (out name : List ℕ) (settled whole : Bool) (events : List Event) → ri < 2 ^ 32
    → WritesFile (Jls line ri) out name (finished settled whole) events
    → (pic : WholePicture) → IsPicture pic → SomeInputHasEachLine pic (input_bytes events)
    → (bytes : List ℕ) × (output_bytes events ≡ bytes ∷ []) × ReadsAsOnly bytes pic
