-- What comes of the command `write`.
use Rattle.std.specs.Borrow.{Bor}
use Rattle.std.specs.Prelude.{◌≡◌, ℕ, ◌*◌, ◌^◌, ◌<◌, Bool, true, false, List, [], ◌∷◌, ◌++◌, length, take, None, Err, get_or}
use Rattle.jls_partial.specs.Partial.{PartialPicture}
use Rattle.jls_partial.specs.Status.{IsSettled}
use Rattle.jls_report.specs.Lines.{is_disputed}
use Rattle.jls_write.specs.Picture.{WholePicture, picture_of}
use Rattle.jls_write.specs.Options.{WriteOptions, OptionsFit, components_of_scan, rows_of_interval}
use Rattle.jls_write.specs.Pnm.{pnm}
use Rattle.jls_write.specs.WrittenFile.{written_file}
use Rattle.jls_values.specs.ParamsOf.{in_force}
use Rattle.jls_values.specs.PresetParameters.{no_presets}
use Rattle.jls_write.specs.Unsettled.{NamesFirstUnsettled}
use Rattle.jls_write.specs.declared.picture.PictureFault.{PictureFault}
use Rattle.jls_write.specs.declared.picture.PictureFault.TheVariants.{Unsettled}
use Rattle.jls_write.specs.declared.output.OutputFault.{OutputFault}
use Rattle.jls_write.specs.declared.output.OutputFault.TheVariants.{Write, OutOfMemory}
use Rattle.jls_io.specs.Event.{Event, created}
use Rattle.jls_io.specs.Writing.{Wrote}
use Rattle.jls_station.specs.Given.{Given}
use Rattle.jls_salvage_run.specs.AllInputs.{IsTaken, StopsAt}
use Rattle.jls_io.specs.Outputs.{HandsOut}
use Rattle.jls_cli.specs.Outputs.{StopsAtOutput}
use Rattle.jls_cli.specs.Outcomes.{Outcome, finished, refusal_at}
use Rattle.jls_cli.specs.declared.outcome.Refusal.{Refusal}
use Rattle.jls_cli.specs.declared.outcome.Cause.TheVariants as cause
use Rattle.jls_salvage_run.specs.Reporting.{Says}
use Rattle.jls_salvage_run.specs.declared.writing.Format.{Format}
use Rattle.jls_salvage_run.specs.declared.writing.Format.TheVariants.{Pnm, Jls}

-- ---- formats

-- how a picture is written as JPEG-LS: with the default parameters of its precision (T.87 C.2.4.1.1.1)
abbrev pub options_for : Bool → ℕ → WholePicture → WriteOptions
options_for line ri picture = record {
  line = line;
  restart_interval = ri;
  params = in_force picture.shape.precision no_presets;
}

-- the file of a picture
abbrev pub file : Format → WholePicture → List ℕ
file Pnm picture = pnm picture
file (Jls line ri) picture = written_file picture (options_for line ri picture)

-- whether it can be written so: as PNM each can
abbrev pub FitsFormat : Format → WholePicture → Type 0
FitsFormat Pnm picture = Unit {0}
FitsFormat (Jls line ri) picture = OptionsFit picture (options_for line ri picture)

-- the only thing that can prevent it: as JPEG-LS, an interval would have more than 2^28 samples
abbrev pub HasTooLarge : WholePicture → WriteOptions → Type 0
HasTooLarge picture o = 2 ^ 28 < picture.shape.width * components_of_scan picture.shape o * rows_of_interval picture.shape o

-- as JPEG-LS with the default parameters, an interval has more than 2^28 samples. As PNM nothing is too large
abbrev pub IsTooLarge : Format → WholePicture → Type 0
IsTooLarge Pnm picture = ⊥
IsTooLarge (Jls line ri) picture = HasTooLarge picture (options_for line ri picture)

-- whether memory is taken while the file goes out
abbrev pub takes_memory : Format → Bool
takes_memory Pnm = false
takes_memory (Jls line ri) = true

-- the file of these bytes stops the command for this refusal, which has the name of the output. It is too large, and nothing is created.
-- The output stops it. Or memory runs out when so many first bytes went out, and not all
pub data StopsAtFile (Fits TooLarge : Type 0) (takes : Bool) : List ℕ → Refusal → List Event → Type 0 where
  too_large : (name : Bor (List ℕ)) (bytes : List ℕ) → TooLarge → StopsAtFile Fits TooLarge takes bytes (refusal_at name cause.TooLarge) []
  at_output : (bytes : List ℕ) (r : Refusal) (events : List Event) → Fits → StopsAtOutput r.name.now bytes r events
      → StopsAtFile Fits TooLarge takes bytes r events
  no_memory : (name : Bor (List ℕ)) (bytes : List ℕ) (count : ℕ) (writes : List Event) → Fits → takes ≡ true → count < length bytes
      → Wrote (take count bytes) writes
      → StopsAtFile Fits TooLarge takes bytes (refusal_at name cause.OutOfMemory) (created name.now ∷ writes)

-- ---- the command

-- the refusal for a line that is not settled: the identifier of its component, its number, and whether it has readings
abbrev pub unsettled_refusal : Bor (List ℕ) → PartialPicture → PictureFault → Refusal
unsettled_refusal name p (Unsettled component line) =
    refusal_at name (cause.Unsettled (get_or p.shape.ids component 0) line (is_disputed p component line))

-- what is said of a file that was not handed out whole
abbrev pub cut_refusal : Bor (List ℕ) → OutputFault → Refusal
cut_refusal name (Write count) = refusal_at name (cause.NotWritten count)
cut_refusal name (OutOfMemory count) = refusal_at name cause.OutOfMemory

-- What comes of `write` in this format with this output and this input: it is done, and the output was created when the input
-- was taken; the input stops it; the first line that is not settled does; or the file does
pub data WritesFile : Format → List ℕ → List ℕ → Outcome → List Event → Type 0 where
  done : (f : Format) (out name : List ℕ) (g : Given) (whole : Bool) (reading writing : List Event)
      → IsTaken None name g reading → IsSettled g.partial → Says g true whole → FitsFormat f (picture_of g.partial)
      → HandsOut out (file f (picture_of g.partial)) writing
      → WritesFile f out name (finished true whole) (reading ++ writing)
  at_input : (f : Format) (out name : List ℕ) (r : Refusal) (reading : List Event)
      → r.name.now ≡ name → StopsAt None [] r reading → WritesFile f out name (Err r) reading
  unsettled : (f : Format) (out name : List ℕ) (r : Refusal) (input : Bor (List ℕ)) (g : Given) (fault : PictureFault)
      (reading : List Event)
      → input.now ≡ name → IsTaken None name g reading → NamesFirstUnsettled g.partial fault
      → r ≡ unsettled_refusal input g.partial fault → WritesFile f out name (Err r) reading
  at_file : (f : Format) (out name : List ℕ) (r : Refusal) (g : Given) (reading writing : List Event)
      → r.name.now ≡ out → IsTaken None name g reading → IsSettled g.partial
      → StopsAtFile (FitsFormat f (picture_of g.partial)) (IsTooLarge f (picture_of g.partial)) (takes_memory f)
      (file f (picture_of g.partial)) r writing
      → WritesFile f out name (Err r) (reading ++ writing)
