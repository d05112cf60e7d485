-- Why a JPEG-LS file was not handed out whole.
use Rattle.std.specs.Prelude.{◌≡◌, ℕ, List, Option}
use Rattle.jls_io.specs.Event.{History}
use Rattle.jls_examples.specs.declared.writing.WriteFault.{WriteFault}
use Rattle.jls_examples.specs.declared.writing.WriteFault.TheVariants.{DoesNotFit, Output}
use Rattle.jls_write.specs.Stops.{StopsIn}
use Rattle.jls_write.specs.WrittenFile.{written_file}
use Rattle.jls_write.specs.Options.{OptionsFit, WriteOptions}
use Rattle.jls_write.specs.Picture.{WholePicture}

-- the options don't fit and the sink is as before, or the file stopped within its bytes
abbrev pub StopsAtFault : WholePicture → WriteOptions → History → History → Option (List ℕ) → Option (List ℕ) → WriteFault → Type 0
StopsAtFault picture options old new held holds DoesNotFit =
    (OptionsFit picture options → ⊥) × (new ≡ old) × (holds ≡ held)
StopsAtFault picture options old new held holds (Output fault) =
    OptionsFit picture options × StopsIn fault 0 old new held holds (written_file picture options)
