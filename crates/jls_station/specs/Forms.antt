-- What is read of an input, where the bytes of a text are not judged yet.
use Rattle.std.specs.Prelude.{◌≡◌, ℕ, true, List, Option, None, IfSome}
use Rattle.jls_io.specs.Event.{Event}
use Rattle.jls_station.specs.Inputs.{IsEnough, ReadsGive}
use Rattle.jls_station.specs.KnownCopies.{BytesGive}
use Rattle.jls_station.specs.KnownInputs.{CountsWithin}
use Rattle.jls_station.specs.Reading.{IsRead}
use Rattle.jls_station.specs.Texts.{is_text}
use Rattle.jls_station.specs.declared.input.InputForm.{InputForm}
use Rattle.jls_station.specs.declared.input.InputForm.TheVariants.{Text, Copy}
use Rattle.jls_station.specs.declared.input.ReadStop.TheVariants.{Whole}

-- these are all reads of an input: a text, and it was read to its end and its bytes are these; or a copy that gives this
abbrev pub IsForm : Option ℕ → List ℕ → InputForm → List Event → Type 0
IsForm source bytes Text reads = IsRead IsEnough reads bytes Whole × (is_text bytes ≡ true)
IsForm source bytes (Copy given) reads = ReadsGive source given reads

-- where the source tells its bytes, they are those of the text; and what a copy gives is no text's
abbrev pub IsAllOf : Option (List ℕ) → List ℕ → InputForm → Type 0
IsAllOf known bytes Text = IfSome known (λ xs. xs ≡ bytes)
IsAllOf known bytes (Copy given) = given.copy ≡ None → ⊥

-- a copy of these bytes gives what was read of it; of a text nothing is said
abbrev pub IsGivenBy : Option ℕ → InputForm → List ℕ → Type 0
IsGivenBy source Text bytes = Unit {0}
IsGivenBy source (Copy given) bytes = BytesGive source given.partial given.stop bytes

-- of a copy no more bytes were read than these; of a text nothing is said
abbrev pub IsCountedIn : InputForm → List ℕ → Type 0
IsCountedIn Text bytes = Unit {0}
IsCountedIn (Copy given) bytes = CountsWithin given bytes
