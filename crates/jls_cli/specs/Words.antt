-- What both programs take, by clap's own definition of what a simple command takes, and the numbers among their words.
use Rattle.std.specs.Prelude.{◌≡◌, ◌↔◌, ℕ, true, List, [], Option, Some, None, codes, if◌then◌else◌}
use Rattle.std.specs.Str.Parse.{digits_value, without_leading_plus}
use Rattle.clap.specs.ValueTests.{is_unsigned_in}
use Rattle.clap.specs.Words.{App, Rule, Text, fault_of, IsAmong, new_rule, takes}
use Rattle.clap.specs.declared.builder.value_parser.ValueParser.TheVariants.{Unsigned}
use Rattle.clap.specs.declared.error.kind.ErrorKind.{ErrorKind}

-- one word that has to be there, under this name
abbrev pub word_rule : Text → Rule
word_rule id = record (new_rule id) { required = true }

-- an option of this name with a value, which need not be there
abbrev pub option_rule : Text → Rule
option_rule id = record (new_rule id) { long = Some id; value_names = 1 }

-- an option of this name with a number, from a least to a greatest, which need not be there
abbrev pub number_rule : Text → ℕ → ℕ → Rule
number_rule id least most = record (option_rule id) { parser = Some (Unsigned least most) }

-- --source N, a number from 0 to 2^32 - 1, which need not be there
abbrev pub source_rule : Rule
source_rule = number_rule (codes "source") 0 4294967295

-- the number that a text is, in decimal, from a least to a greatest
abbrev pub number_in : ℕ → ℕ → Text → Option ℕ
number_in least most value = if is_unsigned_in least most value then Some (digits_value 10 (without_leading_plus value)) else None

-- by clap's own definition a program takes the words
abbrev pub TakesWords : App → List Text → Type 0
TakesWords app words = takes app words ≡ true

-- a program takes words if and only if clap's definition finds no fault in them
abbrev pub TakesFaultless : App → Type 0
TakesFaultless app = (words : List Text) → TakesWords app words ↔ (fault_of app words ≡ [])

-- clap does not take the words, and this is one of the kinds of fault that its definition finds in them
pub record RefusesWords (app : App) (words : List Text) (k : ErrorKind) : Type 0 where
  pub not_taken : TakesWords app words → ⊥
  pub found : IsAmong k (fault_of app words)
