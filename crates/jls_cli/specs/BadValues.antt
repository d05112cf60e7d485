-- What a value of `--bad` of `jls-splice` says.
use Rattle.std.specs.Prelude.{ℕ, ◌==◌, Option, Some, None, length, nat_lt, if◌then◌else◌}
use Rattle.std.specs.List.{after_first, before_first, position_or_len}
use Rattle.clap.specs.Words.{Text}
use Rattle.jls_cli.specs.Words.{number_in}
use Rattle.jls_cli.specs.declared.splice.bad.BadList.{BadList as BadListValue}

-- a list of bad places: the number of its copy, from 1 on, and its own name
pub record BadList : Type 0 where
  pub copy : ℕ
  pub name : Text

-- a list of this copy, if that is a number
abbrev pub bad_list_with : Option ℕ → Text → Option BadList
bad_list_with None name = None
bad_list_with (Some copy) name = Some (record { copy = copy; name = name })

-- What N:LIST says. N stands before the first colon, and is a number from 1 to 2^32 - 1. LIST stands behind it
abbrev pub bad_list_of : Text → Option BadList
bad_list_of value =
    if nat_lt (position_or_len (λ byte. byte == 58) value) (length value)
    then bad_list_with (number_in 1 4294967295 (before_first (λ byte. byte == 58) value)) (after_first (λ byte. byte == 58) value)
    else None

-- as the code has it
abbrev pub list_of : BadListValue → BadList
list_of l = record { copy = l.copy; name = l.name.now }
