-- What a list of bad places says. It is a text of lines, such as a mapfile of GNU ddrescue.
use Rattle.std.specs.Prelude.{◌≡◌, ℕ, ◌-◌, ◌^◌, ◌<◌, Bool, true, false, not, ◌&&◌, ◌||◌, ◌==◌, nat_le, nat_lt, List, [], ◌∷◌, length, map}
use Rattle.std.specs.Prelude.{drop, filter, position, slice_index, codes, Option, Some, None, is_some, if◌then◌else◌}
use Rattle.std.specs.List.{slice_split, before_first, list_all, list_any, filter_map}
use Rattle.std.specs.Char.{is_digit}
use Rattle.std.specs.Str.Parse.{digits_value}
use Rattle.jls_bad.specs.declared.place.Place.{Place}
use Rattle.jls_bad.specs.declared.lines.Line.{Line}
use Rattle.jls_bad.specs.declared.lines.Line.TheVariants.{Bad, Nothing, Fault}

-- a space, or one of tab, line feed, vertical tab, form feed and carriage return
abbrev pub is_blank : ℕ → Bool
is_blank byte = (byte == 32) || (nat_le 9 byte && nat_le byte 13)

-- the words of a line: what white space separates before the first #
abbrev pub words : List ℕ → List (List ℕ)
words line = filter (λ word. not (length word == 0)) (slice_split is_blank (before_first (λ byte. byte == 35) line))

-- the number that digits of a base write, if nothing else stands there and it has 64 bits
abbrev pub in_base : ℕ → List ℕ → Option ℕ
in_base base digits =
    if (nat_lt 0 (length digits) && list_all (λ byte. is_digit byte base) digits) && nat_lt (digits_value base digits) (2 ^ 64)
    then Some (digits_value base digits) else None

-- 0x or 0X stands first
abbrev pub is_hexadecimal : List ℕ → Bool
is_hexadecimal word = (slice_index word 0 == 48) && ((slice_index word 1 == 120) || (slice_index word 1 == 88))

-- the number that a word is
abbrev pub number : List ℕ → Option ℕ
number word = if is_hexadecimal word then in_base 16 (drop 2 word) else in_base 10 word

-- a word is a number
abbrev pub is_number : List ℕ → Bool
is_number word = is_some (number word)

-- a word is one of these characters
abbrev pub has_one_of : List ℕ → List ℕ → Bool
has_one_of characters [] = false
has_one_of characters (character ∷ []) = list_any (λ other. other == character) characters
has_one_of characters (character ∷ next ∷ more) = false

-- a status that ddrescue gives a place that was not read
abbrev pub is_bad_status : List ℕ → Bool
is_bad_status word = has_one_of (codes "?*/-") word

-- the status of a place that was read
abbrev pub is_good_status : List ℕ → Bool
is_good_status word = has_one_of (codes "+") word

-- a status of a run of ddrescue
abbrev pub is_run_status : List ℕ → Bool
is_run_status word = has_one_of (codes "?*/-FG+") word

-- a place, if both are numbers
abbrev pub place_of : Option ℕ → Option ℕ → Line
place_of None length = Fault
place_of (Some offset) None = Fault
place_of (Some offset) (Some length) = Bad (record { offset = offset; length = length })

-- Of a line there is said whether it is the first with words. There ddrescue tells how far its run came
module _ (is_first : Bool) where
  -- two words: a run of ddrescue, or an offset and a length
  abbrev pub meaning_of_two : List ℕ → List ℕ → Line
  meaning_of_two first second =
      if is_first && (is_number first && is_run_status second) then Nothing else place_of (number first) (number second)

  -- three words: an offset, a length and a status, or a run of ddrescue with its pass
  abbrev pub meaning_of_three : List ℕ → List ℕ → List ℕ → Line
  meaning_of_three first second third =
      if is_bad_status third then place_of (number first) (number second)
      else if is_number first && ((is_number second && is_good_status third) || (is_first && (is_run_status second && is_number third)))
      then Nothing else Fault

  -- what a line of these words says
  abbrev pub meaning : List (List ℕ) → Line
  meaning [] = Nothing
  meaning (first ∷ []) = Fault
  meaning (first ∷ second ∷ []) = meaning_of_two first second
  meaning (first ∷ second ∷ third ∷ []) = meaning_of_three first second third
  meaning (first ∷ second ∷ third ∷ fourth ∷ more) = Fault

-- a line has no words
abbrev pub is_empty : List (List ℕ) → Bool
is_empty line = length line == 0

-- what each of these lines says. Whether no line before them has words is told
abbrev pub meanings_of : Bool → List (List (List ℕ)) → List Line
meanings_of is_first [] = []
meanings_of is_first (line ∷ lines) = meaning is_first line ∷ meanings_of (is_first && is_empty line) lines

-- the lines of a text, each as its words
abbrev pub lines : List ℕ → List (List (List ℕ))
lines text = map words (slice_split (λ byte. byte == 10) text)

-- what each line of a text says
abbrev pub meanings : List ℕ → List Line
meanings text = meanings_of true (lines text)

-- a line isn't understood
abbrev pub is_fault : Line → Bool
is_fault (Bad place) = false
is_fault Nothing = false
is_fault Fault = true

-- the place that a line names
abbrev pub named_place : Line → Option Place
named_place (Bad place) = Some place
named_place Nothing = None
named_place Fault = None

-- each line of a text is understood, and these are the places that its lines name, in order
pub record AreNamed (text : List ℕ) (places : List Place) : Type 0 where
  pub understood : position is_fault (meanings text) ≡ None
  pub named : places ≡ filter_map named_place (meanings text)

-- the first line of a text that isn't understood has this number, from 1 on
pub record IsFirstFault (text : List ℕ) (number : ℕ) : Type 0 where
  pub counted : 0 < number
  pub first : position is_fault (meanings text) ≡ Some (number - 1)
