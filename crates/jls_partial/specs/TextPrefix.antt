-- The readings that stand in a text before its first fault, with their sources.
use Rattle.std.specs.Prelude.{ℕ, zero, suc, List, [], ◌∷◌, ◌++◌, map, Option, Some, None, Result, Ok, Err}
use Rattle.jls_values.specs.Shape.{PictureShape}
use Rattle.jls_partial.specs.declared.text_fault.TextFault.{TextFault}
use Rattle.jls_partial.specs.declared.line_place.LinePlace.{LinePlace}
use Rattle.jls_partial.specs.declared.version.Version.{Version}
use Rattle.jls_partial.specs.Entries.{kept_at_place}
use Rattle.jls_partial.specs.Packed.{Kept}
use Rattle.jls_partial.specs.Reading.{Reading}
use Rattle.jls_partial.specs.TextInto.{head_fields}
use Rattle.jls_partial.specs.TextReading.{kept_fields, place_fields, count_field, entry_fields}

-- what follows from what is read, or nothing if there is a fault
abbrev pub unless_fault : {A B : Type 0} → Result A TextFault → (A → List B) → List B
unless_fault (Ok x) f = f x
unless_fault (Err e) f = []

-- of n readings of one line those before the first fault
unfoldable pub readings_prefix : ℕ → Version → PictureShape → Option (List ℕ) → ℕ → List ℕ → List Kept
readings_prefix size version shape before zero bytes = []
readings_prefix size version shape before (suc n) bytes =
    unless_fault (kept_fields size version shape before bytes)
    (λ first. first.0 ∷ readings_prefix size version shape (Some first.0.0) n first.1)

-- the readings of an entry before the first fault
unfoldable pub entry_prefix : ℕ → Version → PictureShape → Option LinePlace → List ℕ → List (Reading × List ℕ)
entry_prefix size version shape before bytes =
    unless_fault (place_fields size shape before bytes) (λ place. unless_fault (count_field size place.1)
    (λ count. map (kept_at_place place.0) (readings_prefix size version shape None count.0 count.1)))

-- the readings of n entries before the first fault
unfoldable pub entries_prefix : ℕ → Version → PictureShape → Option LinePlace → ℕ → List ℕ → List (Reading × List ℕ)
entries_prefix size version shape before zero bytes = []
entries_prefix size version shape before (suc n) bytes =
    entry_prefix size version shape before bytes
    ++ unless_fault (entry_fields size version shape before bytes) (λ first. entries_prefix size version shape (Some first.0.0) n first.1)

-- the readings of a text before the first fault
unfoldable pub text_prefix : List ℕ → List (Reading × List ℕ)
text_prefix bytes = unless_fault (head_fields bytes) (λ h. entries_prefix h.0 h.1 h.2 None h.3 h.4)
