-- What is said of texts of partial pictures.
use Rattle.std.specs.Prelude.{◌≡◌, ◌==◌, ℕ, Bool, false, List, [], ◌∷◌, Err}
pub use Rattle.jls_partial.specs.Text.{IsTextOf}
use Rattle.jls_partial.specs.TextReading.{read_text}
use Rattle.jls_partial.specs.declared.text_fault.TextFault.{TextFault}

-- an input is read as a text: its first byte is 4A; every other one is read as a copy, the empty one too
abbrev pub is_text : List ℕ → Bool
is_text [] = false
is_text (first ∷ bytes) = first == 0x4A

-- bytes are no text of a partial picture, and this is their first fault
abbrev pub IsNoText : List ℕ → TextFault → Type 0
IsNoText bytes f = read_text bytes ≡ Err f
