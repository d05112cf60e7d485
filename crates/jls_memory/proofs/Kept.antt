-- What a desk holds, after one event more.
use Rattle.std.proofs.Common.{◌≡◌, ℕ, false, List, [], ◌∷◌, ◌++◌, drop, take, min, length, Some, None, refl, sym, ap, ◌∙◌}
use Rattle.std.specs.List.{list_any}
use Rattle.std.proofs.lemmas.List.{drop_min, take_min}
use Rattle.jls_io.specs.Event.{Event, opened, not_opened, gave, created, not_created, took, write_failed, is_creation, is_opening}
use Rattle.jls_memory.specs.Desks.{IsKept}
use Rattle.jls_memory.specs.Files.{File, bytes_named}
use Rattle.jls_memory.specs.Held.{AreLonger}
use Rattle.jls_memory.specs.Inputs.{Reads}
use Rattle.jls_memory.specs.Outputs.{outputs_of, taken_first}
use Rattle.jls_memory.proofs.Reading.{nothing_left, reads_on}
use Rattle.jls_memory.proofs.Written.{last_is_longer, no_outputs, not_empty, outputs_stay, outputs_then}

module _ (inputs : List File) (rest : List ℕ) (outputs : List File) (events : List Event) (h : IsKept inputs rest outputs events) where
  -- ---- reads

  -- an event after which this is left, and which creates no output
  on : (e : Event) (rest' : List ℕ) → Reads inputs rest rest' (e ∷ []) → taken_first (e ∷ []) ≡ [] → outputs_of (e ∷ []) ≡ []
      → IsKept inputs rest' outputs (events ++ e ∷ [])
  on e rest' read none created_none = record {
    reads = reads_on inputs [] rest rest' events (e ∷ []) h.reads read;
    outputs_are = h.outputs_are ∙ sym (outputs_stay e none created_none events);
  }

  pub kept_open : (name bytes : List ℕ) → bytes_named name inputs ≡ Some bytes → IsKept inputs bytes outputs (events ++ opened name ∷ [])
  kept_open name bytes is = on (opened name) bytes (bytes, is, refl) refl refl

  pub kept_unopened : (name : List ℕ) → bytes_named name inputs ≡ None → IsKept inputs rest outputs (events ++ not_opened name ∷ [])
  kept_unopened name is = on (not_opened name) rest (is, refl) refl refl

  pub kept_read : (room count : ℕ) (bytes : List ℕ) → count ≡ min room (length rest) → bytes ≡ take count rest
      → IsKept inputs (drop count rest) outputs (events ++ gave room bytes ∷ [])
  kept_read room count bytes is given =
      let gave_all : bytes ≡ take room rest = given ∙ (ap (λ (n : ℕ). take n rest) is ∙ take_min room rest) in
      let left : drop room rest ≡ drop count rest = sym (ap (λ (n : ℕ). drop n rest) is ∙ drop_min room rest) in
      on (gave room bytes) (drop count rest) (gave_all, left) refl refl

  pub none_left : list_any is_opening events ≡ false → rest ≡ []
  none_left e = nothing_left inputs rest events e h.reads

  -- ---- writes

  -- an event that reads nothing, after which the outputs are these
  writes : (e : Event) (outputs' : List File) → Reads inputs rest rest (e ∷ []) → outputs' ≡ outputs_of (events ++ e ∷ [])
      → IsKept inputs rest outputs' (events ++ e ∷ [])
  writes e outputs' read is = record {
    reads = reads_on inputs [] rest rest events (e ∷ []) h.reads read;
    outputs_are = is;
  }

  pub kept_write : (bytes : List ℕ) (outputs' : List File) → AreLonger bytes outputs outputs'
      → IsKept inputs rest outputs' (events ++ took bytes ∷ [])
  kept_write bytes outputs' k = writes (took bytes) outputs' refl
      (k.new_are ∙ sym (last_is_longer bytes events k.before k.last (sym h.outputs_are ∙ k.old_are)))

  pub kept_unwritten : (outputs' : List File) → outputs' ≡ outputs → IsKept inputs rest outputs' (events ++ write_failed ∷ [])
  kept_unwritten outputs' same = writes write_failed outputs' refl
      (same ∙ (h.outputs_are ∙ sym (outputs_stay write_failed refl refl events)))

  pub kept_creation : (name : List ℕ) (outputs' : List File) → outputs' ≡ outputs ++ record { name = name; bytes = [] } ∷ []
      → IsKept inputs rest outputs' (events ++ created name ∷ [])
  kept_creation name outputs' is = writes (created name) outputs' refl
      (is ∙ (ap (λ (os : List File). os ++ record { name = name; bytes = [] } ∷ []) h.outputs_are
      ∙ sym (outputs_then (created name) refl events)))

  pub kept_uncreated : (name : List ℕ) (outputs' : List File) → outputs' ≡ outputs
      → IsKept inputs rest outputs' (events ++ not_created name ∷ [])
  kept_uncreated name outputs' same = writes (not_created name) outputs' refl
      (same ∙ (h.outputs_are ∙ sym (outputs_stay (not_created name) refl refl events)))

  -- a write that went well has an output
  pub some_output : (bytes : List ℕ) (outputs' : List File) → AreLonger bytes outputs outputs' → list_any is_creation events ≡ false → ⊥
  some_output bytes outputs' k e = not_empty k.before k.last (sym (sym (no_outputs events e) ∙ (sym h.outputs_are ∙ k.old_are)))
