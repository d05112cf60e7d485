-- Edits: what turns a copy into a mended file, and which bytes of that file the copy has.
use Rattle.std.specs.Prelude.{◌≡◌, ℕ, ◌+◌, ◌-◌, ◌≤◌, Bool, true, false, ◌||◌, List, [], ◌∷◌, ◌++◌, length, take, drop, replicate}
use Rattle.jls_held.specs.MendedFiles.{MendedFile}

-- an edit: in place of so many bytes of the copy, from this offset on, stand these bytes
pub record Edit : Type 0 where
  pub offset : ℕ
  pub count : ℕ
  pub bytes : List ℕ

-- edits in order of their offsets, none of which begins inside another. They stand between these two offsets of a copy
abbrev pub AreEdits : ℕ → ℕ → List Edit → Type 0
AreEdits at end [] = at ≤ end
AreEdits at end (e ∷ edits) = (at ≤ e.offset) × AreEdits (e.offset + e.count) end edits

-- what edits make of the bytes of a copy from offset `at` on. The copy has all bytes but those that the edits bring
abbrev pub edited : ℕ → List ℕ → List Edit → MendedFile
edited at copy [] = record { bytes = copy; held = replicate (length copy) true }
edited at copy (e ∷ edits) =
    let own = take (e.offset - at) copy in
    let rest = edited (e.offset + e.count) (drop (e.offset - at + e.count) copy) edits in
    record {
      bytes = own ++ (e.bytes ++ rest.bytes);
      held = replicate (length own) true ++ (replicate (length e.bytes) false ++ rest.held);
    }

-- the same edits with other bytes, as many in each
abbrev pub AreRefilled : List Edit → List Edit → Type 0
AreRefilled [] [] = Unit {0}
AreRefilled (e ∷ edits) (f ∷ others) =
    (e.offset ≡ f.offset) × (e.count ≡ f.count) × (length e.bytes ≡ length f.bytes) × AreRefilled edits others
AreRefilled _ _ = ⊥

-- which bytes of a file one of two copies has, or both
abbrev pub held_by_either : List Bool → List Bool → List Bool
held_by_either [] others = others
held_by_either (m ∷ held) [] = m ∷ held
held_by_either (m ∷ held) (n ∷ others) = (m || n) ∷ held_by_either held others
