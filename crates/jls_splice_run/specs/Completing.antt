-- Files that are completed by EOI, the marker at which a file ends (T.81 B.2.1).
use Rattle.std.specs.Prelude.{◌≡◌, ℕ, List, [], ◌∷◌, ◌++◌, Option, Some, None}
use Rattle.jls_marker.specs.declared.profile.Profile.TheVariants.{Wide}
use Rattle.jls_copy.specs.Course.{Course, IsCourseUnder}
use Rattle.jls_copy.specs.declared.end.End.TheVariants.{Eoi}

-- the bytes, as a whole file under the wide profile, end at EOI. Bytes can follow it, which are not of the picture
abbrev pub EndsAtEoi : List ℕ → Type 0
EndsAtEoi file = (c : Course) × IsCourseUnder Wide file c × (offset : ℕ) × (c.end ≡ Eoi offset)

-- A file, and this file completed by EOI, FF D9. If it has its EOI, it stays as it is. If it ends within EOI, it gets the second byte of
-- it, and if it ends without EOI, both bytes. It stays as it is too if it ends at EOI with none of these
pub data IsCompleted (file : List ℕ) : List ℕ → Type 0 where
  with_eoi : EndsAtEoi file → IsCompleted file file
  within_eoi : ¬ EndsAtEoi file → EndsAtEoi (file ++ 0xD9 ∷ []) → IsCompleted file (file ++ 0xD9 ∷ [])
  without_eoi : ¬ EndsAtEoi file → ¬ EndsAtEoi (file ++ 0xD9 ∷ []) → EndsAtEoi (file ++ 0xFF ∷ 0xD9 ∷ [])
      → IsCompleted file (file ++ 0xFF ∷ 0xD9 ∷ [])
  elsewhere : ¬ EndsAtEoi file → ¬ EndsAtEoi (file ++ 0xD9 ∷ []) → ¬ EndsAtEoi (file ++ 0xFF ∷ 0xD9 ∷ []) → IsCompleted file file

-- a file completed by EOI, if there is one
abbrev pub IsCompletedIn : Option (List ℕ) → Option (List ℕ) → Type 0
IsCompletedIn None whole = whole ≡ None
IsCompletedIn (Some file) whole = (bytes : List ℕ) × IsCompleted file bytes × (whole ≡ Some bytes)
