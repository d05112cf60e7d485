-- Each line was read of a file if and only if its course gives each line.
use Rattle.std.proofs.Common.{◌≡◌, ℕ, ◌<◌, true, List, [], ◌∷◌, length, map, refl, sym, ap, subst, arith}
use Rattle.std.specs.Prelude.{slice_get}
use Rattle.std.specs.List.{list_any, AllByRecursion}
use Rattle.std.specs.Ordering.{eq_by_cmp}
use Rattle.jls_values.specs.OrderedSet as set
use Rattle.jls_partial.specs.Partial.{PartialPicture, readings_at}
use Rattle.jls_partial.specs.Reading.{Reading, reading_of, reading_cmp}
use Rattle.jls_partial.proofs.Marked.{got_held}
use Rattle.jls_partial.proofs.Unions.{in_its_line}
use Rattle.jls_copy.specs.CopyReads.{CopyReadsUnder}
use Rattle.jls_copy.specs.Pieces.{readings}
use Rattle.jls_copy.specs.ReadCopy.{ReadCopy}
use Rattle.jls_copy.proofs.ReadGives.{held_is_given, given_is_held}
use Rattle.jls_marker.specs.declared.profile.Profile.TheVariants.{Wide}
use Rattle.jls_search.specs.Faultless.{GivesEachLine, IsEachLineRead}

-- Lines that have readings -------------------------------------------------------------------------------------------

-- a line that has readings has one that is held
some_held : (p : PartialPicture) (c l : ℕ) → 0 < length (readings_at p c l) → (x : List ℕ)
    × (set.contains p.readings (reading_of c l x) ≡ true)
some_held p c l some = by (readings_at p c l) refl some
  where
    by : (xs : List (List ℕ)) → readings_at p c l ≡ xs → 0 < length xs → (x : List ℕ) × (set.contains p.readings (reading_of c l x) ≡ true)
    by [] e h = absurd (omega (arith, h))
    by (x ∷ xs) e h = (x, got_held p c l 0 x (ap (λ (ys : List (List ℕ)). slice_get ys 0) e))

-- and the line of a reading that is held has some
has_some : (p : PartialPicture) (r : Reading) → set.contains p.readings r ≡ true → 0 < length (readings_at p r.component r.line)
has_some p r h = by (readings_at p r.component r.line) (in_its_line p r h)
  where
    by : (xs : List (List ℕ)) → list_any (eq_by_cmp reading_cmp r) (map (reading_of r.component r.line) xs) ≡ true → 0 < length xs
    by [] e = absurd cc
    by (x ∷ xs) e = omega arith

-- What was read ----------------------------------------------------------------------------------------------------

module _ (file : List ℕ) (read : ReadCopy) (h : CopyReadsUnder Wide file read) where
  shape_is : read.partial.shape ≡ h.shape
  shape_is = ap (λ (p : PartialPicture). p.shape) h.partial_is

  -- where each line has a reading, the course gives each line
  pub lines_given : IsEachLineRead read.partial → GivesEachLine h.shape h.course
  lines_given each component line k l =
      let s = some_held read.partial component line
      (each component (subst (λ s. component < length s.ids) (sym shape_is) k) line (subst (λ s. line < s.height) (sym shape_is) l)) in
      (s.0, held_is_given file read h (reading_of component line s.0) s.1)

  -- and the other way round
  pub lines_read : AllByRecursion (λ b. b < 256) file → GivesEachLine h.shape h.course → IsEachLineRead read.partial
  lines_read low each component k line l =
      let g = each component line (subst (λ s. component < length s.ids) shape_is k) (subst (λ s. line < s.height) shape_is l) in
      let r = reading_of component line g.0 in
      has_some read.partial r (given_is_held file read h low r g.1)
