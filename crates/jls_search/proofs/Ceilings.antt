-- What a reader tells of samples above a ceiling.
use Rattle.std.proofs.Common.{◌≡◌, ℕ, zero, suc, ◌<◌, ◌≤◌, true, List, [], ◌∷◌, ◌++◌, length, map, Option, Some, None, sym, subst, arith}
use Rattle.std.proofs.Common.{refl}
use Rattle.std.specs.Prelude.{get_or, slice_get}
use Rattle.std.specs.List.{list_any, AllByRecursion}
use Rattle.std.specs.Ordering.{eq_by_cmp}
use Rattle.jls_values.specs.OrderedSet as set
use Rattle.jls_values.proofs.Tests.{either}
use Rattle.jls_partial.specs.Partial.{PartialPicture, readings_at, IsFitting}
use Rattle.jls_partial.specs.Reading.{Reading, reading_of, reading_cmp}
use Rattle.jls_partial.specs.ReadingOrder.{same_reading}
use Rattle.jls_partial.proofs.BareEntries.{line_of_fit}
use Rattle.jls_partial.proofs.Marked.{got_held}
use Rattle.jls_partial.proofs.Unions.{in_its_line}
use Rattle.jls_copy.specs.CopyReads.{CopyReadsUnder}
use Rattle.jls_copy.specs.Prefixes.{CourseHasReading, PrefixesKeepReadingsUnder}
use Rattle.jls_copy.specs.ReadCopy.{ReadCopy}
use Rattle.jls_copy.proofs.OneCourse.{one_course}
use Rattle.jls_search.specs.Faultless.{IsWithin, IsSought, IsPictureWithin, IsReadWithin}
use Rattle.jls_copy.proofs.ReadGives.{held_is_given, given_is_held}
use Rattle.jls_marker.specs.declared.profile.Profile.TheVariants.{Wide}

-- A picture --------------------------------------------------------------------------------------------------------

abbrev AreWithin : ℕ → List ℕ → Type 0
AreWithin ceiling samples = AllByRecursion (λ sample. sample ≤ ceiling) samples

there : (xs : List (List ℕ)) (i : ℕ) → i < length xs → slice_get xs i ≡ Some (get_or xs i [])
there [] i l = absurd (omega (arith, l))
there (x ∷ xs) zero l = refl
there (x ∷ xs) (suc i) l = there xs i (omega (arith, l))

in_line : (ceiling c l : ℕ) (r : Reading) (xs : List (List ℕ)) → ((i : ℕ) → i < length xs → AreWithin ceiling (get_or xs i []))
    → list_any (eq_by_cmp reading_cmp r) (map (reading_of c l) xs) ≡ true → AreWithin ceiling r.samples
in_line ceiling c l r [] each e = absurd cc
in_line ceiling c l r (x ∷ xs) each e =
    either (AreWithin ceiling r.samples) (eq_by_cmp reading_cmp r (reading_of c l x))
    (list_any (eq_by_cmp reading_cmp r) (map (reading_of c l) xs))
    (λ here. subst (λ (y : Reading). AreWithin ceiling y.samples) (sym (same_reading r (reading_of c l x) here)) (each 0 (omega arith)))
    (λ later. in_line ceiling c l r xs (λ i m. each (suc i) (omega (arith, m))) later) e

module _ (p : PartialPicture) (ceiling : ℕ) where
  -- if each reading that is held is within the ceiling, the picture is
  pub picture_within : ((r : Reading) → set.contains p.readings r ≡ true → AreWithin ceiling r.samples) → IsPictureWithin ceiling p
  picture_within each component k line l i m =
      let x = get_or (readings_at p component line) i [] in
      each (reading_of component line x) (got_held p component line i x (there (readings_at p component line) i m))

  -- and the other way round
  pub held_within : IsFitting p → IsPictureWithin ceiling p → (r : Reading) → set.contains p.readings r ≡ true → AreWithin ceiling r.samples
  held_within fits each r held =
      let range = line_of_fit p.shape r.component r.line r.samples (fits r.component r.line r.samples held) in
      in_line ceiling r.component r.line r (readings_at p r.component r.line) (each r.component range.0 r.line range.1)
      (in_its_line p r held)

-- What was read ----------------------------------------------------------------------------------------------------

module _ (file : List ℕ) (read : ReadCopy) (h : CopyReadsUnder Wide file read) where
  pub read_within : (ceiling : Option ℕ) → IsFitting read.partial → IsReadWithin ceiling read.partial → IsWithin ceiling file
  read_within None fits within = tt
  read_within (Some ceiling) fits within = λ low course is r given.
      let same = one_course file course h.course is h.is_course in
      held_within read.partial ceiling fits within r (given_is_held file read h low r (subst (λ c. CourseHasReading c r) same given))

  pub within_read : (ceiling : Option ℕ) → AllByRecursion (λ b. b < 256) file → IsWithin ceiling file → IsReadWithin ceiling read.partial
  within_read None low within = tt
  within_read (Some ceiling) low within =
      picture_within read.partial ceiling (λ r held. within low h.course h.is_course r (held_is_given file read h r held))

  -- what a prefix gives, a file that is sought gives too
  pub prefix_within : PrefixesKeepReadingsUnder Wide → (ceiling : Option ℕ) (more : List ℕ) → AllByRecursion (λ b. b < 256) (file ++ more)
      → IsSought ceiling (file ++ more) → IsReadWithin ceiling read.partial
  prefix_within keep None more low sought = tt
  prefix_within keep (Some ceiling) more low sought =
      let f = sought.0 in
      picture_within read.partial ceiling
      (λ r held. sought.1 low f.course f.is_course r
      (keep file more low h.course f.course h.is_course f.is_course f.each r (held_is_given file read h r held)))
