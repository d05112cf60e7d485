-- Each file that is sought begins with the cut file, and what the cut file gives are lines of its picture.
use Rattle.std.proofs.Common.{◌≡◌, ℕ, zero, suc, ◌<◌, ◌≤◌, true, List, [], ◌∷◌, ◌++◌, length, map, take, refl, sym, ap, ◌∙◌}
use Rattle.std.proofs.Common.{subst, arith, inl, inr}
use Rattle.std.specs.Prelude.{get_or}
use Rattle.std.specs.List.{list_any, AllByRecursion, Contains}
use Rattle.std.specs.Ordering.{eq_by_cmp}
use Rattle.std.proofs.lemmas.List.Elements.{Contains-append_right}
use Rattle.jls_values.specs.OrderedSet as set
use Rattle.jls_values.proofs.Tests.{either}
use Rattle.jls_partial.specs.Partial.{readings_at}
use Rattle.jls_partial.specs.Reading.{Reading, reading_of, reading_cmp}
use Rattle.jls_partial.specs.ReadingOrder.{same_reading}
use Rattle.jls_partial.proofs.Unions.{in_its_line}
use Rattle.jls_copy.specs.Course.{Course}
use Rattle.jls_marker.specs.declared.profile.Profile.TheVariants.{Wide}
use Rattle.jls_copy.specs.Prefixes.{CourseHasReading, PrefixesKeepReadingsUnder}
use Rattle.jls_copy.proofs.OneCourse.{one_course}
use Rattle.jls_copy_laws.proofs.Members.{is_first, in_rest}
use Rattle.jls_file_laws.specs.Covering.{IsLineOf}
use Rattle.jls_headline.specs.Damaged.{picture_reading}
use Rattle.jls_headline.proofs.StationPictures.{only_one}
use Rattle.jls_diff.specs.Parts.{Part, Same, Differ, HasWays, IsSplice}
use Rattle.jls_search.specs.Choices.{IsPath, prefix_of}
use Rattle.jls_search.specs.Faultless.{IsSought}
use Rattle.jls_search.proofs.Paths.{path_len}
use Rattle.jls_search.proofs.WholeSplices.{same as same_or_other}
use Rattle.jls_splice_laws.specs.CutLaws.{SoughtFilesBeginWithTheCut, WholeFilesBeginWithTheirLines, CutsAreHeld, CutLinesAreThePicture}
use Rattle.jls_splice_laws.specs.ProfileFiles.{GivesReadingUnder}
use Rattle.jls_splice_laws.specs.WholeFiles.{IsWholeFileUnder, WholeFilesAreFaultless}
use Rattle.jls_splice_laws.proofs.HeldFiles.{files_alone, files_are_held}
use Rattle.jls_splice_laws.proofs.TakenFiles.{kept_of_shape}

-- Paths of splices -------------------------------------------------------------------------------------------------

-- the first way with these bytes
record FirstWith (ways : List (List ℕ)) (bytes : List ℕ) : Type 0 where
  choice : ℕ
  within : choice < length ways
  same : get_or ways choice [] ≡ bytes
  none_before : (other : ℕ) → other < choice → get_or ways other [] ≡ bytes → ⊥

first_with : (ways : List (List ℕ)) (bytes : List ℕ) (j : ℕ) → j < length ways → get_or ways j [] ≡ bytes → FirstWith ways bytes
first_with [] bytes j l e = absurd (omega (arith, l))
first_with (w ∷ ways) bytes zero l e =
    record { choice = 0; within = omega arith; same = e; none_before = λ other less _. absurd (omega (arith, less)) }
first_with (w ∷ ways) bytes (suc j) l e =
    elim (same_or_other w bytes) [
      | inl here ↦ record { choice = 0; within = omega arith; same = here; none_before = λ other less _. absurd (omega (arith, less)) }
      | inr not ↦ (
          let r = first_with ways bytes j (omega (arith, l)) e in
          record { choice = suc r.choice; within = omega (arith, r.within); same = r.same; none_before = none ways r not })
    ]
  where
    none : (rest : List (List ℕ)) (r : FirstWith rest bytes) → (w ≡ bytes → ⊥) → (other : ℕ) → other < suc r.choice
        → get_or (w ∷ rest) other [] ≡ bytes → ⊥
    none rest r not zero less f = not f
    none rest r not (suc other) less f = r.none_before other (omega (arith, less)) f

-- bytes with a way of some copy at each of the first parts are what a path makes
record MadeByPath (parts : List Part) (count : ℕ) (bytes : List ℕ) : Type 0 where
  path : List ℕ
  is_path : IsPath parts path
  long : length path ≡ count
  makes : bytes ≡ prefix_of parts path

made_by_path : (count : ℕ) (parts : List Part) (n : ℕ) (bytes : List ℕ) → n ≤ length parts → AllByRecursion (HasWays count) parts
    → IsSplice count (take n parts) bytes → MadeByPath parts n bytes
made_by_path count parts zero bytes l h e = record { path = []; is_path = tt; long = refl; makes = e }
made_by_path count [] (suc n) bytes l h is = absurd (omega (arith, l))
made_by_path count (Same b ∷ parts) (suc n) bytes l h (j, k, rest, e, more) =
    let r = made_by_path count parts n rest (omega (arith, l)) h.1 more in
    record { path = 0 ∷ r.path; is_path = (refl, r.is_path); long = ap suc r.long; makes = e ∙ ap (λ z. b ++ z) r.makes }
made_by_path count (Differ ways ∷ parts) (suc n) bytes l h (j, k, rest, e, more) =
    let r = made_by_path count parts n rest (omega (arith, l)) h.1 more in
    let f = first_with ways (get_or ways j []) j (subst (λ m. j < m) (sym h.0) k) refl in
    record {
      path = f.choice ∷ r.path;
      is_path = ((f.within, λ other less same. f.none_before other less (same ∙ f.same)), r.is_path);
      long = ap suc r.long;
      makes = e ∙ ap (λ w. w ++ rest) (sym f.same) ∙ ap (λ z. get_or ways f.choice [] ++ z) r.makes;
    }

-- each other path of as many choices is dead, so this is the path
pub sought_files_begin_with_the_cut : SoughtFilesBeginWithTheCut
sought_files_begin_with_the_cut ceiling copies parts are path lone prefix more splice low sought =
    let r = made_by_path (length copies) parts (length path) prefix (path_len parts path lone.is_path) are.ways splice in
    elim (same_or_other r.path path) [
      | inl same ↦ r.makes ∙ ap (prefix_of parts) same
      | inr other ↦ absurd
          (lone.others r.path r.is_path r.long other more
          (subst (λ bytes. AllByRecursion (λ b. b < 256) (bytes ++ more)) r.makes low)
          (subst (λ bytes. IsSought ceiling (bytes ++ more)) r.makes sought))
    ]

-- Readings ---------------------------------------------------------------------------------------------------------

pub whole_files_begin_with_their_lines : WholeFilesAreFaultless → PrefixesKeepReadingsUnder Wide → WholeFilesBeginWithTheirLines
whole_files_begin_with_their_lines faultless keep pic prefix more whole shape (c, is, framed) r gives =
    let f = faultless pic (prefix ++ more) whole in
    let own : CourseHasReading c r =
    subst (λ (d : Course). CourseHasReading d r) (one_course prefix gives.1.course c gives.1.is_course is) gives.2 in
    let kept = keep prefix more whole.bytes c f.course is f.is_course f.each r own in
    (whole.reads.readings r).0 (
      f.shape,
      record { bytes = whole.bytes; course = f.course; is_course = f.is_course; framed = f.framed },
      kept,
    )

-- The station ------------------------------------------------------------------------------------------------------

among_samples : (component line : ℕ) (r : Reading) (xs : List (List ℕ))
    → list_any (eq_by_cmp reading_cmp r) (map (reading_of component line) xs) ≡ true → Contains xs r.samples
among_samples component line r [] e = absurd cc
among_samples component line r (x ∷ xs) e =
    either (Contains (x ∷ xs) r.samples) (eq_by_cmp reading_cmp r (reading_of component line x))
    (list_any (eq_by_cmp reading_cmp r) (map (reading_of component line) xs))
    (λ here. subst (Contains (x ∷ xs)) (ap (λ (y : Reading). y.samples) (sym (same_reading r (reading_of component line x) here)))
    (is_first x xs))
    (λ later. in_rest r.samples x xs (among_samples component line r xs later)) e

pub cuts_are_held : CutsAreHeld
cuts_are_held source copies splices cut station takes r gives =
    let held = files_are_held source station.shape ((copies ++ splices) ++ cut ∷ []) station takes.takes in
    let last : Contains ((copies ++ splices) ++ cut ∷ []) cut =
    Contains-append_right (copies ++ splices) (cut ∷ []) cut (is_first cut []) in
    let taken : Contains held.taken cut =
    kept_of_shape station.shape ((copies ++ splices) ++ cut ∷ []) held.taken cut held.of_shape last takes.shape_is in
    let there : set.contains station.readings r ≡ true =
    (held.exactly.readings r).1
    (cut, subst (λ (files : List (List ℕ)). Contains files cut) (sym (files_alone source held.taken)) taken, gives) in
    let among : Contains (readings_at station r.component r.line) r.samples =
    among_samples r.component r.line r (readings_at station r.component r.line) (in_its_line station r there) in
    (among, λ one. only_one (readings_at station r.component r.line) r.samples one among)

-- Both -------------------------------------------------------------------------------------------------------------

pub cut_lines_are_the_picture : WholeFilesAreFaultless → PrefixesKeepReadingsUnder Wide → CutLinesAreThePicture
cut_lines_are_the_picture faultless keep ceiling copies parts path source station w pic prefix more whole within splice = (
  begins,
  λ component line. record {
    no_other = λ samples gives. (line_of_cut (reading_of component line samples) gives).2;
    held = λ gives. cuts_are_held source copies w.splices (prefix_of parts path) station w.takes
        (picture_reading pic component line) gives;
  },
)
  where
    begins : prefix ≡ prefix_of parts path
    begins =
        sought_files_begin_with_the_cut ceiling copies parts w.are_parts path w.is_lone prefix more splice whole.bytes
        (faultless pic (prefix ++ more) whole, within)

    line_of_cut : (r : Reading) → GivesReadingUnder Wide (prefix_of parts path) r → IsLineOf pic r
    line_of_cut r gives =
        whole_files_begin_with_their_lines faultless keep pic (prefix_of parts path) more
        (subst (λ bytes. IsWholeFileUnder Wide pic (bytes ++ more)) begins whole) station.shape w.takes.shape_is r gives
