-- The shape of the files taken, from what is seen of them.
use Rattle.std.proofs.Common.{◌≡◌, ℕ, zero, suc, ◌<◌, List, [], ◌∷◌, ◌++◌, length, take, Option, Some, None, Bor, refl, sym, ap, ◌∙◌, subst}
use Rattle.std.proofs.Common.{arith, inl, inr}
use Rattle.std.specs.Prelude.{get_or, slice_get, unwrap_or, IfSome, IfNone, IsSomeAnd}
use Rattle.std.specs.List.{AllByRecursion, Contains}
use Rattle.jls_values.specs.Shape.{PictureShape}
use Rattle.jls_diff.specs.PartsOf.{bytes_of}
use Rattle.jls_diff.proofs.Slices.{count_of_slices}
use Rattle.jls_search.specs.Faultless.{IsFaultless}
use Rattle.jls_search.specs.Shapes.{HasFrameOfShape, HasFrameOfOtherShape, HasNoFrame, IsFirstShape, NoneIsFaultless, IsShapeTaken}
use Rattle.jls_search.specs.Shapes.{IsCopyNamed}
use Rattle.jls_search.specs.Shapes.{IsShapeFound}
use Rattle.jls_search.specs.Seen.{IsSeen, AreSeen, IsNotFaultless, HasItIfFaultless, HasFrame, IsWithoutFrame, HasOtherFrame, IsFirstFrame}
use Rattle.jls_search.specs.Seen.{IsFirstOtherFrame, SomeFaultlessHasOther, IsNamed, IsOfCopies}
use Rattle.jls_search.specs.declared.seen.Seen.{Seen}
use Rattle.jls_search.specs.declared.seen.Seen.TheVariants.{Faultless, Faulty, NoFrame}
use Rattle.jls_search.specs.declared.shape_found.ShapeFound.{ShapeFound}
use Rattle.jls_search.specs.declared.shape_found.ShapeFound.TheVariants as answer
use Rattle.jls_values.proofs.Lists.{is_first, in_rest, none_in, first_or_rest, all_at}
use Rattle.jls_search.proofs.OneFile.{one_shape_of, no_shape, faultless_shape}

-- One file ---------------------------------------------------------------------------------------------------------

module _ (file : List ℕ) where
  pub shape_seen : (shape : PictureShape) (s : Seen) → IsSeen file s → HasFrame shape s → HasFrameOfShape shape file
  shape_seen shape (Faultless own) is e = subst (λ t. HasFrameOfShape t file) e is.0
  shape_seen shape (Faulty own) is e = subst (λ t. HasFrameOfShape t file) e is.0
  shape_seen shape (NoFrame f n) is e = absurd e

  frame_seen : (shape : PictureShape) (s : Seen) → IsSeen file s → HasFrameOfShape shape file → HasFrame shape s
  frame_seen shape (Faultless own) is h = one_shape_of own shape file is.0 h
  frame_seen shape (Faulty own) is h = one_shape_of own shape file is.0 h
  frame_seen shape (NoFrame f n) is h = absurd (no_shape shape file (is.0, is.1, is.2) h)

  none_seen : (s : Seen) → IsSeen file s → IsWithoutFrame s → HasNoFrame file
  none_seen (Faultless own) is none = absurd none
  none_seen (Faulty own) is none = absurd none
  none_seen (NoFrame f n) is none = (is.0, is.1, is.2)

  without_seen : (s : Seen) → IsSeen file s → HasNoFrame file → IsWithoutFrame s
  without_seen (Faultless own) is none = absurd (no_shape own file none is.0)
  without_seen (Faulty own) is none = absurd (no_shape own file none is.0)
  without_seen (NoFrame f n) is none = tt

  other_seen : (shape : PictureShape) (s : Seen) → IsSeen file s → HasOtherFrame shape s → HasFrameOfOtherShape shape file
  other_seen shape (Faultless own) is not = (own, is.0, not)
  other_seen shape (Faulty own) is not = (own, is.0, not)
  other_seen shape (NoFrame f n) is not = absurd not

  other_frame : (shape : PictureShape) (s : Seen) → IsSeen file s → HasFrameOfOtherShape shape file → HasOtherFrame shape s
  other_frame shape (Faultless own) is (other, has, not) = λ e. not (one_shape_of other own file has is.0 ∙ e)
  other_frame shape (Faulty own) is (other, has, not) = λ e. not (one_shape_of other own file has is.0 ∙ e)
  other_frame shape (NoFrame f n) is (other, has, not) = no_shape other file (is.0, is.1, is.2) has

  faulty_seen : (s : Seen) → IsSeen file s → IsNotFaultless s → IsFaultless file → ⊥
  faulty_seen (Faultless own) is not f = not
  faulty_seen (Faulty own) is not f = is.1 f
  faulty_seen (NoFrame g n) is not f = no_shape f.shape file (is.0, is.1, is.2) (faultless_shape file f)

  agreed_seen : (shape : PictureShape) (s : Seen) → IsSeen file s → HasItIfFaultless shape s → IsFaultless file → HasFrameOfShape shape file
  agreed_seen shape (Faultless own) is e f = subst (λ t. HasFrameOfShape t file) e is.0
  agreed_seen shape (Faulty own) is e f = absurd (is.1 f)
  agreed_seen shape (NoFrame g n) is e f = absurd (faulty_seen (NoFrame g n) is tt f)

-- what isn't without a fault can have any shape
pub has_it : (shape : PictureShape) (s : Seen) → ((own : PictureShape) → s ≡ Faultless own → ⊥) → HasItIfFaultless shape s
has_it shape (Faultless own) not = absurd (not own refl)
has_it shape (Faulty own) not = tt
has_it shape (NoFrame f n) not = tt

-- Files ------------------------------------------------------------------------------------------------------------

pub seen_more : (files : List (List ℕ)) (seen : List Seen) (file : List ℕ) (s : Seen) → AreSeen files seen → IsSeen file s
    → AreSeen (files ++ file ∷ []) (seen ++ s ∷ [])
seen_more [] [] file s are is = (is, tt)
seen_more [] (t ∷ seen) file s are is = absurd are
seen_more (f ∷ files) [] file s are is = absurd are
seen_more (f ∷ files) (t ∷ seen) file s are is = (are.0, seen_more files seen file s are.1 is)

pub count_seen : (files : List (List ℕ)) (seen : List Seen) → AreSeen files seen → length seen ≡ length files
count_seen [] [] are = refl
count_seen [] (s ∷ seen) are = absurd are
count_seen (f ∷ files) [] are = absurd are
count_seen (f ∷ files) (s ∷ seen) are = ap suc (count_seen files seen are.1)

pub prefix_seen : (files more : List (List ℕ)) (seen : List Seen) → AreSeen (files ++ more) seen → AreSeen files (take (length files) seen)
prefix_seen [] more seen are = tt
prefix_seen (f ∷ files) more [] are = absurd are
prefix_seen (f ∷ files) more (s ∷ seen) are = (are.0, prefix_seen files more seen are.1)

-- the copies among the files
pub prefix_copies : (copies : List (Bor (List ℕ))) (found : List (List ℕ)) (seen : List Seen) → AreSeen (bytes_of copies ++ found) seen
    → AreSeen (bytes_of copies) (take (length copies) seen)
prefix_copies copies found seen are =
    subst (λ n. AreSeen (bytes_of copies) (take n seen)) (count_of_slices copies) (prefix_seen (bytes_of copies) found seen are)

pub prefix_count : (copies : List (Bor (List ℕ))) (found : List (List ℕ)) (seen : List Seen) → AreSeen (bytes_of copies ++ found) seen
    → length copies ≡ length (take (length copies) seen)
prefix_count copies found seen are =
    sym (count_seen (bytes_of copies) (take (length copies) seen) (prefix_copies copies found seen are) ∙ count_of_slices copies)

-- a file, and what is seen of it
pub file_of : (files : List (List ℕ)) (seen : List Seen) (s : Seen) → AreSeen files seen → Contains seen s
    → (file : List ℕ) × Contains files file × IsSeen file s
file_of [] [] s are m = absurd (none_in s m)
file_of [] (t ∷ seen) s are m = absurd are
file_of (f ∷ files) [] s are m = absurd are
file_of (f ∷ files) (t ∷ seen) s are m =
    elim (first_or_rest s t seen m) [
      | inl e ↦ (f, is_first f files, subst (IsSeen f) e are.0)
      | inr later ↦ (let r = file_of files seen s are.1 later in (r.0, in_rest r.0 f files r.1, r.2))
    ]

seen_of : (files : List (List ℕ)) (seen : List Seen) (file : List ℕ) → AreSeen files seen → Contains files file
    → (s : Seen) × Contains seen s × IsSeen file s
seen_of [] [] file are m = absurd (none_in file m)
seen_of [] (t ∷ seen) file are m = absurd are
seen_of (f ∷ files) [] file are m = absurd are
seen_of (f ∷ files) (t ∷ seen) file are m =
    elim (first_or_rest file f files m) [
      | inl e ↦ (t, is_first t seen, subst (λ g. IsSeen g t) e are.0)
      | inr later ↦ (let r = seen_of files seen file are.1 later in (r.0, in_rest r.0 t seen r.1, r.2))
    ]

-- The first frame --------------------------------------------------------------------------------------------------

first_shape : (shape : PictureShape) (files : List (List ℕ)) (seen : List Seen) → AreSeen files seen → IsFirstFrame shape seen
    → IsFirstShape files shape
first_shape shape [] [] are first = absurd first
first_shape shape [] (s ∷ seen) are first = absurd are
first_shape shape (f ∷ files) [] are first = absurd are
first_shape shape (f ∷ files) (s ∷ seen) are (inl has) = inl (shape_seen f shape s are.0 has)
first_shape shape (f ∷ files) (s ∷ seen) are (inr (none, rest)) = inr (none_seen f s are.0 none, first_shape shape files seen are.1 rest)

first_frame : (shape : PictureShape) (files : List (List ℕ)) (seen : List Seen) → AreSeen files seen → IsFirstShape files shape
    → IsFirstFrame shape seen
first_frame shape [] [] are first = absurd first
first_frame shape [] (s ∷ seen) are first = absurd are
first_frame shape (f ∷ files) [] are first = absurd are
first_frame shape (f ∷ files) (s ∷ seen) are (inl has) = inl (frame_seen f shape s are.0 has)
first_frame shape (f ∷ files) (s ∷ seen) are (inr (none, rest)) = inr (without_seen f s are.0 none, first_frame shape files seen are.1 rest)

-- where one stands, and none before it
pub first_frame_at : (shape : PictureShape) (seen : List Seen) (i : ℕ) (d : Seen) → AllByRecursion IsWithoutFrame (take i seen)
    → i < length seen → HasFrame shape (get_or seen i d) → IsFirstFrame shape seen
first_frame_at shape [] i d none l has = absurd (omega (arith, l))
first_frame_at shape (s ∷ seen) zero d none l has = inl has
first_frame_at shape (s ∷ seen) (suc i) d none l has = inr (none.0, first_frame_at shape seen i d none.1 (omega (arith, l)) has)

-- there is one at most
one_frame : (shape other : PictureShape) (s : Seen) → HasFrame shape s → HasFrame other s → shape ≡ other
one_frame shape other (Faultless own) e f = sym e ∙ f
one_frame shape other (Faulty own) e f = sym e ∙ f
one_frame shape other (NoFrame g n) e f = absurd e

frame_or_none : (shape : PictureShape) (s : Seen) → HasFrame shape s → IsWithoutFrame s → ⊥
frame_or_none shape (Faultless own) e none = none
frame_or_none shape (Faulty own) e none = none
frame_or_none shape (NoFrame g n) e none = e

one_first_frame : (shape other : PictureShape) (seen : List Seen) → IsFirstFrame shape seen → IsFirstFrame other seen → shape ≡ other
one_first_frame shape other [] f g = absurd f
one_first_frame shape other (s ∷ seen) (inl has) (inl also) = one_frame shape other s has also
one_first_frame shape other (s ∷ seen) (inl has) (inr (none, rest)) = absurd (frame_or_none shape s has none)
one_first_frame shape other (s ∷ seen) (inr (none, rest)) (inl has) = absurd (frame_or_none other s has none)
one_first_frame shape other (s ∷ seen) (inr (none, rest)) (inr (also, more)) = one_first_frame shape other seen rest more

no_first_frame : (shape : PictureShape) (seen : List Seen) → AllByRecursion IsWithoutFrame seen → IsFirstFrame shape seen → ⊥
no_first_frame shape [] none first = first
no_first_frame shape (s ∷ seen) none (inl has) = frame_or_none shape s has none.0
no_first_frame shape (s ∷ seen) none (inr (here, rest)) = no_first_frame shape seen none.1 rest

no_frames : (files : List (List ℕ)) (seen : List Seen) → AreSeen files seen → AllByRecursion IsWithoutFrame seen
    → AllByRecursion HasNoFrame files
no_frames [] seen are none = tt
no_frames (f ∷ files) [] are none = absurd are
no_frames (f ∷ files) (s ∷ seen) are none = (none_seen f s are.0 none.0, no_frames files seen are.1 none.1)

-- The first frame of another shape -----------------------------------------------------------------------------------

module _ (shape : PictureShape) where
  other_at : (files : List (List ℕ)) (seen : List Seen) (copy : ℕ) → AreSeen files seen
      → IsSomeAnd (slice_get seen copy) (HasOtherFrame shape) → (copy < length files) × HasFrameOfOtherShape shape (get_or files copy [])
  other_at files [] copy are at = absurd at
  other_at [] (s ∷ seen) copy are at = absurd are
  other_at (f ∷ files) (s ∷ seen) zero are at = (omega arith, other_seen f shape s are.0 at)
  other_at (f ∷ files) (s ∷ seen) (suc copy) are at = (let r = other_at files seen copy are.1 at in (omega (arith, r.0), r.1))

  none_before : (files : List (List ℕ)) (seen : List Seen) (copy before : ℕ) → AreSeen files seen
      → AllByRecursion (λ s. HasOtherFrame shape s → ⊥) (take copy seen) → before < copy → before < length files
      → HasFrameOfOtherShape shape (get_or files before []) → ⊥
  none_before [] seen copy before are all l within has = omega (arith, within)
  none_before (f ∷ files) [] copy before are all l within has = are
  none_before (f ∷ files) (s ∷ seen) zero before are all l within has = omega (arith, l)
  none_before (f ∷ files) (s ∷ seen) (suc copy) zero are all l within has = all.0 (other_frame f shape s are.0 has)
  none_before (f ∷ files) (s ∷ seen) (suc copy) (suc before) are all l within has =
      none_before files seen copy before are.1 all.1 (omega (arith, l)) (omega (arith, within)) has

  none_other : (files : List (List ℕ)) (seen : List Seen) → AreSeen files seen → AllByRecursion (λ s. HasOtherFrame shape s → ⊥) seen
      → AllByRecursion (λ file. HasFrameOfOtherShape shape file → ⊥) files
  none_other [] seen are all = tt
  none_other (f ∷ files) [] are all = absurd are
  none_other (f ∷ files) (s ∷ seen) are all = (λ has. all.0 (other_frame f shape s are.0 has), none_other files seen are.1 all.1)

pub named_other : (shape : PictureShape) (copies : List Seen) (found : Option ℕ) (copy : ℕ) → copy ≡ unwrap_or found 0
    → IsFirstFrame shape copies → IfSome found (λ copy. IsFirstOtherFrame shape copies copy)
    → IfNone found (AllByRecursion (λ s. HasOtherFrame shape s → ⊥) copies) → IsNamed copies copy
named_other shape copies (Some k) copy e first some none = inl (shape, first, subst (IsFirstOtherFrame shape copies) (sym e) some)
named_other shape copies None copy e first some none = inr (
  λ other also.
      subst (λ t. AllByRecursion (λ s. HasOtherFrame t s → ⊥) copies) (one_first_frame shape other copies first also) none,
  e,
)

pub named_first : (copies : List Seen) → AllByRecursion IsWithoutFrame copies → IsNamed copies 0
named_first copies none = inr (λ shape first. absurd (no_first_frame shape copies none first), refl)

copy_named : (copies : List (List ℕ)) (seen : List Seen) (copy : ℕ) → AreSeen copies seen → IsNamed seen copy → IsCopyNamed copies copy
copy_named copies seen copy are (inl (shape, first, others)) =
    let here = other_at shape copies seen copy are others.0 in
    inl (record {
      shape = shape;
      is_first_shape = first_shape shape copies seen are first;
      within = here.0;
      has_other_shape = here.1;
      none_before = λ b l. none_before shape copies seen copy b are others.1 l (omega (arith, l, here.0));
    })
copy_named copies seen copy are (inr (none, zero_is)) =
    inr (λ shape first. none_other shape copies seen are (none shape (first_frame shape copies seen are first)), zero_is)

-- What is found ----------------------------------------------------------------------------------------------------

pub none_faultless : (files : List (List ℕ)) (seen : List Seen) → AreSeen files seen → AllByRecursion IsNotFaultless seen
    → NoneIsFaultless files
none_faultless files seen are none file m f =
    let s = seen_of files seen file are m in faulty_seen file s.0 s.2 (all_at IsNotFaultless seen s.0 none s.1) f

module _ (copies found : List (List ℕ)) (seen : List Seen) (are : AreSeen (copies ++ found) seen) where
  -- a file without a fault is among those seen, and has this shape
  module _ (shape : PictureShape) (some : Contains seen (Faultless shape)) where
    pub taken_shape : AllByRecursion (HasItIfFaultless shape) seen → IsShapeTaken copies found shape
    taken_shape all = record {
      of_faultless = λ file m f.
          let s = seen_of (copies ++ found) seen file are m in
          agreed_seen file shape s.0 s.2 (all_at (HasItIfFaultless shape) seen s.0 all s.1) f;
      of_first = λ none. let here = file_of (copies ++ found) seen (Faultless shape) are some in absurd (none here.0 here.1 here.2.1);
    }

    pub differ : (prefix : List Seen) (copy : ℕ) → AreSeen copies prefix → SomeFaultlessHasOther shape seen → IsNamed prefix copy
        → IsShapeFound copies found (answer.Differ copy)
    differ prefix copy prefixes (other, among, not) named =
        let here = file_of (copies ++ found) seen (Faultless shape) are some in
        let there = file_of (copies ++ found) seen (Faultless other) are among in (
          record {
            file = here.0;
            among = here.1;
            faultless = here.2.1;
            shape = shape;
            has_shape = here.2.0;
            other = there.0;
            other_among = there.1;
            other_faultless = there.2.1;
            has_other_shape = (other, there.2.0, not);
          },
          copy_named copies prefix copy prefixes named,
        )

  -- each of them has a fault
  pub of_copies : (prefix : List Seen) (found_is : ShapeFound) → AreSeen copies prefix → AllByRecursion IsNotFaultless seen
      → IsOfCopies prefix found_is → IsShapeFound copies found found_is
  of_copies prefix (answer.Taken shape) prefixes none first = record {
    of_faultless = λ file m f. absurd (none_faultless (copies ++ found) seen are none file m f);
    of_first = λ _. first_shape shape copies prefix prefixes first;
  }
  of_copies prefix (answer.Differ copy) prefixes none is = absurd is
  of_copies prefix (answer.NoFrame f n) prefixes none (without, first) = (
    none_faultless (copies ++ found) seen are none,
    no_frames copies prefix prefixes without,
    first_fault copies prefix prefixes first,
  )
    where
      first_fault : (copies : List (List ℕ)) (prefix : List Seen) → AreSeen copies prefix
          → IsSomeAnd (slice_get prefix 0) (λ s. s ≡ NoFrame f n) → IsSeen (get_or copies 0 []) (NoFrame f n)
      first_fault copies [] prefixes first = absurd first
      first_fault [] (s ∷ prefix) prefixes first = absurd prefixes
      first_fault (c ∷ copies) (s ∷ prefix) prefixes first = subst (IsSeen c) first prefixes.0
