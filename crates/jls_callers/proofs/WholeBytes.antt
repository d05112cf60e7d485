-- What is said of the prefix of a copy, and what follows for the whole.
use Rattle.std.proofs.Common.{◌≡◌, ◌⊎◌, inl, inr, ℕ, List, [], ◌++◌, append-nil, Option, Some, None, false, true, refl, sym, ap, ◌∙◌, subst}
use Rattle.jls_partial.specs.Partial.{PartialPicture, has_same_shape, union}
use Rattle.jls_copy.specs.Course.{Course}
use Rattle.jls_copy.specs.CourseLaws.{OneCourse}
use Rattle.jls_copy.specs.CopyLaws.{FinalEndsStay}
use Rattle.jls_copy.specs.CopyReads.{CopyReads, CopyGivesNone, is_final_end}
use Rattle.jls_copy.specs.ReadCopy.{ReadCopy}
use Rattle.jls_copy.specs.declared.reader.CopyFault.TheVariants as copy
use Rattle.jls_marker.specs.declared.fault.MarkerFault.{MarkerFault}
use Rattle.jls_station.specs.Given.{marked}
use Rattle.jls_station.specs.Inputs.{IsCopyDone}
use Rattle.jls_station.specs.KnownCopies.{BytesGive, IsPrefixOf, RefusesBytes, TakesBytes}
use Rattle.jls_station.specs.declared.input.ReadStop.{ReadStop}
use Rattle.jls_station.specs.declared.input.ReadStop.TheVariants.{Whole}
use Rattle.jls_station.specs.declared.take_copy.TakeFault.TheVariants as take

-- a source or none changes no shape
pub shape_kept : (source : Option ℕ) (old p : PartialPicture) → has_same_shape old (marked source p) ≡ has_same_shape old p
shape_kept None old p = refl
shape_kept (Some source) old p = refl

module _ (one : OneCourse) (stay : FinalEndsStay) where
  all_read : (prefix following : List ℕ) (read : ReadCopy) → IsCopyDone prefix ⊎ (following ≡ []) → CopyReads prefix read
      → CopyReads (prefix ++ following) read
  all_read prefix following read (inr none) h =
      subst (λ (t : List ℕ). CopyReads t read) (sym (append-nil prefix) ∙ ap (λ (t : List ℕ). prefix ++ t) (sym none)) h
  all_read prefix following read (inl (c, is, final)) h =
      let same : c ≡ h.course = one prefix c h.course is h.is_course in
      let ends : is_final_end h.course.end ≡ true = ap (λ (x : Course). is_final_end x.end) (sym same) ∙ sym final in
      record {
        course = h.course;
        is_course = stay prefix following h.course h.is_course ends;
        shape = h.shape;
        framed = h.framed;
        outcomes = h.outcomes;
        each = h.each;
        head = h.head;
        head_is = h.head_is;
        partial_is = h.partial_is;
        pieces_are = h.pieces_are;
        count_is = h.count_is;
        ended_is = h.ended_is;
      }

  none_given : (prefix following : List ℕ) (f : MarkerFault) (offset : ℕ) → IsCopyDone prefix ⊎ (following ≡ [])
      → CopyGivesNone prefix (copy.NoPicture f offset) → CopyGivesNone (prefix ++ following) (copy.NoPicture f offset)
  none_given prefix following f offset (inr none) h =
      subst (λ (t : List ℕ). CopyGivesNone t (copy.NoPicture f offset))
      (sym (append-nil prefix) ∙ ap (λ (t : List ℕ). prefix ++ t) (sym none)) h
  none_given prefix following f offset (inl (c, is, final)) (d, is_course, framed, fault_is) =
      let same : c ≡ d = one prefix c d is is_course in
      let ends : is_final_end d.end ≡ true = ap (λ (x : Course). is_final_end x.end) (sym same) ∙ sym final in
      (d, stay prefix following d is_course ends, framed, fault_is)

  -- what was read of known bytes as whole is what all of them give
  pub whole_given : (source : Option ℕ) (p : PartialPicture) (stop : ReadStop) (bytes : List ℕ) → BytesGive source p stop bytes
      → stop ≡ Whole
      → (read : ReadCopy) × CopyReads bytes read × (p ≡ marked source read.partial)
  whole_given source p stop bytes b whole =
      let is = b.is_prefix in (
        b.read,
        subst (λ (t : List ℕ). CopyReads t b.read) (sym is.bytes_are) (all_read b.prefix is.following b.read (is.enough whole) b.reads_as),
        b.partial_is,
      )

  -- and what a station takes of them
  pub whole_taken : (source : Option ℕ) (old new : PartialPicture) (stop : ReadStop) (bytes : List ℕ) → TakesBytes source old new stop bytes
      → stop ≡ Whole
      → (read : ReadCopy) × CopyReads bytes read × (has_same_shape old read.partial ≡ true) × (new ≡ union old (marked source read.partial))
  whole_taken source old new stop bytes t whole =
      let w = whole_given source t.given stop bytes t.gives whole in
      let shape = ap (λ (p : PartialPicture). has_same_shape old p) w.2 ∙ shape_kept source old w.0.partial in
      (w.0, w.1, sym shape ∙ t.one_shape, t.union_is ∙ ap (λ (p : PartialPicture). union old p) w.2)

  pub whole_gives_none : (bytes prefix : List ℕ) (f : MarkerFault) (offset : ℕ) → IsPrefixOf bytes prefix Whole
      → CopyGivesNone prefix (copy.NoPicture f offset) → CopyGivesNone bytes (copy.NoPicture f offset)
  whole_gives_none bytes prefix f offset is h =
      subst (λ (t : List ℕ). CopyGivesNone t (copy.NoPicture f offset)) (sym is.bytes_are)
      (none_given prefix is.following f offset (is.enough refl) h)

-- a station refuses a prefix of known bytes for its shape
pub other_shape_read : (source : Option ℕ) (old : PartialPicture) (bytes : List ℕ) → RefusesBytes source old bytes take.ShapeDiffers
    → (prefix following : List ℕ) × (read : ReadCopy) × (bytes ≡ prefix ++ following) × CopyReads prefix read
    × (has_same_shape old read.partial ≡ false)
other_shape_read source old bytes h =
    let b = h.2 in
    let shape = ap (λ (p : PartialPicture). has_same_shape old p) b.partial_is ∙ shape_kept source old b.read.partial in
    (b.prefix, b.is_prefix.following, b.read, b.is_prefix.bytes_are, b.reads_as, sym shape ∙ h.3)
