-- By induction over a history: what calls came to holds exactly what its copies give.
use Rattle.std.proofs.Common.{◌≡◌, ℕ, true, false, List, [], ◌∷◌, ◌++◌, map, Option, None, refl, sym, ap, ◌∙◌, subst, ◌⊎◌, inl, inr}
use Rattle.std.specs.Prelude.{◌↔◌}
use Rattle.std.specs.List.{AllByRecursion, Contains, list_any}
use Rattle.std.specs.Ordering.{eq_by_cmp}
use Rattle.std.proofs.lemmas.List.{append-nil}
use Rattle.std.proofs.lemmas.List.Elements.{Contains-append_cases}
use Rattle.std.proofs.lemmas.Bool.{or_left}
use Rattle.jls_values.specs.Join.{IsBetween}
use Rattle.jls_values.specs.OrderedSetLaws.{contains-empty, contains-insert_all}
use Rattle.jls_values.specs.Shape.{PictureShape}
use Rattle.jls_values.proofs.Tests.{either}
use Rattle.jls_partial.specs.Marks.{mark_cmp, marks_of}
use Rattle.jls_partial.specs.Reading.{Reading, reading_cmp}
use Rattle.jls_partial.specs.ReadingOrder.{reading_total, reading_exact, marks_total, marks_exact}
use Rattle.jls_partial.specs.Partial.{PartialPicture, nothing_known, union, with_all}
use Rattle.jls_partial.specs.PartialLaws.{one_shape}
use Rattle.jls_partial.specs.Text.{IsTextOf}
use Rattle.jls_partial.proofs.TextLaws.{one_text}
use Rattle.jls_partial.proofs.HeldItems.{item_of_any}
use Rattle.jls_copy.specs.CopyReads.{CopyReads}
use Rattle.jls_copy.specs.ReadCopy.{ReadCopy}
use Rattle.jls_io.specs.Event.{Event, bytes_given}
use Rattle.jls_station.specs.Given.{CopyReport, Given, Gives, by_text, by_copy, marked}
use Rattle.jls_station.specs.Inputs.{IsCopyDone, IsEnough}
use Rattle.jls_marker.specs.SegmentLaws.{AreBytes}
use Rattle.jls_station.specs.TakingCopies.{CopyGives, RefusesCopy, gives_none, other_shape, no_memory}
use Rattle.jls_station.specs.declared.take_copy.TakeFault.{TakeFault}
use Rattle.jls_station.specs.declared.take_copy.TakeFault.TheVariants as fault
use Rattle.jls_copy_laws.specs.Gives.{GivesReading}
use Rattle.jls_copy_laws.proofs.Members.{none_in, in_map, of_map, all_at, all_append, all_prefix}
use Rattle.jls_station.proofs.ReadBytes.{all_reads}
use Rattle.jls_station.proofs.TextsApart.{no_text, text_begins}
use Rattle.jls_headline.specs.Stations.{HasShape, ReadingsOf, HoldsExactly, AreAmong, IsSameCopy}
use Rattle.jls_headline.specs.Sources.{SourcedCopy, copies_of, HoldsExactlyUnder}
use Rattle.jls_headline.specs.Sources.{sourced_copy}
use Rattle.jls_headline.specs.Collected.{HoldsEntry, Knowledge, no_knowledge, of_readings, of_sources, IsKnown}
use Rattle.jls_headline.specs.Collected.{CollectedFrom, CollectedUnder}
use Rattle.jls_headline.specs.Collected.{Collected, is_known, new_station, reader_finished, copy_input, text_input, text_back, same_again}
use Rattle.jls_headline.specs.Collected.{copy_taken, copy_refused, copy_ran_out, partial_taken, partial_ran_out, text_taken, text_ran_out}
use Rattle.jls_headline.specs.Collected.{text_cut_short}
use Rattle.jls_headline.specs.CollectedLaws.{CollectedHoldsExactly, CollectedHoldsExactlyUnder}
use Rattle.jls_headline.proofs.SameCopies.{among_gives}
use Rattle.jls_headline.proofs.Stations.{is_read, union_read}
use Rattle.jls_headline.proofs.SourcedStations.{Mark, GivesMark, is_marked, union_marked, copy_holds_under, among_mark, among_aside}
use Rattle.jls_headline.proofs.Unions.{GivenBy, Holds, at_first, both_collected, part_collected, between_keeps, between_only, over_more}
use Rattle.jls_headline.proofs.Unions.{in_the_end}

-- By induction over the calls ------------------------------------------------------------------------------------

-- what is kept by these steps is kept by all calls
module _ (known : Knowledge) (P : PartialPicture → List SourcedCopy → List SourcedCopy → Type 0)
    (begins : (p : PartialPicture) (copies : List SourcedCopy) → IsKnown known p copies → P p copies [])
    (nothing : (s : PictureShape) → P (nothing_known s) [] [])
    (one : (copy : SourcedCopy) (read : ReadCopy) → AreBytes copy.bytes → CopyReads copy.bytes read
    → P (marked copy.source read.partial) (copy ∷ []) [])
    (both : (p q : PartialPicture) (copies over more further : List SourcedCopy) → P p copies over → P q more further → q.shape ≡ p.shape
    → P (union p q) (copies ++ more) (over ++ further))
    (part : (p q new : PartialPicture) (copies over more further : List SourcedCopy) → P p copies over → P q more further
    → IsBetween union p new (union p q) → P new copies (over ++ (more ++ further)))
    (prefix : (p q : PartialPicture) (ks : List (Reading × List ℕ)) (copies over more further : List SourcedCopy) → P p copies over
    → P q more further
    → AllByRecursion (HoldsEntry q) ks → P (with_all p ks) copies (over ++ (more ++ further)))
    (weaker : (p : PartialPicture) (copies over more : List SourcedCopy) → P p copies over → P p copies (over ++ more)) where
  -- one copy, of the bytes that reads gave
  of_reads : (source : Option ℕ) (p : PartialPicture) (report : CopyReport) (reads : List Event) → CopyGives source p report reads
      → P p (sourced_copy source (bytes_given reads) ∷ []) []
  of_reads source p report reads g =
      let all = all_reads IsCopyDone g.bytes reads report.stop g.is_read in
      subst (λ bytes. P p (sourced_copy source bytes ∷ []) []) (sym all.1)
      (subst (λ (x : PartialPicture). P x (sourced_copy source g.bytes ∷ []) []) (sym g.partial_is)
      (one (sourced_copy source g.bytes) g.read g.is_read.are_bytes g.reads_as))

  -- a copy that was refused, for whatever reason
  after_refused : (source : Option ℕ) (old new : PartialPicture) (f : TakeFault) (reads : List Event) (copies over : List SourcedCopy)
      → P old copies over → RefusesCopy source old new f reads → P new copies (over ++ sourced_copy source (bytes_given reads) ∷ [])
  after_refused _ _ _ _ _ copies over h (gives_none source old f reads stops) =
      weaker old copies over (sourced_copy source (bytes_given reads) ∷ []) h
  after_refused _ _ _ _ _ copies over h (other_shape source old p report reads gives differs) =
      weaker old copies over (sourced_copy source (bytes_given reads) ∷ []) h
  after_refused _ _ _ _ _ copies over h (no_memory source old new p report reads gives same between) =
      part old p new copies over (sourced_copy source (bytes_given reads) ∷ []) [] h (of_reads source p report reads gives) between

  -- and not for want of memory
  as_before : (source : Option ℕ) (old new : PartialPicture) (f : TakeFault) (reads : List Event) (copies over : List SourcedCopy)
      → P old copies over → RefusesCopy source old new f reads → (f ≡ fault.OutOfMemory → ⊥) → P new copies over
  as_before _ _ _ _ _ copies over h (gives_none source old f reads stops) other = h
  as_before _ _ _ _ _ copies over h (other_shape source old p report reads gives differs) other = h
  as_before _ _ _ _ _ copies over h (no_memory source old new p report reads gives same between) other = absurd (other refl)

  -- what was read of an input
  input_copy : (source : Option ℕ) (given : Given) (bytes : List ℕ) → AreBytes bytes → Gives source bytes given → (given.copy ≡ None → ⊥)
      → P given.partial (sourced_copy source bytes ∷ []) []
  input_copy _ _ _ low (by_text source bytes p is) copied = absurd (copied refl)
  input_copy _ _ _ low (by_copy source bytes read stop none reads) copied = one (sourced_copy source bytes) read low reads

  input_text : (p : PartialPicture) (source : Option ℕ) (given : Given) (bytes : List ℕ) → IsTextOf bytes p → Gives source bytes given
      → p ≡ given.partial
  input_text p _ _ _ is (by_text source bytes q is') = one_text bytes p q is is'
  input_text p _ _ _ is (by_copy source bytes read stop none reads) = no_text bytes none (text_begins bytes p is)

  pub by_calls : (p : PartialPicture) (copies over : List SourcedCopy) → Collected known p copies over → P p copies over
  by_calls _ _ _ (is_known p copies h) = begins p copies h
  by_calls _ _ _ (new_station shape station is) = subst (λ (p : PartialPicture). P p [] []) (sym is) (nothing shape)
  by_calls _ _ _ (reader_finished source bytes read p low reads is) =
      subst (λ (q : PartialPicture). P q (sourced_copy source bytes ∷ []) []) (sym is) (one (sourced_copy source bytes) read low reads)
  by_calls _ _ _ (copy_input source given reads h copied) =
      let all = all_reads IsEnough h.bytes reads given.stop h.is_read in
      subst (λ bytes. P given.partial (sourced_copy source bytes ∷ []) []) (sym all.1)
      (input_copy source given h.bytes h.is_read.are_bytes h.gives copied)
  by_calls _ _ _ (text_input p copies over source given reads g is h) =
      let all = all_reads IsEnough h.bytes reads given.stop h.is_read in
      subst (λ (q : PartialPicture). P q copies over)
      (input_text p source given h.bytes (subst (λ bytes. IsTextOf bytes p) all.1 is) h.gives)
      (by_calls p copies over g)
  by_calls _ _ _ (text_back p new copies over bytes g is is') =
      subst (λ (q : PartialPicture). P q copies over) (one_text bytes p new is is') (by_calls p copies over g)
  by_calls _ _ _ (same_again old new copies over g e) = subst (λ (q : PartialPicture). P q copies over) (sym e) (by_calls old copies over g)
  by_calls _ _ _ (copy_taken source old new report reads copies over g t) =
      subst (λ (q : PartialPicture). P q (copies ++ sourced_copy source (bytes_given reads) ∷ []) over) (sym t.union_is)
      (subst (P (union old t.given) (copies ++ sourced_copy source (bytes_given reads) ∷ [])) (append-nil over)
      (both old t.given copies over (sourced_copy source (bytes_given reads) ∷ []) [] (by_calls old copies over g)
      (of_reads source t.given report reads t.gives) (sym (one_shape old.shape t.given.shape t.one_shape))))
  by_calls _ _ _ (copy_refused source old new f reads copies over g r other) =
      as_before source old new f reads copies over (by_calls old copies over g) r other
  by_calls _ _ _ (copy_ran_out source old new reads copies over g r) =
      after_refused source old new fault.OutOfMemory reads copies over (by_calls old copies over g) r
  by_calls _ _ _ (partial_taken old new other copies over more further g k same is) =
      subst (λ (q : PartialPicture). P q (copies ++ more) (over ++ further)) (sym is)
      (both old other copies over more further (by_calls old copies over g) (by_calls other more further k)
      (sym (one_shape old.shape other.shape same)))
  by_calls _ _ _ (partial_ran_out old new other copies over more further g k between) =
      part old other new copies over more further (by_calls old copies over g) (by_calls other more further k) between
  by_calls _ _ _ (text_taken old new other copies over more further bytes g k is t) =
      let said : other ≡ t.said = one_text bytes other t.said is t.is_text in
      subst (λ (q : PartialPicture). P q (copies ++ more) (over ++ further)) (sym t.union_is)
      (both old t.said copies over more further (by_calls old copies over g)
      (subst (λ (q : PartialPicture). P q more further) said (by_calls other more further k))
      (sym (one_shape old.shape t.said.shape t.one_shape)))
  by_calls _ _ _ (text_ran_out old new other copies over more further bytes g k is between) =
      part old other new copies over more further (by_calls old copies over g) (by_calls other more further k) between
  by_calls _ _ _ (text_cut_short old new other copies over more further bytes g k held t) =
      subst (λ (q : PartialPicture). P q copies (over ++ (more ++ further))) (sym t.new_is)
      (prefix old other t.taken copies over more further (by_calls old copies over g) (by_calls other more further k)
      (all_prefix (HoldsEntry other) t.taken t.left (subst (AllByRecursion (HoldsEntry other)) t.parts held)))

-- The prefix of a text --------------------------------------------------------------------------------------------

abbrev readings_of : List (Reading × List ℕ) → List Reading
readings_of ks = map (λ k. k.0) ks

prefix_keeps_readings : (p : PartialPicture) (ks : List (Reading × List ℕ)) (r : Reading) → is_read p r ≡ true
    → is_read (with_all p ks) r ≡ true
prefix_keeps_readings p ks r h =
    contains-insert_all reading_total p.readings (readings_of ks) r
    ∙ or_left (is_read p r) (list_any (eq_by_cmp reading_cmp r) (readings_of ks)) h

prefix_has_readings : (p q : PartialPicture) (ks : List (Reading × List ℕ)) → AllByRecursion (HoldsEntry q) ks → (r : Reading)
    → is_read (with_all p ks) r ≡ true → (is_read p r ≡ true) ⊎ (is_read q r ≡ true)
prefix_has_readings p q ks held r h =
    either ((is_read p r ≡ true) ⊎ (is_read q r ≡ true)) (is_read p r) (list_any (eq_by_cmp reading_cmp r) (readings_of ks)) (λ x. inl x)
    (λ x. inr (here (item_of_any reading_total reading_exact (readings_of ks) r x)))
    (sym (contains-insert_all reading_total p.readings (readings_of ks) r) ∙ h)
  where
    here : Contains (readings_of ks) r → is_read q r ≡ true
    here c =
        let from = of_map (λ (k : Reading × List ℕ). k.0) ks r c in
        subst (λ x. is_read q x ≡ true) from.2 (all_at (HoldsEntry q) ks from.0 held from.1).0

prefix_keeps_marks : (p : PartialPicture) (ks : List (Reading × List ℕ)) (m : Mark) → is_marked p m ≡ true
    → is_marked (with_all p ks) m ≡ true
prefix_keeps_marks p ks m h =
    contains-insert_all marks_total p.marks (marks_of ks) m
    ∙ or_left (is_marked p m) (list_any (eq_by_cmp (mark_cmp reading_cmp) m) (marks_of ks)) h

held_marks : (q : PartialPicture) (ks : List (Reading × List ℕ)) → AllByRecursion (HoldsEntry q) ks → (m : Mark) → Contains (marks_of ks) m
    → is_marked q m ≡ true
held_marks q [] held m c = absurd (none_in m c)
held_marks q (k ∷ ks) held m c =
    elim (Contains-append_cases (map (λ source. (k.0, source)) k.1) (marks_of ks) m c) [
      | inl here ↦ (
          let from = of_map (λ (source : ℕ). (k.0, source)) k.1 m here in
          subst (λ x. is_marked q x ≡ true) from.2 (all_at (λ source. is_marked q (k.0, source) ≡ true) k.1 from.0 held.0.1 from.1))
      | inr later ↦ held_marks q ks held.1 m later
    ]

prefix_has_marks : (p q : PartialPicture) (ks : List (Reading × List ℕ)) → AllByRecursion (HoldsEntry q) ks → (m : Mark)
    → is_marked (with_all p ks) m ≡ true → (is_marked p m ≡ true) ⊎ (is_marked q m ≡ true)
prefix_has_marks p q ks held m h =
    either ((is_marked p m ≡ true) ⊎ (is_marked q m ≡ true)) (is_marked p m) (list_any (eq_by_cmp (mark_cmp reading_cmp) m) (marks_of ks))
    (λ x. inl x)
    (λ x. inr (held_marks q ks held m (item_of_any marks_total marks_exact (marks_of ks) m x)))
    (sym (contains-insert_all marks_total p.marks (marks_of ks) m) ∙ h)

-- What is held after the calls -----------------------------------------------------------------------------------

abbrev GivesOwn : SourcedCopy → Reading → Type 0
GivesOwn copy r = GivesReading copy.bytes r

abbrev pub AllOfOneShape : PictureShape → List SourcedCopy → Type 0
AllOfOneShape shape copies = AllByRecursion (λ (copy : SourcedCopy). HasShape shape copy.bytes) copies

of_bytes : (copies : List SourcedCopy) (r : Reading) → ReadingsOf (copies_of copies) r → GivenBy GivesOwn is_read union_read copies r
of_bytes copies r (bytes, c, g) =
    let from = of_map (λ (copy : SourcedCopy). copy.bytes) copies bytes c in
    (from.0, from.1, subst (λ x. GivesReading x r) (sym from.2) g)

to_bytes : (copies : List SourcedCopy) (r : Reading) → GivenBy GivesOwn is_read union_read copies r → ReadingsOf (copies_of copies) r
to_bytes copies r (copy, c, g) = (copy.bytes, in_map (λ (copy : SourcedCopy). copy.bytes) copies copy c, g)

pub are_of_shape : (shape : PictureShape) (copies : List SourcedCopy) → AllOfOneShape shape copies
    → AllByRecursion (HasShape shape) (copies_of copies)
are_of_shape shape [] h = tt
are_of_shape shape (copy ∷ copies) h = (h.0, are_of_shape shape copies h.1)

pub of_one_shape : (shape : PictureShape) (copies : List SourcedCopy) → AllByRecursion (HasShape shape) (copies_of copies)
    → AllOfOneShape shape copies
of_one_shape shape [] h = tt
of_one_shape shape (copy ∷ copies) h = (h.0, of_one_shape shape copies h.1)

-- the copies have the shape, and what is held
record After (p : PartialPicture) (copies over : List SourcedCopy) : Type 0 where
  shapes : AllOfOneShape p.shape copies
  readings : Holds GivesOwn is_read union_read p copies over

after_known : (p : PartialPicture) (copies : List SourcedCopy) → HoldsExactly p (copies_of copies) → After p copies []
after_known p copies h = record {
  shapes = of_one_shape p.shape copies h.are_copies;
  readings = at_first GivesOwn is_read union_read p copies
      (λ r. (λ x. of_bytes copies r ((h.readings r).0 x), λ g. (h.readings r).1 (to_bytes copies r g)));
}

after_new : (s : PictureShape) → After (nothing_known s) [] []
after_new s = record {
  shapes = tt;
  readings = (λ r g. absurd (none_in g.0 g.1), λ r h. (let none : false ≡ true = sym (contains-empty reading_cmp r) ∙ h in absurd cc));
}

after_copy : (copy : SourcedCopy) (read : ReadCopy) → AreBytes copy.bytes → CopyReads copy.bytes read
    → After (marked copy.source read.partial) (copy ∷ []) []
after_copy copy read low reads =
    after_known (marked copy.source read.partial) (copy ∷ []) (copy_holds_under copy read low reads).readings

after_both : (p q : PartialPicture) (copies over more further : List SourcedCopy) → After p copies over → After q more further
    → q.shape ≡ p.shape
    → After (union p q) (copies ++ more) (over ++ further)
after_both p q copies over more further h k e = record {
  shapes = all_append _ copies more h.shapes (subst (λ s. AllOfOneShape s more) e k.shapes);
  readings = both_collected GivesOwn is_read union_read p q copies over more further h.readings k.readings;
}

after_part : (p q new : PartialPicture) (copies over more further : List SourcedCopy) → After p copies over → After q more further
    → IsBetween union p new (union p q) → After new copies (over ++ (more ++ further))
after_part p q new copies over more further h k between = record {
  shapes = subst (λ s. AllOfOneShape s copies) (ap (λ (z : PartialPicture). z.shape) between.0) h.shapes;
  readings = part_collected GivesOwn is_read union_read p q new copies over more further h.readings k.readings
      (between_keeps GivesOwn is_read union_read p q new between) (between_only GivesOwn is_read union_read p q new between);
}

after_prefix : (p q : PartialPicture) (ks : List (Reading × List ℕ)) (copies over more further : List SourcedCopy) → After p copies over
    → After q more further → AllByRecursion (HoldsEntry q) ks → After (with_all p ks) copies (over ++ (more ++ further))
after_prefix p q ks copies over more further h k held = record {
  shapes = h.shapes;
  readings = part_collected GivesOwn is_read union_read p q (with_all p ks) copies over more further h.readings k.readings
      (prefix_keeps_readings p ks) (prefix_has_readings p q ks held);
}

after_more : (p : PartialPicture) (copies over more : List SourcedCopy) → After p copies over → After p copies (over ++ more)
after_more p copies over more h = record {
  shapes = h.shapes;
  readings = over_more GivesOwn is_read union_read p copies over more h.readings;
}

-- each knowledge tells of the readings
pub readings_known : (known : Knowledge) (p : PartialPicture) (copies : List SourcedCopy) → IsKnown known p copies
    → HoldsExactly p (copies_of copies)
readings_known no_knowledge p copies h = absurd h
readings_known of_readings p copies h = h
readings_known of_sources p copies h = h.readings

after_calls : (known : Knowledge) (p : PartialPicture) (copies over : List SourcedCopy) → Collected known p copies over
    → After p copies over
after_calls known =
    by_calls known After (λ p copies h. after_known p copies (readings_known known p copies h)) after_new after_copy after_both after_part
    after_prefix after_more

-- from which sources -----------------------------------------------------------------------------------------------

abbrev Marked : PartialPicture → List SourcedCopy → List SourcedCopy → Type 0
Marked p copies over = Holds GivesMark is_marked union_marked p copies over

marked_known : (p : PartialPicture) (copies : List SourcedCopy) → HoldsExactlyUnder p copies → Marked p copies []
marked_known p copies h = at_first GivesMark is_marked union_marked p copies (λ m. h.sources m.0 m.1)

marked_new : (s : PictureShape) → Marked (nothing_known s) [] []
marked_new s =
    (λ m g. absurd (none_in g.0 g.1), λ m h. (let none : false ≡ true = sym (contains-empty (mark_cmp reading_cmp) m) ∙ h in absurd cc))

marked_copy : (copy : SourcedCopy) (read : ReadCopy) → AreBytes copy.bytes → CopyReads copy.bytes read
    → Marked (marked copy.source read.partial) (copy ∷ []) []
marked_copy copy read low reads = marked_known (marked copy.source read.partial) (copy ∷ []) (copy_holds_under copy read low reads)

marked_both : (p q : PartialPicture) (copies over more further : List SourcedCopy) → Marked p copies over → Marked q more further
    → q.shape ≡ p.shape → Marked (union p q) (copies ++ more) (over ++ further)
marked_both p q copies over more further h k e = both_collected GivesMark is_marked union_marked p q copies over more further h k

marked_part : (p q new : PartialPicture) (copies over more further : List SourcedCopy) → Marked p copies over → Marked q more further
    → IsBetween union p new (union p q) → Marked new copies (over ++ (more ++ further))
marked_part p q new copies over more further h k between =
    part_collected GivesMark is_marked union_marked p q new copies over more further h k
    (between_keeps GivesMark is_marked union_marked p q new between) (between_only GivesMark is_marked union_marked p q new between)

marked_prefix : (p q : PartialPicture) (ks : List (Reading × List ℕ)) (copies over more further : List SourcedCopy) → Marked p copies over
    → Marked q more further → AllByRecursion (HoldsEntry q) ks → Marked (with_all p ks) copies (over ++ (more ++ further))
marked_prefix p q ks copies over more further h k held =
    part_collected GivesMark is_marked union_marked p q (with_all p ks) copies over more further h k (prefix_keeps_marks p ks)
    (prefix_has_marks p q ks held)

marked_calls : (p : PartialPicture) (copies over : List SourcedCopy) → Collected of_sources p copies over → Marked p copies over
marked_calls =
    by_calls of_sources Marked marked_known marked_new marked_copy marked_both marked_part marked_prefix
    (over_more GivesMark is_marked union_marked)

-- The laws -------------------------------------------------------------------------------------------------------

history_holds : (known : Knowledge) (p : PartialPicture) (copies over : List SourcedCopy) → Collected known p copies over
    → AreAmong IsSameCopy (copies_of over) (copies_of copies) → HoldsExactly p (copies_of copies)
history_holds known p copies over collected among =
    let h = after_calls known p copies over collected in
    record {
      are_copies = are_of_shape p.shape copies h.shapes;
      readings = λ r. (
        λ x. to_bytes copies r ((exactly h r).0 x),
        λ g. (exactly h r).1 (of_bytes copies r g),
      );
    }
  where
    exactly : After p copies over → (r : Reading) → (is_read p r ≡ true) ↔ GivenBy GivesOwn is_read union_read copies r
    exactly h = in_the_end GivesOwn is_read union_read p copies over h.readings
        (λ r g. of_bytes copies r (among_gives (copies_of over) (copies_of copies) r among (to_bytes over r g)))

pub collected_holds : CollectedHoldsExactly
collected_holds p copies (over, collected, among) = history_holds of_readings p copies over collected among

pub collected_holds_under : CollectedHoldsExactlyUnder
collected_holds_under p copies (over, collected, among) = record {
  readings = history_holds of_sources p copies over collected (among_aside over copies among);
  sources = λ r source. in_the_end GivesMark is_marked union_marked p copies over (marked_calls p copies over collected)
      (among_mark over copies among) (r, source);
}

-- Histories that begin from what is known --------------------------------------------------------------------------

pub known_from : (p : PartialPicture) (copies : List SourcedCopy) → HoldsExactly p (copies_of copies) → CollectedFrom p copies
known_from p copies h = ([], is_known p copies h, λ copy c. absurd (none_in copy c))

pub known_under : (p : PartialPicture) (copies : List SourcedCopy) → HoldsExactlyUnder p copies → CollectedUnder p copies
known_under p copies h = ([], is_known p copies h, λ copy c. absurd (none_in copy c))

-- where the sources are known, so are the readings
pub collected_aside : (p : PartialPicture) (copies : List SourcedCopy) → CollectedUnder p copies → CollectedFrom p copies
collected_aside p copies h = known_from p copies (collected_holds_under p copies h).readings
