-- What is marked later, or given a reading again that it holds, is known to hold the readings of the same copies.
use Rattle.std.proofs.Common.{◌≡◌, ℕ, true, false, List, [], ◌∷◌, ◌++◌, map, Some, sym, ap, ◌∙◌, subst, inl, inr}
use Rattle.std.specs.List.{Contains, list_any}
use Rattle.std.specs.Cmp.{both_ways}
use Rattle.std.specs.Ordering.{eq_by_cmp}
use Rattle.std.proofs.lemmas.Bool.{or_left, or_right}
use Rattle.std.proofs.lemmas.List.Elements.{Contains-append_left, Contains-append_right, Contains-append_cases}
use Rattle.jls_values.specs.OrderedSet as set
use Rattle.jls_values.specs.OrderedSetLaws.{contains-insert, contains-insert_all, same_set}
use Rattle.jls_values.specs.Shape.{PictureShape}
use Rattle.jls_values.proofs.Tests.{either}
use Rattle.jls_partial.specs.Marks.{mark_cmp}
use Rattle.jls_partial.specs.Reading.{Reading, reading_cmp, reading_of}
use Rattle.jls_partial.specs.ReadingOrder.{reading_total, reading_exact, marks_total, marks_exact}
use Rattle.jls_partial.specs.Partial.{PartialPicture, with_reading, with_source}
use Rattle.jls_partial.proofs.HeldItems.{any_of_item, item_of_any}
use Rattle.jls_copy_laws.specs.Gives.{GivesReading}
use Rattle.jls_copy_laws.proofs.Members.{in_map, of_map, all_append, only_member}
use Rattle.jls_headline.specs.Stations.{ReadingsOf, HoldsExactly}
use Rattle.jls_headline.specs.Sources.{SourcedCopy, sourced_copy, copies_of, SourcesOf, HoldsExactlyUnder}
use Rattle.jls_headline.specs.Collected.{CollectedFrom, CollectedUnder}
use Rattle.jls_headline.specs.CollectedLaws.{read_again, MarksKeepTheCopies, MarksReadAgain, InsertsKeepTheCopies}
use Rattle.jls_headline.proofs.Held.{set_holds_items}
use Rattle.jls_headline.proofs.Stations.{is_read}
use Rattle.jls_headline.proofs.SourcedStations.{Mark, is_marked}
use Rattle.jls_headline.proofs.Collected.{AllOfOneShape, of_one_shape, are_of_shape, collected_holds, collected_holds_under}
use Rattle.jls_headline.proofs.Collected.{known_from, known_under}

-- A later mark ---------------------------------------------------------------------------------------------------

holds_marked : (p : PartialPicture) (copies : List SourcedCopy) (source : ℕ) → HoldsExactly p (copies_of copies)
    → HoldsExactly (with_source p source) (copies_of copies)
holds_marked p copies source h = record { are_copies = h.are_copies; readings = h.readings }

pub marked_later_from : MarksKeepTheCopies
marked_later_from p copies source h =
    known_from (with_source p source) copies (holds_marked p copies source (collected_holds p copies h))

abbrev again : ℕ → SourcedCopy → SourcedCopy
again source copy = sourced_copy (Some source) copy.bytes

again_of_shape : (shape : PictureShape) (source : ℕ) (copies : List SourcedCopy) → AllOfOneShape shape copies
    → AllOfOneShape shape (read_again source copies)
again_of_shape shape source [] h = tt
again_of_shape shape source (copy ∷ copies) h = (h.0, again_of_shape shape source copies h.1)

abbrev marks_at : PartialPicture → ℕ → List Mark
marks_at p source = map (λ r. (r, source)) (set.items p.readings)

-- the copy of a reading, among these
module _ (p : PartialPicture) (copies : List SourcedCopy) (source : ℕ) (h : HoldsExactlyUnder p copies) where
  abbrev all : List SourcedCopy
  all = copies ++ read_again source copies

  own : (r : Reading) → is_read p r ≡ true → (copy : SourcedCopy) × Contains copies copy × GivesReading copy.bytes r
  own r x =
      let given = (h.readings.readings r).0 x in
      let from = of_map (λ (copy : SourcedCopy). copy.bytes) copies given.0 given.1 in
      (from.0, from.1, subst (λ bytes. GivesReading bytes r) (sym from.2) given.2)

  read_of : (r : Reading) (copy : SourcedCopy) → Contains copies copy → GivesReading copy.bytes r → is_read p r ≡ true
  read_of r copy c g = (h.readings.readings r).1 (copy.bytes, in_map (λ (copy : SourcedCopy). copy.bytes) copies copy c, g)

  gives_read : (r : Reading) → ReadingsOf (copies_of all) r → is_read p r ≡ true
  gives_read r (bytes, c, g) =
      let from = of_map (λ (copy : SourcedCopy). copy.bytes) all bytes c in
      let given : GivesReading from.0.bytes r = subst (λ x. GivesReading x r) (sym from.2) g in
      elim (Contains-append_cases copies (read_again source copies) from.0 from.1) [
        | inl here ↦ read_of r from.0 here given
        | inr there ↦ (
            let first = of_map (again source) copies from.0 there in
            read_of r first.0 first.1 (subst (λ (copy : SourcedCopy). GivesReading copy.bytes r) (sym first.2) given))
      ]

  read_gives : (r : Reading) → is_read p r ≡ true → ReadingsOf (copies_of all) r
  read_gives r x =
      let from = own r x in (
        from.0.bytes,
        in_map (λ (copy : SourcedCopy). copy.bytes) all from.0
            (Contains-append_left copies (read_again source copies) from.0 from.1),
        from.2,
      )

  sources_there : (r : Reading) (s : ℕ) → is_marked (with_source p source) (r, s) ≡ true → SourcesOf all r s
  sources_there r s x =
      either (SourcesOf all r s) (is_marked p (r, s)) (list_any (eq_by_cmp (mark_cmp reading_cmp) (r, s)) (marks_at p source))
      old new
      (sym (contains-insert_all marks_total p.marks (marks_at p source) (r, s)) ∙ x)
    where
      old : is_marked p (r, s) ≡ true → SourcesOf all r s
      old m =
          let from = (h.sources r s).0 m in
          (from.0, Contains-append_left copies (read_again source copies) from.0 from.1, from.2)

      new : list_any (eq_by_cmp (mark_cmp reading_cmp) (r, s)) (marks_at p source) ≡ true → SourcesOf all r s
      new m =
          let held = of_map (λ (q : Reading). (q, source)) (set.items p.readings) (r, s)
          (item_of_any marks_total marks_exact (marks_at p source) (r, s) m) in
          let is : held.0 ≡ r = ap (λ (x : Mark). x.0) held.2 in
          let from = own r (subst (λ q. is_read p q ≡ true) is
          ((set_holds_items reading_total reading_exact p.readings held.0).1 held.1)) in (
            again source from.0,
            Contains-append_right copies (read_again source copies) (again source from.0)
                (in_map (again source) copies from.0 from.1),
            (ap (λ (x : Mark). Some x.1) held.2, from.2),
          )

  sources_back : (r : Reading) (s : ℕ) → SourcesOf all r s → is_marked (with_source p source) (r, s) ≡ true
  sources_back r s (copy, c, (e, g)) =
      contains-insert_all marks_total p.marks (marks_at p source) (r, s)
      ∙ elim (Contains-append_cases copies (read_again source copies) copy c) [
        | inl here ↦ or_left (is_marked p (r, s)) (list_any (eq_by_cmp (mark_cmp reading_cmp) (r, s)) (marks_at p source))
            ((h.sources r s).1 (copy, here, (e, g)))
        | inr there ↦ (
            let first = of_map (again source) copies copy there in
            let same : Some source ≡ Some s = ap (λ (x : SourcedCopy). x.source) first.2 ∙ e in
            let number : source ≡ s = cc in
            let held = read_of r first.0 first.1 (subst (λ (x : SourcedCopy). GivesReading x.bytes r) (sym first.2) g) in
            or_right (is_marked p (r, s)) (list_any (eq_by_cmp (mark_cmp reading_cmp) (r, s)) (marks_at p source))
            (any_of_item marks_total marks_exact (marks_at p source) (r, s)
            (subst (λ n. Contains (marks_at p source) (r, n)) number
            (in_map (λ (q : Reading). (q, source)) (set.items p.readings) r
            ((set_holds_items reading_total reading_exact p.readings r).0 held)))))
      ]

  marked_under : HoldsExactlyUnder (with_source p source) all
  marked_under = record {
    readings = record {
      are_copies = are_of_shape p.shape all
          (all_append _ copies (read_again source copies) (of_one_shape p.shape copies h.readings.are_copies)
          (again_of_shape p.shape source copies (of_one_shape p.shape copies h.readings.are_copies)));
      readings = λ r. (read_gives r, gives_read r);
    };
    sources = λ r s. (sources_there r s, sources_back r s);
  }

pub marked_later_under : MarksReadAgain
marked_later_under p copies source h =
    known_under (with_source p source) (copies ++ read_again source copies) (marked_under p copies source (collected_holds_under p copies h))

-- A reading that is held -----------------------------------------------------------------------------------------

same_reading : (r q : Reading) → eq_by_cmp reading_cmp q r ≡ true → r ≡ q
same_reading r q e =
    only_member q r (item_of_any reading_total reading_exact (r ∷ []) q (or_left (eq_by_cmp reading_cmp q r) false e))

inserted_again : (s : set.OrderedSet reading_cmp) (r : Reading) → set.contains s r ≡ true → set.insert s r ≡ s
inserted_again s r held = same_set reading_total reading_exact (set.insert s r) s (λ q. both_ways (set.contains (set.insert s r) q)
    (set.contains s q)
    (λ h. either (set.contains s q ≡ true) (eq_by_cmp reading_cmp q r) (set.contains s q)
    (λ e. subst (λ x. set.contains s x ≡ true) (same_reading r q e) held) (λ x. x) (sym (contains-insert reading_total s r q) ∙ h))
    (λ h. contains-insert reading_total s r q ∙ or_right (eq_by_cmp reading_cmp q r) (set.contains s q) h))

with_it_again : (p : PartialPicture) (component line : ℕ) (samples : List ℕ) → is_read p (reading_of component line samples) ≡ true
    → with_reading p component line samples ≡ p
with_it_again p component line samples held =
    let e = inserted_again p.readings (reading_of component line samples) held in
    λ i. record { shape = p.shape; readings = e i; marks = p.marks }

pub inserts_keep : InsertsKeepTheCopies
inserts_keep p copies component line samples given = (
  λ h. subst (λ (q : PartialPicture). CollectedFrom q copies)
      (sym (with_it_again p component line samples (((collected_holds p copies h).readings (reading_of component line samples)).1 given))) h,
  λ h. subst (λ (q : PartialPicture). CollectedUnder q copies)
      (sym (with_it_again p component line samples
      (((collected_holds_under p copies h).readings.readings (reading_of component line samples)).1 given))) h,
)
