-- A station that took copies under sources holds exactly their readings, each under exactly the sources of the copies that give it.
use Rattle.std.proofs.Common.{◌≡◌, ℕ, ◌<◌, true, false, Bool, List, [], ◌∷◌, map, Option, Some, None, sym, ap, ◌∙◌, subst}
use Rattle.std.specs.Prelude.{◌||◌, ◌↔◌}
use Rattle.std.specs.List.{AllByRecursion, Contains}
use Rattle.std.specs.Cmp.{both_ways}
use Rattle.jls_values.specs.OrderedSet as set
use Rattle.jls_values.specs.OrderedSetLaws.{contains-union, contains-empty, same_set}
use Rattle.jls_partial.specs.Marks.{mark_cmp}
use Rattle.jls_partial.specs.Reading.{Reading, reading_cmp}
use Rattle.jls_partial.specs.ReadingOrder.{reading_total, reading_exact, marks_total, marks_exact}
use Rattle.jls_partial.specs.Partial.{PartialPicture, union}
use Rattle.jls_copy.specs.CopyReads.{CopyReads}
use Rattle.jls_copy.specs.ReadCopy.{ReadCopy}
use Rattle.jls_station.specs.Given.{marked}
use Rattle.jls_station.proofs.Marked.{marked_shape, marked_readings}
use Rattle.jls_copy_laws.specs.Gives.{GivesReading}
use Rattle.jls_headline.specs.Stations.{IsSameCopy, AreAmong}
use Rattle.jls_headline.specs.Sources.{SourcedCopy, copies_of, GivesUnder, HoldsExactlyUnder, IsSameUnder}
use Rattle.jls_copy_laws.proofs.Members.{in_map, of_map}
use Rattle.jls_headline.proofs.Held.{set_of_list_holds, set_holds_items}
use Rattle.jls_headline.proofs.CopyGives.{copy_gives}
use Rattle.jls_headline.proofs.SameCopies.{same_copy_gives}
use Rattle.jls_headline.proofs.Stations.{copy_holds, same_readings}
use Rattle.jls_headline.proofs.Unions.{GivenBy, one_exactly}

-- What one copy gives --------------------------------------------------------------------------------------------

-- a reading with one source
abbrev pub Mark : Type 0
Mark = Reading × ℕ

-- a copy gives a reading under its source
abbrev pub GivesMark : SourcedCopy → Mark → Type 0
GivesMark copy m = GivesUnder copy m.0 m.1

abbrev pub is_marked : PartialPicture → Mark → Bool
is_marked p m = set.contains p.marks m

pub union_marked : (p q : PartialPicture) (m : Mark) → is_marked (union p q) m ≡ (is_marked p m || is_marked q m)
union_marked p q m = contains-union marks_total p.marks q.marks m

abbrev with_number : ℕ → Reading → Mark
with_number source r = (r, source)

-- the marks of readings under one source
marks_of_readings : (source : ℕ) (rs : set.OrderedSet reading_cmp) (m : Mark)
    → (set.contains (set.insert_all {R = mark_cmp reading_cmp} set.empty (map (with_number source) (set.items rs))) m ≡ true)
    ↔ ((source ≡ m.1) × (set.contains rs m.0 ≡ true))
marks_of_readings source rs m = (there, back)
  where
    reported : (set.contains (set.insert_all {R = mark_cmp reading_cmp} set.empty (map (with_number source) (set.items rs))) m ≡ true)
        ↔ Contains (map (with_number source) (set.items rs)) m
    reported = set_of_list_holds marks_total marks_exact (map (with_number source) (set.items rs)) m

    there : set.contains (set.insert_all {R = mark_cmp reading_cmp} set.empty (map (with_number source) (set.items rs))) m ≡ true
        → (source ≡ m.1) × (set.contains rs m.0 ≡ true)
    there h =
        let from = of_map (with_number source) (set.items rs) m (reported.0 h) in (
          ap (λ (x : Mark). x.1) from.2,
          subst (λ (r : Reading). set.contains rs r ≡ true) (ap (λ (x : Mark). x.0) from.2)
              ((set_holds_items reading_total reading_exact rs from.0).1 from.1),
        )

    back : (source ≡ m.1) × (set.contains rs m.0 ≡ true)
        → set.contains (set.insert_all {R = mark_cmp reading_cmp} set.empty (map (with_number source) (set.items rs))) m ≡ true
    back (e, h) =
        reported.1 (subst (λ (n : ℕ). Contains (map (with_number source) (set.items rs)) (m.0, n)) e
        (in_map (with_number source) (set.items rs) m.0 ((set_holds_items reading_total reading_exact rs m.0).0 h)))

-- marks, with those of readings under this source
abbrev MarkSet : Type 0
MarkSet = set.OrderedSet (mark_cmp reading_cmp)

abbrev with_those : ℕ → set.OrderedSet reading_cmp → MarkSet → MarkSet
with_those source rs marks = set.insert_all marks (map (with_number source) (set.items rs))

-- what has readings and no source of its own, with this source
module _ (p : PartialPicture) (unmarked : p.marks ≡ set.empty) (Gives : Reading → Type 0)
    (gives : (r : Reading) → (set.contains p.readings r ≡ true) ↔ Gives r) where
  pub marks_given : (source : Option ℕ) (m : Mark) → (is_marked (marked source p) m ≡ true) ↔ ((source ≡ Some m.1) × Gives m.0)
  marks_given None m = (
    λ h.
        (let none : false ≡ true = sym (contains-empty (mark_cmp reading_cmp) m)
        ∙ subst (λ (ms : set.OrderedSet (mark_cmp reading_cmp)). set.contains ms m ≡ true) unmarked h in absurd cc),
    λ g. (let none = g.0 in absurd cc),
  )
  marks_given (Some source) m = (there, back)
    where
      there : set.contains (with_those source p.readings p.marks) m ≡ true → (Some source ≡ Some m.1) × Gives m.0
      there h =
          let own = subst (λ ms. set.contains (with_those source p.readings ms) m ≡ true) unmarked h in
          let t = (marks_of_readings source p.readings m).0 own in
          (ap (λ (n : ℕ). Some n) t.0, (gives m.0).0 t.1)

      back : (Some source ≡ Some m.1) × Gives m.0 → set.contains (with_those source p.readings p.marks) m ≡ true
      back (e, g) =
          let same : source ≡ m.1 = cc in
          subst (λ ms. set.contains (with_those source p.readings ms) m ≡ true) (sym unmarked)
          ((marks_of_readings source p.readings m).1 (same, (gives m.0).1 g))

marks_of_copy : (source : Option ℕ) (bytes : List ℕ) (read : ReadCopy) → AllByRecursion (λ b. b < 256) bytes → CopyReads bytes read
    → (m : Mark) → (is_marked (marked source read.partial) m ≡ true) ↔ ((source ≡ Some m.1) × GivesReading bytes m.0)
marks_of_copy source bytes read low reads m =
    marks_given read.partial (ap (λ (p : PartialPicture). p.marks) reads.partial_is) (GivesReading bytes) (copy_gives bytes low read reads)
    source m

pub copy_holds_under : (copy : SourcedCopy) (read : ReadCopy) → AllByRecursion (λ b. b < 256) copy.bytes → CopyReads copy.bytes read
    → HoldsExactlyUnder (marked copy.source read.partial) (copy ∷ [])
copy_holds_under copy read low reads = record {
  readings = copy_holds (marked copy.source read.partial) copy.bytes read low reads
      (marked_shape copy.source read.partial) (marked_readings copy.source read.partial);
  sources = λ r source. one_exactly GivesMark is_marked union_marked (marked copy.source read.partial) copy
      (marks_of_copy copy.source copy.bytes read low reads) (r, source);
}

-- The same copies ----------------------------------------------------------------------------------------------

pub among_aside : (copies others : List SourcedCopy) → AreAmong IsSameUnder copies others
    → AreAmong IsSameCopy (copies_of copies) (copies_of others)
among_aside copies others among bytes c =
    let from = of_map (λ (copy : SourcedCopy). copy.bytes) copies bytes c in
    let there = among from.0 from.1 in (
      there.0.bytes,
      in_map (λ (copy : SourcedCopy). copy.bytes) others there.0 there.1,
      subst (λ x. IsSameCopy x there.0.bytes) from.2 there.2.1,
    )

-- what copies give under sources, the same copies give under the same
pub among_mark : (copies others : List SourcedCopy) → AreAmong IsSameUnder copies others → (m : Mark)
    → GivenBy GivesMark is_marked union_marked copies m → GivenBy GivesMark is_marked union_marked others m
among_mark copies others among m (copy, c, g) =
    let there = among copy c in
    (there.0, there.1, (sym there.2.0 ∙ g.0, same_copy_gives copy.bytes there.0.bytes m.0 there.2.1 g.1))

-- two of one shape that hold exactly what the same copies give under the same sources are one
pub same_under : (station other : PartialPicture) (copies others : List SourcedCopy) → HoldsExactlyUnder station copies
    → HoldsExactlyUnder other others
    → station.shape ≡ other.shape → AreAmong IsSameUnder copies others → AreAmong IsSameUnder others copies → station ≡ other
same_under station other copies others h k shape among back =
    let readings = same_readings station other (copies_of copies) (copies_of others) h.readings k.readings (among_aside copies others among)
    (among_aside others copies back) in
    let marks = same_set marks_total marks_exact station.marks other.marks (λ m. both_ways (is_marked station m) (is_marked other m)
    (λ x. (k.sources m.0 m.1).1 (among_mark copies others among m ((h.sources m.0 m.1).0 x)))
    (λ x. (h.sources m.0 m.1).1 (among_mark others copies back m ((k.sources m.0 m.1).0 x)))) in
    λ i. record { shape = shape i; readings = readings i; marks = marks i }
