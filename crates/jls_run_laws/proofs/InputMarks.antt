-- The sources in what is joined of texts and copies.
use Rattle.std.proofs.Common.{◌≡◌, ℕ, ◌<◌, ◌^◌, true, List, [], ◌∷◌, Option, Some, sym, ap, ◌∙◌, subst, inl, inr}
use Rattle.std.specs.List.{Contains}
use Rattle.std.proofs.lemmas.Bool.{or_left, or_right}
use Rattle.jls_values.specs.OrderedSet as set
use Rattle.jls_values.specs.OrderedSetLaws.{contains-union}
use Rattle.jls_values.specs.Join.{join_all}
use Rattle.jls_values.proofs.Tests.{either}
use Rattle.jls_partial.specs.Reading.{Reading}
use Rattle.jls_partial.specs.ReadingOrder.{reading_total, marks_total}
use Rattle.jls_partial.specs.Partial.{PartialPicture, union}
use Rattle.jls_station.specs.Given.{Given, Gives, by_text, by_copy, GivesPartial}
use Rattle.jls_marker.specs.SegmentLaws.{AreBytes}
use Rattle.jls_salvage_run.specs.AllInputs.{IsUnionOf}
use Rattle.jls_salvage_run.proofs.InputBytes.{AreGiven}
use Rattle.jls_copy_laws.specs.Gives.{GivesReading}
use Rattle.jls_headline.specs.Sources.{SourcedCopy}
use Rattle.jls_headline.specs.Sources.{sourced_copy}
use Rattle.jls_copy_laws.proofs.Members.{is_first, none_in, first_or_rest}
use Rattle.jls_headline.proofs.SourcedStations.{copy_holds_under}

-- each source is of a reading that is held, and has 32 bits
abbrev pub AreMarksSmall : PartialPicture → Type 0
AreMarksSmall p = (r : Reading) (source : ℕ) → set.contains p.marks (r, source) ≡ true
    → (set.contains p.readings r ≡ true) × (source < 2 ^ 32)

union_small : (p q : PartialPicture) → AreMarksSmall p → AreMarksSmall q → AreMarksSmall (union p q)
union_small p q h k r source m =
    either ((set.contains (union p q).readings r ≡ true) × (source < 2 ^ 32)) (set.contains p.marks (r, source))
    (set.contains q.marks (r, source))
    (λ e. let t = h r source e in
    (contains-union reading_total p.readings q.readings r ∙ or_left (set.contains p.readings r) (set.contains q.readings r) t.0, t.1))
    (λ e. let t = k r source e in
    (contains-union reading_total p.readings q.readings r ∙ or_right (set.contains p.readings r) (set.contains q.readings r) t.0, t.1))
    (sym (contains-union marks_total p.marks q.marks (r, source)) ∙ m)

module _ (source : Option ℕ) (small : (number : ℕ) → source ≡ Some number → number < 2 ^ 32) where
  given_small : (bytes : List ℕ) (p : PartialPicture) → AreBytes bytes → GivesPartial source bytes p → AreMarksSmall p
  given_small bytes p low (g, gives, e) = subst AreMarksSmall e (by g gives)
    where
      by : (g : Given) → Gives source bytes g → AreMarksSmall g.partial
      by _ (by_text _ _ q is) r number m = (is.partial.marks_held r number m, is.partial.sources_small r number m)
      by _ (by_copy _ _ read stop copied reads) r number m =
          let h = copy_holds_under (sourced_copy source bytes) read low reads in
          let from = (h.sources r number).0 m in
          let own : sourced_copy source bytes ≡ from.0 = only from.0 from.1 in (
            (h.readings.readings r).1 (bytes, is_first bytes [], subst (λ (c : SourcedCopy). GivesReading c.bytes r) (sym own) from.2.1),
            small number (ap (λ (c : SourcedCopy). c.source) own ∙ from.2.0),
          )
        where
          only : (x : SourcedCopy) → Contains (sourced_copy source bytes ∷ []) x → sourced_copy source bytes ≡ x
          only x c = elim (first_or_rest x (sourced_copy source bytes) [] c) [ inl e ↦ e | inr later ↦ absurd (none_in x later) ]

  all_small : (p : PartialPicture) (ps : List PartialPicture) (inputs : List (List ℕ)) → AreMarksSmall p → AreGiven source inputs ps
      → AreMarksSmall (join_all union p ps)
  all_small p [] inputs h given = h
  all_small p (q ∷ qs) [] h given = absurd given
  all_small p (q ∷ qs) (bytes ∷ inputs) h given =
      all_small (union p q) qs inputs (union_small p q h (given_small bytes q given.0 given.1)) given.2

  pub marks_of_inputs : (ps : List PartialPicture) (joined : PartialPicture) (inputs : List (List ℕ)) → AreGiven source inputs ps
      → IsUnionOf ps joined → AreMarksSmall joined
  marks_of_inputs [] joined inputs given u = absurd u
  marks_of_inputs (p ∷ ps) joined [] given u = absurd given
  marks_of_inputs (p ∷ ps) joined (bytes ∷ inputs) given u =
      subst AreMarksSmall (sym u) (all_small p ps inputs (given_small bytes p given.0 given.1) given.2)
