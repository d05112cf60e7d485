-- What a run of `join` joins was collected from the copies that its inputs stand for.
use Rattle.std.proofs.Common.{◌≡◌, ℕ, true, false, List, [], ◌∷◌, ◌++◌, Option, refl, sym, ap, ◌∙◌, subst, append_assoc, inl, inr}
use Rattle.std.proofs.lemmas.List.{append-nil, map-append}
use Rattle.std.proofs.lemmas.List.Elements.{Contains-append_left, Contains-append_right, Contains-append_cases}
use Rattle.jls_values.specs.Join.{join_all, AllOfShape}
use Rattle.jls_values.specs.SameShape.{same_shape}
use Rattle.jls_values.specs.Shape.{PictureShape}
use Rattle.jls_partial.specs.Partial.{PartialPicture, union, has_same_shape}
use Rattle.jls_partial.specs.PartialLaws.{one_shape, shape_itself}
use Rattle.jls_partial.specs.Text.{IsTextOf}
use Rattle.jls_station.specs.Given.{Given, Gives, by_text, by_copy, GivesPartial}
use Rattle.jls_marker.specs.SegmentLaws.{AreBytes}
use Rattle.jls_station.specs.Texts.{is_text}
use Rattle.jls_salvage_run.specs.AllInputs.{partials, AreOfOneShape, IsUnionOf}
use Rattle.jls_salvage_run.specs.CommandLaws.{input_bytes}
use Rattle.jls_salvage_run.proofs.InputBytes.{AreGiven, inputs_of_join}
use Rattle.jls_copy_laws.proofs.Members.{none_in}
use Rattle.jls_headline.specs.Stations.{HoldsExactly, AreAmong, IsSameCopy}
use Rattle.jls_headline.specs.Sources.{SourcedCopy, sourced_copy, copies_of, IsSameUnder}
use Rattle.jls_headline.specs.Collected.{Knowledge, of_readings, of_sources, Collected, reader_finished, text_back, partial_taken, CollectedFrom, CollectedUnder}
use Rattle.jls_run_laws.specs.RunLaws.{DoneJoin, InputsStand, InputStandsFor, InputStandsUnder, RunsAreCollected, RunsAreCollectedUnder}
use Rattle.jls_station.proofs.TextsApart.{no_text}
use Rattle.jls_headline.proofs.Collected.{collected_holds, collected_aside}
use Rattle.jls_headline.proofs.SourcedStations.{among_aside}

-- All inputs -----------------------------------------------------------------------------------------------------

pub all_of_shape : (p q : PartialPicture) → p.shape ≡ q.shape → (xs : List PartialPicture) → AllOfShape has_same_shape p xs
    → AllOfShape has_same_shape q xs
all_of_shape p q e [] h = tt
all_of_shape p q e (x ∷ xs) h = (subst (λ (s : PictureShape). same_shape s x.shape ≡ true) e h.0, all_of_shape p q e xs h.1)

-- what is said of each input is said of their union
module _ {C : Type 0} (Exactly : PartialPicture → List C → Type 0) (StandsFor : List ℕ → List C → Type 0) (source : Option ℕ)
    (union_exactly : (p q : PartialPicture) (copies more : List C) → Exactly p copies → Exactly q more → q.shape ≡ p.shape
    → Exactly (union p q) (copies ++ more))
    (given_exactly : (bytes : List ℕ) (p : PartialPicture) (copies : List C) → AreBytes bytes → GivesPartial source bytes p
    → StandsFor bytes copies → Exactly p copies) where
  joined_holds : (p : PartialPicture) (ps : List PartialPicture) (copies : List C) (inputs : List (List ℕ)) (more : List C)
      → Exactly p copies → AreGiven source inputs ps → InputsStand StandsFor inputs more → AllOfShape has_same_shape p ps
      → Exactly (join_all union p ps) (copies ++ more)
  joined_holds p [] copies [] more h given e shapes =
      subst (λ xs. Exactly p (copies ++ xs)) (sym e) (subst (Exactly p) (sym (append-nil copies)) h)
  joined_holds p [] copies (bytes ∷ inputs) more h given stand shapes = absurd given
  joined_holds p (q ∷ qs) copies [] more h given stand shapes = absurd given
  joined_holds p (q ∷ qs) copies (bytes ∷ inputs) more h given (mine, rest, e, one, others) shapes =
      let k = given_exactly bytes q mine given.0 given.1 one in
      let both = union_exactly p q copies mine h k (sym (one_shape p.shape q.shape shapes.0)) in
      subst (Exactly (join_all union (union p q) qs)) (append_assoc copies mine rest ∙ ap (λ xs. copies ++ xs) (sym e))
      (joined_holds (union p q) qs (copies ++ mine) inputs rest both given.2 others (all_of_shape p (union p q) refl qs shapes.1))

  pub union_of_inputs : (ps : List PartialPicture) (joined : PartialPicture) (inputs : List (List ℕ)) (copies : List C)
      → AreGiven source inputs ps → InputsStand StandsFor inputs copies → AreOfOneShape ps → IsUnionOf ps joined → Exactly joined copies
  union_of_inputs [] joined inputs copies given stand shapes u = absurd u
  union_of_inputs (p ∷ ps) joined [] copies given stand shapes u = absurd given
  union_of_inputs (p ∷ ps) joined (bytes ∷ inputs) copies given (mine, rest, e, one, others) shapes u =
      let h = joined_holds p ps mine inputs rest (given_exactly bytes p mine given.0 given.1 one) given.2 others shapes in
      subst (λ x. Exactly x copies) (sym u) (subst (Exactly (join_all union p ps)) (sym e) h)

-- Histories ------------------------------------------------------------------------------------------------------

among_append : {C : Type 0} (IsSame : C → C → Type 0) (over further copies more : List C) → AreAmong IsSame over copies
    → AreAmong IsSame further more → AreAmong IsSame (over ++ further) (copies ++ more)
among_append IsSame over further copies more h k copy c =
    elim (Contains-append_cases over further copy c) [
      | inl x ↦ (let m = h copy x in (m.0, Contains-append_left copies more m.0 m.1, m.2))
      | inr y ↦ (let m = k copy y in (m.0, Contains-append_right copies more m.0 m.1, m.2))
    ]

joined_collected : (known : Knowledge) (p q : PartialPicture) (copies over more further : List SourcedCopy) → Collected known p copies over
    → Collected known q more further → q.shape ≡ p.shape → Collected known (union p q) (copies ++ more) (over ++ further)
joined_collected known p q copies over more further g k shape =
    let same : has_same_shape p q ≡ true = subst (λ (s : PictureShape). same_shape p.shape s ≡ true) (sym shape) (shape_itself p.shape) in
    partial_taken p (union p q) q copies over more further g k same refl

abbrev bytes_of : SourcedCopy → List ℕ
bytes_of copy = copy.bytes

pub union_from : (p q : PartialPicture) (copies more : List SourcedCopy) → CollectedFrom p copies → CollectedFrom q more → q.shape ≡ p.shape
    → CollectedFrom (union p q) (copies ++ more)
union_from p q copies more (over, g, among) (further, k, among') shape = (
  over ++ further,
  joined_collected of_readings p q copies over more further g k shape,
  subst (λ xs. AreAmong IsSameCopy xs (copies_of (copies ++ more))) (sym (map-append bytes_of over further))
      (subst (AreAmong IsSameCopy (copies_of over ++ copies_of further)) (sym (map-append bytes_of copies more))
      (among_append IsSameCopy (copies_of over) (copies_of further) (copies_of copies) (copies_of more) among among')),
)

pub union_under : (p q : PartialPicture) (copies more : List SourcedCopy) → CollectedUnder p copies → CollectedUnder q more
    → q.shape ≡ p.shape → CollectedUnder (union p q) (copies ++ more)
union_under p q copies more (over, g, among) (further, k, among') shape = (
  over ++ further,
  joined_collected of_sources p q copies over more further g k shape,
  among_append IsSameUnder over further copies more among among',
)

-- a copy that was read whole
pub copy_under : (source : Option ℕ) (bytes : List ℕ) (p : PartialPicture) → AreBytes bytes → is_text bytes ≡ false
    → GivesPartial source bytes p → CollectedUnder p (sourced_copy source bytes ∷ [])
copy_under source bytes p low none (g, gives, e) = by g gives e
  where
    by : (g : Given) → Gives source bytes g → g.partial ≡ p → CollectedUnder p (sourced_copy source bytes ∷ [])
    by _ (by_text _ _ q is) e = no_text bytes none (ap is_text is.bytes_are)
    by _ (by_copy _ _ read stop copied reads) e =
        ([], reader_finished source bytes read p low reads (sym e), λ copy c. absurd (none_in copy c))

pub given_holds : (source : Option ℕ) (bytes : List ℕ) (p : PartialPicture) → AreBytes bytes → is_text bytes ≡ false
    → GivesPartial source bytes p → HoldsExactly p (bytes ∷ [])
given_holds source bytes p low none given =
    let copies = sourced_copy source bytes ∷ [] in
    collected_holds p copies (collected_aside p copies (copy_under source bytes p low none given))

-- what an input gives that is the text of something collected
text_given : (known : Knowledge) (source : Option ℕ) (bytes : List ℕ) (p q : PartialPicture) (copies over : List SourcedCopy)
    → Collected known q copies over → IsTextOf bytes q → GivesPartial source bytes p → Collected known p copies over
text_given known source bytes p q copies over collected is (g, gives, e) = by g gives e
  where
    by : (g : Given) → Gives source bytes g → g.partial ≡ p → Collected known p copies over
    by _ (by_text _ _ q' is') e = text_back q p copies over bytes collected is (subst (IsTextOf bytes) e is')
    by _ (by_copy _ _ read stop copied reads) e = no_text bytes copied (ap is_text is.bytes_are)

given_from : (source : Option ℕ) (bytes : List ℕ) (p : PartialPicture) (copies : List SourcedCopy) → AreBytes bytes
    → GivesPartial source bytes p → InputStandsFor source bytes copies → CollectedFrom p copies
given_from source bytes p copies low given (inl (none, is)) =
    subst (CollectedFrom p) (sym is) (collected_aside p (sourced_copy source bytes ∷ []) (copy_under source bytes p low none given))
given_from source bytes p copies low given (inr (q, is, (over, collected, among))) =
    (over, text_given of_readings source bytes p q copies over collected is given, among)

given_under : (source : Option ℕ) (bytes : List ℕ) (p : PartialPicture) (copies : List SourcedCopy) → AreBytes bytes
    → GivesPartial source bytes p → InputStandsUnder source bytes copies → CollectedUnder p copies
given_under source bytes p copies low given (inl (none, is)) = subst (CollectedUnder p) (sym is) (copy_under source bytes p low none given)
given_under source bytes p copies low given (inr (q, is, (over, collected, among))) =
    (over, text_given of_sources source bytes p q copies over collected is given, among)

-- the inputs of a run, with what each gave
pub given_in : (run : DoneJoin) → AreGiven run.source (input_bytes run.events) (partials run.is_done.taken.givens)
given_in run = inputs_of_join run.source run.out run.names run.joined run.settled run.whole run.events run.is_done

pub runs_are_collected : RunsAreCollected
runs_are_collected run copies stand =
    union_of_inputs CollectedFrom (InputStandsFor run.source) run.source union_from (given_from run.source)
    (partials run.is_done.taken.givens) run.joined (input_bytes run.events) copies (given_in run) stand run.is_done.taken.taken.one_shape
    run.is_done.taken.union_is

pub runs_are_collected_under : RunsAreCollectedUnder
runs_are_collected_under run copies stand =
    union_of_inputs CollectedUnder (InputStandsUnder run.source) run.source union_under (given_under run.source)
    (partials run.is_done.taken.givens) run.joined (input_bytes run.events) copies (given_in run) stand run.is_done.taken.taken.one_shape
    run.is_done.taken.union_is
