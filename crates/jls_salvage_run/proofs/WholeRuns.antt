-- What whole runs of `join` hand out.
use Rattle.std.proofs.Common.{◌≡◌, ℕ, zero, suc, List, [], ◌∷◌, Option, refl, sym, ap, ◌∙◌, subst, arith}
use Rattle.std.specs.Prelude.{◌↔◌, Contains, All}
use Rattle.jls_values.specs.Join.{join_all, AllOfShape}
use Rattle.jls_partial.specs.Parts.{IsPartOf, EachLineIsHeld, PartsGiveThePicture, sourced}
use Rattle.jls_partial.specs.Partial.{PartialPicture, has_same_shape, union}
use Rattle.jls_partial.specs.Status.{IsSettled}
use Rattle.jls_partial.specs.Text.{text, IsPartial}
use Rattle.jls_copy.specs.CopyLaws.{BytesDecide}
use Rattle.jls_copy.specs.ReadCopy.{ReadCopy}
use Rattle.jls_station.specs.Given.{Given, Gives, by_text, by_copy, GivesPartial, marked}
use Rattle.jls_station.specs.Texts.{IsTextOf}
use Rattle.jls_station.proofs.TextsApart.{no_text, text_begins}
use Rattle.jls_marker.specs.SegmentLaws.{AreBytes}
use Rattle.jls_salvage_run.specs.AllInputs.{partials, IsUnionOf, AreOfOneShape}
use Rattle.jls_salvage_run.specs.CommandLaws.{input_bytes, AreInputsOf, SameInputsSameOutput, SurvivingLinesGiveThePicture}
use Rattle.jls_salvage_run.proofs.InputBytes.{AreGiven, bytes_of_join}

-- ---- inputs and pictures

input_of_member : (source : Option ℕ) (inputs : List (List ℕ)) (ps : List PartialPicture) (p : PartialPicture) → AreGiven source inputs ps
    → Contains ps p
    → (bytes : List ℕ) × Contains inputs bytes × AreBytes bytes × GivesPartial source bytes p
input_of_member source [] [] p h (k, lt, e) = absurd (omega (arith, lt))
input_of_member source [] (q ∷ ps) p h c = absurd h
input_of_member source (bytes ∷ inputs) [] p h c = absurd h
input_of_member source (bytes ∷ inputs) (q ∷ ps) p h (zero, lt, e) =
    (bytes, (0, omega arith, refl), h.0, subst (λ (x : PartialPicture). GivesPartial source bytes x) e h.1)
input_of_member source (bytes ∷ inputs) (q ∷ ps) p h (suc k, lt, e) =
    let m = input_of_member source inputs ps p h.2 (k, omega (arith, lt), e) in (m.0, (suc m.1.0, omega (arith, m.1.1), m.1.2), m.2, m.3)

member_of_input : (source : Option ℕ) (inputs : List (List ℕ)) (ps : List PartialPicture) (bytes : List ℕ) → AreGiven source inputs ps
    → Contains inputs bytes
    → (p : PartialPicture) × Contains ps p × GivesPartial source bytes p
member_of_input source [] [] bytes h (k, lt, e) = absurd (omega (arith, lt))
member_of_input source [] (q ∷ ps) bytes h c = absurd h
member_of_input source (x ∷ inputs) [] bytes h c = absurd h
member_of_input source (x ∷ inputs) (q ∷ ps) bytes h (zero, lt, e) =
    (q, (0, omega arith, refl), subst (λ (b : List ℕ). GivesPartial source b q) e h.1)
member_of_input source (x ∷ inputs) (q ∷ ps) bytes h (suc k, lt, e) =
    let m = member_of_input source inputs ps bytes h.2 (k, omega (arith, lt), e) in (m.0, (suc m.1.0, omega (arith, m.1.1), m.1.2), m.2)

module _ (apart : (bytes : List ℕ) (p q : PartialPicture) → IsTextOf bytes p → IsTextOf bytes q → p ≡ q) (decide : BytesDecide) where
  -- what an input gives is decided by its bytes
  one_given : (source : Option ℕ) (bytes : List ℕ) (g g' : Given) → AreBytes bytes → Gives source bytes g → Gives source bytes g'
      → g.partial ≡ g'.partial
  one_given source bytes _ _ low (by_text _ _ p is) (by_text _ _ q is') = apart bytes p q is is'
  one_given source bytes _ _ low (by_text _ _ p is) (by_copy _ _ r stop copied reads) = no_text bytes copied (text_begins bytes p is)
  one_given source bytes _ _ low (by_copy _ _ r stop copied reads) (by_text _ _ p is) = no_text bytes copied (text_begins bytes p is)
  one_given source bytes _ _ low (by_copy _ _ r stop copied reads) (by_copy _ _ r' stop' copied' reads') =
      ap (λ (x : ReadCopy). marked source x.partial) ((decide bytes low).one_reading r r' reads reads')

  one_picture : (source : Option ℕ) (bytes : List ℕ) (p q : PartialPicture) → AreBytes bytes → GivesPartial source bytes p
      → GivesPartial source bytes q → p ≡ q
  one_picture source bytes p q low h k = sym h.2 ∙ (one_given source bytes h.0 k.0 low h.1 k.1 ∙ k.2)

  -- where the inputs of one list are among those of another, so are the pictures
  among : (source : Option ℕ) (inputs others : List (List ℕ)) (ps qs : List PartialPicture) → AreGiven source inputs ps
      → AreGiven source others qs
      → ((bytes : List ℕ) → Contains inputs bytes → Contains others bytes) → (p : PartialPicture) → Contains ps p → Contains qs p
  among source inputs others ps qs h k inside p c =
      let t = input_of_member source inputs ps p h c in
      let m = member_of_input source others qs t.0 k (inside t.0 t.1) in
      subst (λ (q : PartialPicture). Contains qs q) (one_picture source t.0 m.0 p t.2 m.2 t.3) m.1

  -- pictures of one list of inputs are one list
  same_pictures : (source : Option ℕ) (inputs : List (List ℕ)) (ps qs : List PartialPicture) → AreGiven source inputs ps
      → AreInputsOf source inputs qs → ps ≡ qs
  same_pictures source [] [] [] h k = refl
  same_pictures source [] [] (q ∷ qs) h k = absurd k
  same_pictures source [] (p ∷ ps) qs h k = absurd h
  same_pictures source (bytes ∷ inputs) [] qs h k = absurd h
  same_pictures source (bytes ∷ inputs) (p ∷ ps) [] h k = absurd k
  same_pictures source (bytes ∷ inputs) (p ∷ ps) (q ∷ qs) h k =
      let first = one_picture source bytes p q h.0 h.1 k.0 in
      let rest = same_pictures source inputs ps qs h.2 k.1 in
      (λ i. first i ∷ rest i)

  module _ (one_join : (x y : PartialPicture) (xs ys : List PartialPicture) → AllOfShape has_same_shape x xs
      → AllOfShape has_same_shape y ys
      → ((z : PartialPicture) → Contains (x ∷ xs) z ↔ Contains (y ∷ ys) z) → join_all union x xs ≡ join_all union y ys) where
    unions_agree : (ps qs : List PartialPicture) (joined joined' : PartialPicture) → IsUnionOf ps joined → IsUnionOf qs joined'
        → AreOfOneShape ps → AreOfOneShape qs
        → ((p : PartialPicture) → Contains ps p ↔ Contains qs p) → joined ≡ joined'
    unions_agree [] qs joined joined' u v a b same = absurd u
    unions_agree (p ∷ ps) [] joined joined' u v a b same = absurd v
    unions_agree (p ∷ ps) (q ∷ qs) joined joined' u v a b same = u ∙ (one_join p q ps qs a b same ∙ sym v)

    pub runs_agree : SameInputsSameOutput
    runs_agree source out names joined settled whole events h out' names' joined' settled' whole' events' h' same =
        let t = bytes_of_join source out names joined settled whole events h in
        let t' = bytes_of_join source out' names' joined' settled' whole' events' h' in
        let ps = partials h.taken.givens in
        let qs = partials h'.taken.givens in
        let there = among source (input_bytes events) (input_bytes events') ps qs t.0 t'.0 (λ bytes c. (same bytes).0 c) in
        let back = among source (input_bytes events') (input_bytes events) qs ps t'.0 t.0 (λ bytes c. (same bytes).1 c) in
        let e = unions_agree ps qs joined joined' h.taken.union_is h'.taken.union_is h.taken.taken.one_shape h'.taken.taken.one_shape
        (λ p. (there p, back p)) in
        (e, t.1 ∙ (ap (λ (p : PartialPicture). text p ∷ []) e ∙ sym t'.1))

  union_of_parts : PartsGiveThePicture → (picture joined : PartialPicture) → IsPartial picture → IsSettled picture
      → (ps : List PartialPicture) → IsUnionOf ps joined
      → All (IsPartOf picture) ps → EachLineIsHeld picture.shape ps → joined ≡ sourced ps picture
  union_of_parts join picture joined is settled [] u are survives = absurd u
  union_of_parts join picture joined is settled (p ∷ ps) u are survives = u ∙ join picture is.fitting settled p ps are survives

  pub picture_written : PartsGiveThePicture → SurvivingLinesGiveThePicture
  picture_written join source out names joined settled whole events h picture is picture_settled parts are survives inputs =
      let t = bytes_of_join source out names joined settled whole events h in
      let same = same_pictures source (input_bytes events) (partials h.taken.givens) parts t.0 inputs in
      let e = union_of_parts join picture joined is picture_settled parts
      (subst (λ (ps : List PartialPicture). IsUnionOf ps joined) same h.taken.union_is) are survives in
      (e, t.1 ∙ ap (λ (p : PartialPicture). text p ∷ []) e)
