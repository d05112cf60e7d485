-- What is settled, where some input has each line of a picture.
use Rattle.std.proofs.Common.{◌≡◌, ℕ, zero, suc, ◌<◌, true, List, [], ◌∷◌, length, Option, refl, sym, ap, ◌∙◌, subst, arith, inl, inr}
use Rattle.std.specs.List.{Contains}
use Rattle.std.proofs.lemmas.Bool.{or_left, or_right}
use Rattle.jls_values.specs.OrderedSet as set
use Rattle.jls_values.specs.OrderedSetLaws.{contains-union}
use Rattle.jls_values.specs.Join.{join_all, AllOfShape}
use Rattle.jls_values.specs.Shape.{PictureShape}
use Rattle.jls_partial.specs.Reading.{Reading}
use Rattle.jls_partial.specs.ReadingOrder.{reading_total}
use Rattle.jls_partial.specs.Partial.{PartialPicture, has_same_shape, union, readings_at}
use Rattle.jls_partial.specs.PartialLaws.{one_shape}
use Rattle.jls_partial.specs.Status.{IsSettled}
use Rattle.jls_partial.proofs.TextLaws.{one_text}
use Rattle.jls_partial.proofs.Parts.{shape_of_join}
use Rattle.jls_write.specs.Picture.{WholePicture, line_of}
use Rattle.jls_write.specs.WholePictures.{IsPicture}
use Rattle.jls_station.specs.Given.{Given, Gives, by_text, by_copy, GivesPartial}
use Rattle.jls_station.specs.Texts.{is_text, IsTextOf}
use Rattle.jls_marker.specs.SegmentLaws.{AreBytes}
use Rattle.jls_salvage_run.specs.AllInputs.{partials, AreOfOneShape, IsUnionOf}
use Rattle.jls_salvage_run.specs.CommandLaws.{input_bytes}
use Rattle.jls_salvage_run.proofs.InputBytes.{AreGiven}
use Rattle.jls_run_laws.specs.NoOtherLaws.{InputHasLine, SomeInputHasEachLine, SettledJoinsAreThePicture}
use Rattle.jls_headline.specs.Damaged.{picture_reading, Survives}
use Rattle.jls_headline.specs.ReadsAs.{GivesPicture}
use Rattle.jls_headline.specs.Stations.{HasShape}
use Rattle.jls_headline.proofs.Held.{is_at_line}
use Rattle.jls_station.proofs.TextsApart.{no_text}
use Rattle.jls_run_laws.proofs.CollectedRuns.{given_holds, all_of_shape, given_in}
use Rattle.jls_run_laws.proofs.JoinRuns.{scans_are_no_text, one_shape_of, handed_by}
use Rattle.jls_headline.proofs.LostIntervals.{surviving_lines_are_given}
use Rattle.jls_copy_laws.proofs.Members.{is_first, none_in}
use Rattle.jls_headline.proofs.Pictures.{gives_picture}
use Rattle.jls_headline.proofs.StationPictures.{only_one}
use Rattle.jls_headline.proofs.WrittenFiles.{files_read_as}

-- What an input gave is in the union ------------------------------------------------------------------------------

-- the partial picture that an input of these bytes gave, which has the shape of what was joined and is part of it
pub record IsJoined (source : Option ℕ) (bytes : List ℕ) (joined : PartialPicture) : Type 0 where
  pub partial : PartialPicture
  pub low : AreBytes bytes
  pub gives : GivesPartial source bytes partial
  pub shape_is : partial.shape ≡ joined.shape
  pub held : (r : Reading) → set.contains partial.readings r ≡ true → set.contains joined.readings r ≡ true

held_on : (p : PartialPicture) (ps : List PartialPicture) (r : Reading) → set.contains p.readings r ≡ true
    → set.contains (join_all union p ps).readings r ≡ true
held_on p [] r h = h
held_on p (q ∷ qs) r h =
    held_on (union p q) qs r
    (contains-union reading_total p.readings q.readings r ∙ or_left (set.contains p.readings r) (set.contains q.readings r) h)

given_later : (source : Option ℕ) (p : PartialPicture) (ps : List PartialPicture) (inputs : List (List ℕ)) (bytes : List ℕ)
    → AreGiven source inputs ps → AllOfShape has_same_shape p ps → Contains inputs bytes → IsJoined source bytes (join_all union p ps)
given_later source p [] [] bytes given shapes c = absurd (none_in bytes c)
given_later source p [] (x ∷ inputs) bytes given shapes c = absurd given
given_later source p (q ∷ qs) [] bytes given shapes c = absurd given
given_later source p (q ∷ qs) (x ∷ inputs) bytes given shapes (zero, l, e) = record {
  partial = q;
  low = subst AreBytes e given.0;
  gives = subst (λ (b : List ℕ). GivesPartial source b q) e given.1;
  shape_is = sym (one_shape p.shape q.shape shapes.0) ∙ sym (shape_of_join (union p q) qs);
  held = λ r h. held_on (union p q) qs r
      (contains-union reading_total p.readings q.readings r ∙ or_right (set.contains p.readings r) (set.contains q.readings r) h);
}
given_later source p (q ∷ qs) (x ∷ inputs) bytes given shapes (suc k, l, e) =
    given_later source (union p q) qs inputs bytes given.2 (all_of_shape p (union p q) refl qs shapes.1) (k, omega (arith, l), e)

is_joined : (source : Option ℕ) (ps : List PartialPicture) (joined : PartialPicture) (inputs : List (List ℕ)) (bytes : List ℕ)
    → AreGiven source inputs ps → AreOfOneShape ps → IsUnionOf ps joined → Contains inputs bytes → IsJoined source bytes joined
is_joined source [] joined inputs bytes given shapes u c = absurd u
is_joined source (p ∷ ps) joined [] bytes given shapes u c = absurd given
is_joined source (p ∷ ps) joined (x ∷ inputs) bytes given shapes u (zero, l, e) = record {
  partial = p;
  low = subst AreBytes e given.0;
  gives = subst (λ (b : List ℕ). GivesPartial source b p) e given.1;
  shape_is = sym (shape_of_join p ps) ∙ ap (λ (q : PartialPicture). q.shape) (sym u);
  held = λ r h. subst (λ (q : PartialPicture). set.contains q.readings r ≡ true) (sym u) (held_on p ps r h);
}
is_joined source (p ∷ ps) joined (x ∷ inputs) bytes given shapes u (suc k, l, e) =
    subst (IsJoined source bytes) (sym u) (given_later source p ps inputs bytes given.2 shapes (k, omega (arith, l), e))

-- A line that an input has is held -------------------------------------------------------------------------------

-- a station holds the line, and is of the picture's shape
abbrev HoldsLine : WholePicture → PartialPicture → ℕ → ℕ → Type 0
HoldsLine pic station component line =
    (station.shape ≡ pic.shape) × (set.contains station.readings (picture_reading pic component line) ≡ true)

module _ (pic : WholePicture) (source : Option ℕ) (bytes : List ℕ) (joined : PartialPicture) (is : IsJoined source bytes joined)
    (component line : ℕ) where
  survivor_held : Survives pic bytes component line → HoldsLine pic joined component line
  survivor_held s =
      let none = scans_are_no_text bytes pic.shape s.0 s.1 in
      let h = given_holds source bytes is.partial is.low none is.gives in
      let shape : HasShape is.partial.shape bytes = h.are_copies.0 in (
        sym is.shape_is ∙ one_shape_of bytes is.partial.shape pic.shape shape (s.0, s.1),
        is.held (picture_reading pic component line)
            ((h.readings (picture_reading pic component line)).1
            (bytes, is_first bytes [], surviving_lines_are_given pic bytes component line s)),
      )

  text_held : (p : PartialPicture) → IsTextOf bytes p → p.shape ≡ pic.shape
      → set.contains p.readings (picture_reading pic component line) ≡ true → HoldsLine pic joined component line
  text_held p text shape has = by is.gives.0 is.gives.1 is.gives.2
    where
      by : (g : Given) → Gives source bytes g → g.partial ≡ is.partial
          → (joined.shape ≡ pic.shape) × (set.contains joined.readings (picture_reading pic component line) ≡ true)
      by _ (by_text _ _ q text') e =
          let same : p ≡ is.partial = one_text bytes p q text text' ∙ e in (
            sym is.shape_is ∙ ap (λ (x : PartialPicture). x.shape) (sym same) ∙ shape,
            is.held (picture_reading pic component line)
                (subst (λ (x : PartialPicture). set.contains x.readings (picture_reading pic component line) ≡ true) same has),
          )
      by _ (by_copy _ _ read stop copied reads) e = no_text bytes copied (ap is_text text.bytes_are)

  line_held : InputHasLine pic bytes component line → HoldsLine pic joined component line
  line_held (inl s) = survivor_held s
  line_held (inr (p, text, shape, has)) = text_held p text shape has

-- What is settled is the picture ---------------------------------------------------------------------------------

pub settled_is_the_picture : (pic : WholePicture) → IsPicture pic → (source : Option ℕ) (inputs : List (List ℕ)) (joined : PartialPicture)
    → ((bytes : List ℕ) → Contains inputs bytes → IsJoined source bytes joined) → SomeInputHasEachLine pic inputs → IsSettled joined
    → GivesPicture joined pic
settled_is_the_picture pic is source inputs joined are each settled =
    let first = holds 0 0 is.shape.ids_at_least is.shape.height_at_least in
    let e : joined.shape ≡ pic.shape = first.0 in
    gives_picture joined pic is e
    (λ c y l k. only_one (readings_at joined c y) (line_of pic c y)
    (settled c (subst (λ (s : PictureShape). c < length s.ids) (sym e) l) y (subst (λ (s : PictureShape). y < s.height) (sym e) k))
    (is_at_line joined c y (line_of pic c y) (holds c y l k).1))
  where
    holds : (c y : ℕ) → c < length pic.shape.ids → y < pic.shape.height
        → (joined.shape ≡ pic.shape) × (set.contains joined.readings (picture_reading pic c y) ≡ true)
    holds c y l k = (let m = each c y l k in line_held pic source m.0 joined (are m.0 m.1) c y m.2)

pub settled_joins_are_the_picture : SettledJoinsAreThePicture
settled_joins_are_the_picture run e pic is each =
    let taken = run.is_done.taken in
    let gives : GivesPicture run.joined pic =
    settled_is_the_picture pic is run.source (input_bytes run.events) run.joined
    (λ bytes c. is_joined run.source (partials taken.givens) run.joined (input_bytes run.events) bytes (given_in run)
    taken.taken.one_shape taken.union_is c) each (run.is_done.settled_is.0 e) in
    (gives, files_read_as run.joined pic is gives.1, handed_by run)
