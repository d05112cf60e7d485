-- What comes of a `write` whose input gives what a `join` of damaged copies handed to its output: the picture, read again.
use Rattle.std.proofs.Common.{◌≡◌, ℕ, ◌<◌, ◌≤◌, ◌^◌, Bool, List, [], ◌∷◌, Option, Some, None, Ok, Err, refl, sym, ap}
use Rattle.std.proofs.Common.{◌∙◌, subst}
use Rattle.std.proofs.lemmas.List.{append-nil}
use Rattle.jls_values.specs.Params.{CodingParameters, AreCodingParameters}
use Rattle.jls_values.specs.ParamsOf.{in_force, param_fault, params_in_range}
use Rattle.jls_values.specs.PresetParameters.{no_presets}
use Rattle.jls_values.specs.declared.params.ParamFault.{ParamFault}
use Rattle.jls_marker.proofs.ParamRanges.{faultless}
use Rattle.jls_partial.specs.Partial.{PartialPicture}
use Rattle.jls_partial.specs.Status.{IsSettled}
use Rattle.jls_partial.specs.Text.{text, IsTextOf}
use Rattle.jls_io.specs.Event.{Event}
use Rattle.jls_write.specs.Picture.{WholePicture, picture_of}
use Rattle.jls_write.specs.Options.{OptionsFit}
use Rattle.jls_write.specs.Unsettled.{NamesFirstUnsettled}
use Rattle.jls_write.specs.declared.picture.PictureFault.{PictureFault}
use Rattle.jls_write.specs.declared.picture.PictureFault.TheVariants as picture_fault
use Rattle.jls_station.specs.Given.{Given}
use Rattle.jls_write.specs.WholePictures.{IsPicture}
use Rattle.jls_salvage_run.specs.AllInputs.{partials, IsTaken, StopsAt, not_there, refused, other_shape, no_memory}
use Rattle.jls_cli.specs.Outputs as output
use Rattle.jls_salvage_run.specs.CommandLaws.{input_bytes, output_bytes}
use Rattle.jls_cli.specs.Outcomes.{Outcome, finished, refusal_at}
use Rattle.jls_cli.specs.declared.outcome.Refusal.{Refusal}
use Rattle.jls_cli.specs.declared.outcome.Cause.TheVariants.{Unsettled}
use Rattle.jls_salvage_run.specs.WritingFiles as writing
use Rattle.jls_salvage_run.specs.WritingFiles.{file, FitsFormat, options_for, WritesFile, StopsAtFile}
use Rattle.jls_salvage_run.specs.declared.writing.Format.{Format}
use Rattle.jls_salvage_run.specs.declared.writing.Format.TheVariants.{Jls}
use Rattle.jls_values.proofs.Defaults.{defaults_are}
use Rattle.jls_headline.specs.ReadsAs.{GivesPicture, ReadsAsOnly}
use Rattle.jls_run_laws.specs.RunLaws.{DoneJoin, AreNoTexts}
use Rattle.jls_headline.specs.Sources.{copies_of}
use Rattle.jls_run_laws.specs.JoinThenWrite.{JoinsDamagedCopies, JoinsForDamagedCopies, WritesWhatWasJoined, WritesThePictureAfter}
use Rattle.jls_run_laws.specs.JoinThenWrite.{ReadsAsThePictureAfter, IsSettledAfter}
use Rattle.jls_salvage_run.proofs.InputBytes.{ReadsNone, one_input, handed_out}
use Rattle.jls_run_laws.proofs.CollectedRuns.{given_in}
use Rattle.jls_run_laws.proofs.JoinRuns.{handed_by, are_no_texts, marks_of_run, runs_hold_exactly, runs_with_texts_hold_exactly}
use Rattle.jls_run_laws.proofs.JoinRuns.{runs_give_the_picture, runs_with_texts_give_the_picture}
use Rattle.jls_run_laws.proofs.JoinedTexts.{held_are_lines, its_text, text_given}
use Rattle.jls_run_laws.proofs.InputMarks.{marks_of_inputs}
use Rattle.jls_headline.proofs.WrittenFiles.{files_read_back}

-- The default parameters of a precision --------------------------------------------------------------------------

passed : (p : CodingParameters) (f : Option ParamFault) → params_in_range p f ≡ Ok p → f ≡ None
passed p None e = refl
passed p (Some f) e = absurd cc

defaults_in_range : (p : ℕ) → 2 ≤ p → p ≤ 16 → AreCodingParameters (in_force p no_presets)
defaults_in_range p low high =
    faultless (in_force p no_presets) (passed (in_force p no_presets) (param_fault (in_force p no_presets)) (defaults_are p low high))

-- What a write that is done did ----------------------------------------------------------------------------------

-- an input was taken that is settled, and its file was handed out
pub record DidWrite (f : Format) (events : List Event) : Type 0 where
  pub name : List ℕ
  pub g : Given
  pub reading : List Event
  pub is_taken : IsTaken None name g reading
  pub bytes_are : input_bytes events ≡ is_taken.give.bytes ∷ []
  pub is_settled : IsSettled g.partial
  pub fits : FitsFormat f (picture_of g.partial)
  pub handed : output_bytes events ≡ file f (picture_of g.partial) ∷ []

abbrev pub IsDone : Outcome → Type 0
IsDone (Ok d) = Unit {0}
IsDone (Err r) = ⊥

pub did_write : (f : Format) (out name : List ℕ) (o : Outcome) (events : List Event) → IsDone o → WritesFile f out name o events
    → DidWrite f events
did_write _ _ _ _ _ ends (writing.done f out name g whole reading handing taken settled says fits hands) =
    let w = handed_out out (file f (picture_of g.partial)) handing hands in
    let one = one_input None name g reading handing taken w.0 in
    record {
      name = name;
      g = g;
      reading = reading;
      is_taken = taken;
      bytes_are = one.0 ∙ ap (λ x. taken.give.bytes ∷ x) w.1;
      is_settled = settled;
      fits = fits;
      handed = one.2 ∙ w.2;
    }
did_write _ _ _ _ _ ends (writing.at_input f out name r reading e stops) = absurd ends
did_write _ _ _ _ _ ends (writing.unsettled f out name r n g fault reading e taken names is) = absurd ends
did_write _ _ _ _ _ ends (writing.at_file f out name r g reading handing e taken settled stops) = absurd ends

-- a file that is written as JPEG-LS of what is this picture reads as it
pub read_as_the_picture : (pic : WholePicture) → IsPicture pic → (line : Bool) (ri : ℕ) → ri < 2 ^ 32 → (events : List Event)
    → (did : DidWrite (Jls line ri) events) → picture_of did.g.partial ≡ pic
    → (bytes : List ℕ) × (output_bytes events ≡ bytes ∷ []) × ReadsAsOnly bytes pic
read_as_the_picture pic is_picture line ri low events did is =
    let fit : OptionsFit pic (options_for line ri pic) = subst (λ x. OptionsFit x (options_for line ri x)) is did.fits in
    let shape = is_picture.shape in
    let params = defaults_in_range pic.shape.precision shape.precision_at_least shape.precision_at_most in (
      file (Jls line ri) pic,
      did.handed ∙ ap (λ x. file (Jls line ri) x ∷ []) is,
      files_read_back pic is_picture (options_for line ri pic) params low fit,
    )

-- What was joined is the picture, and is read again --------------------------------------------------------------

only_of : (x y : List ℕ) → x ∷ [] ≡ y ∷ [] → x ≡ y
only_of x y e = cc

-- a run of `join` handed the text of this picture to its one output
record GaveThePicture (pic : WholePicture) (joining : List Event) : Type 0 where
  is_picture : IsPicture pic
  joined : PartialPicture
  gives : GivesPicture joined pic
  text_is : IsTextOf (text joined) joined
  output_is : output_bytes joining ≡ text joined ∷ []

-- what was joined of damaged copies, and its text
pub text_of_copies : (pic : WholePicture) (run : DoneJoin) → JoinsDamagedCopies pic run
    → GivesPicture run.joined pic × IsTextOf (text run.joined) run.joined
text_of_copies pic run j = (
  gives,
  its_text pic j.is_picture run.joined gives
      (held_are_lines pic run.joined (input_bytes run.events) (runs_hold_exactly run none) j.damaged)
      (λ r source held. let m = marks_of_run run none r source held in (m.0, j.small source m.1)),
)
  where
    none : AreNoTexts (input_bytes run.events)
    none = are_no_texts pic (input_bytes run.events) j.damaged

    gives : GivesPicture run.joined pic
    gives = (runs_give_the_picture run pic j.is_picture j.damaged j.each_line).0

gave_of_copies : (pic : WholePicture) (run : DoneJoin) → JoinsDamagedCopies pic run → GaveThePicture pic run.events
gave_of_copies pic run j = record {
  is_picture = j.is_picture;
  joined = run.joined;
  gives = (text_of_copies pic run j).0;
  text_is = (text_of_copies pic run j).1;
  output_is = handed_by run;
}

gave_of_texts : (pic : WholePicture) (run : DoneJoin) → JoinsForDamagedCopies pic run → GaveThePicture pic run.events
gave_of_texts pic run j = record {
  is_picture = j.is_picture;
  joined = run.joined;
  gives = gives;
  text_is = its_text pic j.is_picture run.joined gives
      (held_are_lines pic run.joined (copies_of j.copies) (runs_with_texts_hold_exactly run j.copies j.stand) j.damaged)
      (marks_of_inputs run.source j.small (partials run.is_done.taken.givens) run.joined (input_bytes run.events) (given_in run)
      run.is_done.taken.union_is);
  output_is = handed_by run;
}
  where
    gives : GivesPicture run.joined pic
    gives = (runs_with_texts_give_the_picture run j.copies j.stand pic j.is_picture j.damaged j.each_line).0

module _ (pic : WholePicture) (joining : List Event) (j : GaveThePicture pic joining) where
  -- an input that gave the bytes of the output gave what was joined
  read_again : (name : List ℕ) (g : Given) (reading events : List Event) (taken : IsTaken None name g reading)
      → input_bytes events ≡ taken.give.bytes ∷ [] → input_bytes events ≡ output_bytes joining → g.partial ≡ j.joined
  read_again name g reading events taken e same =
      let is : taken.give.bytes ≡ text j.joined = only_of taken.give.bytes (text j.joined) (sym e ∙ same ∙ j.output_is) in
      text_given taken.give.bytes j.joined g (subst (λ bytes. IsTextOf bytes j.joined) (sym is) j.text_is) taken.give.gives

  file_written : (f : Format) (settled whole : Bool) (events : List Event) → WritesWhatWasJoined joining f (finished settled whole) events
      → output_bytes events ≡ file f pic ∷ []
  file_written f settled whole events w =
      let did = did_write f w.out w.name (finished settled whole) events tt w.writes in
      let same = read_again did.name did.g did.reading events did.is_taken did.bytes_are w.same_bytes in
      did.handed ∙ ap (λ x. file f x ∷ []) (ap picture_of same ∙ j.gives.1)

  file_read : (line : Bool) (ri : ℕ) → ri < 2 ^ 32 → (settled whole : Bool) (events : List Event)
      → WritesWhatWasJoined joining (Jls line ri) (finished settled whole) events
      → (bytes : List ℕ) × (output_bytes events ≡ bytes ∷ []) × ReadsAsOnly bytes pic
  file_read line ri low settled whole events w =
      let did = did_write (Jls line ri) w.out w.name (finished settled whole) events tt w.writes in
      let same = read_again did.name did.g did.reading events did.is_taken did.bytes_are w.same_bytes in
      let is : picture_of did.g.partial ≡ pic = ap picture_of same ∙ j.gives.1 in
      read_as_the_picture pic j.is_picture line ri low events did is

-- The laws -------------------------------------------------------------------------------------------------------

-- each is one law, over what is known of the run of `join`
module _ (Joins : WholePicture → DoneJoin → Type 0)
    (gave : (pic : WholePicture) (run : DoneJoin) → Joins pic run → GaveThePicture pic run.events) where
  writes_the_picture : WritesThePictureAfter Joins
  writes_the_picture pic run j f settled whole events w = file_written pic run.events (gave pic run j) f settled whole events w

  reads_as_the_picture : ReadsAsThePictureAfter Joins
  reads_as_the_picture pic run j line ri low settled whole events w =
      file_read pic run.events (gave pic run j) line ri low settled whole events w

pub written_joins_are_the_picture : WritesThePictureAfter JoinsDamagedCopies
written_joins_are_the_picture = writes_the_picture JoinsDamagedCopies gave_of_copies

pub written_text_joins_are_the_picture : WritesThePictureAfter JoinsForDamagedCopies
written_text_joins_are_the_picture = writes_the_picture JoinsForDamagedCopies gave_of_texts

pub written_joins_read_as_the_picture : ReadsAsThePictureAfter JoinsDamagedCopies
written_joins_read_as_the_picture = reads_as_the_picture JoinsDamagedCopies gave_of_copies

pub written_text_joins_read_as_the_picture : ReadsAsThePictureAfter JoinsForDamagedCopies
written_text_joins_read_as_the_picture = reads_as_the_picture JoinsForDamagedCopies gave_of_texts

-- Refusals -------------------------------------------------------------------------------------------------------

IsUnsettledRefusal : Refusal → Type 0
IsUnsettledRefusal r = (id : ℕ) × (line : ℕ) × (disputed : Bool) × (r.cause ≡ Unsettled id line disputed)

not_at_input : (r : Refusal) (reading : List Event) → StopsAt None [] r reading → IsUnsettledRefusal r → ⊥
unfolding IsUnsettledRefusal
not_at_input _ _ (not_there _ _ n) (id, line, disputed, e) = cc
not_at_input _ _ (refused _ _ n f reads h) (id, line, disputed, e) = cc
not_at_input _ _ (other_shape _ _ n g events taken other) (id, line, disputed, e) = cc
not_at_input _ _ (no_memory _ _ n g events taken same) (id, line, disputed, e) = cc

not_at_output : (name bytes : List ℕ) (r : Refusal) (events : List Event) → output.StopsAtOutput name bytes r events → IsUnsettledRefusal r
    → ⊥
unfolding IsUnsettledRefusal
not_at_output _ _ _ _ (output.not_there named is) (id, line, disputed, e) = cc
not_at_output _ _ _ _ (output.cut count writes named is wrote) (id, line, disputed, e) = cc

not_at_file : (F L : Type 0) (takes : Bool) (bytes : List ℕ) (r : Refusal) (events : List Event) → StopsAtFile F L takes bytes r events
    → IsUnsettledRefusal r → ⊥
unfolding IsUnsettledRefusal
not_at_file F L takes _ _ _ (writing.too_large n bytes unfit) (id, line, disputed, e) = cc
not_at_file F L takes _ _ _ (writing.at_output bytes r events fits stops) u = not_at_output _ bytes r events stops u
not_at_file F L takes _ _ _ (writing.no_memory n bytes count writes fits is below wrote) (id, line, disputed, e) = cc

none_named : (p : PartialPicture) (fault : PictureFault) → IsSettled p → NamesFirstUnsettled p fault → ⊥
none_named p (picture_fault.Unsettled component line) settled names =
    names.first_line.unsettled (settled component names.first_line.component_in line names.first_line.line_in)

IsRefusedFor : Outcome → Type 0
IsRefusedFor (Ok d) = ⊥
IsRefusedFor (Err r) = IsUnsettledRefusal r

refused_as_unsettled : (pic : WholePicture) (joining : List Event) → GaveThePicture pic joining
    → (f : Format) (out name : List ℕ) (o : Outcome) (events : List Event) → WritesFile f out name o events
    → input_bytes events ≡ output_bytes joining → IsRefusedFor o → ⊥
unfolding IsRefusedFor
refused_as_unsettled pic joining j _ _ _ _ _ (writing.done f out name g whole reading handing taken settled says fits hands) same u = u
refused_as_unsettled pic joining j _ _ _ _ _ (writing.at_input f out name r reading e stops) same u =
    not_at_input r reading stops u
refused_as_unsettled pic joining j _ _ _ _ _ (writing.unsettled f out name r n g fault reading e taken names is) same u =
    let quiet : ReadsNone [] = refl in
    let one = one_input None name g reading [] taken quiet in
    let bytes = ap input_bytes (sym (append-nil reading)) ∙ one.0 in
    let p = read_again pic joining j name g reading reading taken bytes same in
    none_named g.partial fault (subst IsSettled (sym p) j.gives.0) names
refused_as_unsettled pic joining j _ _ _ _ _ (writing.at_file f out name r g reading handing e taken settled stops) same u =
    not_at_file (FitsFormat f (picture_of g.partial)) (writing.IsTooLarge f (picture_of g.partial)) (writing.takes_memory f)
    (file f (picture_of g.partial)) r handing stops u

is_settled : (Joins : WholePicture → DoneJoin → Type 0)
    → ((pic : WholePicture) (run : DoneJoin) → Joins pic run → GaveThePicture pic run.events) → IsSettledAfter Joins
unfolding IsUnsettledRefusal IsRefusedFor
is_settled Joins gave pic run j f name id line disputed events w =
    refused_as_unsettled pic run.events (gave pic run j) f w.out w.name
    (Err (refusal_at name (Unsettled id line disputed))) events w.writes w.same_bytes (id, line, disputed, refl)

pub written_joins_are_settled : IsSettledAfter JoinsDamagedCopies
written_joins_are_settled = is_settled JoinsDamagedCopies gave_of_copies

pub written_text_joins_are_settled : IsSettledAfter JoinsForDamagedCopies
written_text_joins_are_settled = is_settled JoinsForDamagedCopies gave_of_texts
