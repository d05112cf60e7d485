-- What comes of a `write` whose input has each line of a picture.
use Rattle.std.proofs.Common.{◌≡◌, ℕ, List, [], ◌∷◌, None, refl, ap, ◌∙◌, subst, inl, inr}
use Rattle.std.specs.List.{Contains}
use Rattle.jls_io.specs.Event.{Event}
use Rattle.jls_write.specs.Picture.{WholePicture, picture_of}
use Rattle.jls_write.specs.WholePictures.{IsPicture}
use Rattle.jls_salvage_run.specs.CommandLaws.{input_bytes}
use Rattle.jls_cli.specs.Outcomes.{finished}
use Rattle.jls_salvage_run.specs.WritingFiles.{file}
use Rattle.jls_salvage_run.specs.declared.writing.Format.{Format}
use Rattle.jls_salvage_run.specs.declared.writing.Format.TheVariants.{Jls}
use Rattle.jls_run_laws.specs.NoOtherLaws.{SomeInputHasEachLine, WrittenInputsAreThePicture, WrittenInputsReadAsThePicture}
use Rattle.jls_run_laws.proofs.JoinThenWrite.{DidWrite, did_write, read_as_the_picture}
use Rattle.jls_copy_laws.proofs.Members.{none_in, first_or_rest}
use Rattle.jls_run_laws.proofs.SettledInputs.{IsJoined, settled_is_the_picture}

-- what was written is the picture
written_picture : (f : Format) (events : List Event) (did : DidWrite f events) (pic : WholePicture) → IsPicture pic
    → SomeInputHasEachLine pic (input_bytes events) → picture_of did.g.partial ≡ pic
written_picture f events did pic is each =
    (settled_is_the_picture pic is None (input_bytes events) did.g.partial joined each did.is_settled).1
  where
    own : IsJoined None did.is_taken.give.bytes did.g.partial
    own = record {
      partial = did.g.partial;
      low = did.is_taken.give.is_read.are_bytes;
      gives = (did.g, did.is_taken.give.gives, refl);
      shape_is = refl;
      held = λ r h. h;
    }

    joined : (bytes : List ℕ) → Contains (input_bytes events) bytes → IsJoined None bytes did.g.partial
    joined bytes c =
        let among : Contains (did.is_taken.give.bytes ∷ []) bytes =
        subst (λ (inputs : List (List ℕ)). Contains inputs bytes) did.bytes_are c in
        elim (first_or_rest bytes did.is_taken.give.bytes [] among) [
          | inl e ↦ subst (λ (b : List ℕ). IsJoined None b did.g.partial) e own
          | inr later ↦ absurd (none_in bytes later)
        ]

pub written_inputs_are_the_picture : WrittenInputsAreThePicture
written_inputs_are_the_picture f out name settled whole events w pic is each =
    let did = did_write f out name (finished settled whole) events tt w in
    did.handed ∙ ap (λ (p : WholePicture). file f p ∷ []) (written_picture f events did pic is each)

pub written_inputs_read_as_the_picture : WrittenInputsReadAsThePicture
written_inputs_read_as_the_picture line ri out name settled whole events low w pic is each =
    let did = did_write (Jls line ri) out name (finished settled whole) events tt w in
    read_as_the_picture pic is line ri low events did (written_picture (Jls line ri) events did pic is each)
