-- Where each line of a partial picture is settled and held, its lines are the picture's.
use Rattle.std.proofs.Common.{◌≡◌, ℕ, true, List, [], ◌∷◌, refl, ap, ◌∙◌}
use Rattle.std.specs.Prelude.{slice_get}
use Rattle.jls_values.specs.OrderedSet as set
use Rattle.jls_partial.specs.Partial.{PartialPicture, readings_at}
use Rattle.jls_partial.specs.Reading.{Reading, reading_of}
use Rattle.jls_partial.specs.Status.{status_of, IsSettled}
use Rattle.jls_partial.specs.declared.status.Status.TheVariants.{Settled}
use Rattle.jls_partial.proofs.Marked.{got_held}
use Rattle.jls_carry_laws.specs.TrueFiles.{PictureLines, IsPictureLine}
use Rattle.jls_carry_laws.specs.Laws.{HeldLinesAreThePicture, StrictlyHeldLinesAreThePicture, HasPictureLines}
use Rattle.jls_carry_laws.specs.Laws.{SettledHeldLinesAreThePicture, SettledStrictlyHeldLinesAreThePicture}

-- the one reading of a settled line
one_of : (xs : List (List ℕ)) → status_of xs ≡ Settled → (x : List ℕ) × (xs ≡ x ∷ [])
one_of [] e = absurd cc
one_of (x ∷ []) e = (x, refl)
one_of (x ∷ y ∷ xs) e = absurd cc

settled_lines : (picture : PictureLines) (p : PartialPicture) → IsSettled p
    → ((r : Reading) → set.contains p.readings r ≡ true → IsPictureLine picture r) → HasPictureLines picture p
settled_lines picture p settled known component line inside below =
    let one = one_of (readings_at p component line) (settled component inside line below) in
    let held = got_held p component line 0 one.0 (ap (λ xs. slice_get xs 0) one.1) in
    one.1 ∙ ap (λ x. x ∷ []) (known (reading_of component line one.0) held)

pub settled_held_lines_are_the_picture : HeldLinesAreThePicture → SettledHeldLinesAreThePicture
settled_held_lines_are_the_picture law files picture low have p settled held =
    settled_lines picture p settled (λ r among. law files picture low have r (held r among))

pub settled_strictly_held_lines_are_the_picture : StrictlyHeldLinesAreThePicture → SettledStrictlyHeldLinesAreThePicture
settled_strictly_held_lines_are_the_picture law files picture low have p settled held =
    settled_lines picture p settled (λ r among. law files picture low have r (held r among))
