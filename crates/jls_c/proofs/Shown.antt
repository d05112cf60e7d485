-- What is shown of the lines of a partial picture that fits its shape: how long it is.
use Rattle.std.proofs.Common.{◌≡◌, ℕ, List, [], ◌∷◌, length, Some, refl, sym}
use Rattle.std.specs.Prelude.{slice_get, replicate}
use Rattle.std.proofs.lemmas.Option.{get_or_from_slice_get}
use Rattle.std.proofs.lemmas.List.FromFn.{length-map-range_with_len}
use Rattle.jls_partial.specs.Partial.{PartialPicture}
use Rattle.jls_partial.specs.Status.{status_of}
use Rattle.jls_partial.specs.declared.status.Status.TheVariants.{Missing, Settled, Disputed}
use Rattle.jls_partial.proofs.Statuses.{one_reading}
use Rattle.jls_c.specs.Lines.{shown, line_status, component_statuses, line_statuses, line_of, lines_of_component, lines_of}
use Rattle.jls_c.specs.Info.{line_count}
use Rattle.jls_c.proofs.Rows.{length_rows}

pub length_statuses : (p : PartialPicture) → length (line_statuses p) ≡ line_count p.shape
length_statuses p =
    length_rows (component_statuses p) p.shape.height (length p.shape.ids)
    (λ k below. length-map-range_with_len (line_status p k) 0 p.shape.height)

pub length_lines : (p : PartialPicture) → length (lines_of p) ≡ line_count p.shape
length_lines p =
    length_rows (lines_of_component p) p.shape.height (length p.shape.ids)
    (λ k below. length-map-range_with_len (line_of p k) 0 p.shape.height)

-- ---- a line

pub shown_settled : (width : ℕ) (xs : List (List ℕ)) (samples : List ℕ) → status_of xs ≡ Settled → slice_get xs 0 ≡ Some samples
    → samples ≡ shown width xs
shown_settled width [] samples e g = absurd cc
shown_settled width (x ∷ []) samples e g = sym (get_or_from_slice_get (x ∷ []) 0 samples [] g)
shown_settled width (x ∷ y ∷ xs) samples e g = absurd cc

pub shown_missing : (width : ℕ) (xs : List (List ℕ)) → status_of xs ≡ Missing → shown width xs ≡ replicate width 0
shown_missing width [] e = refl
shown_missing width (x ∷ []) e = absurd cc
shown_missing width (x ∷ y ∷ xs) e = absurd cc

pub shown_disputed : (width : ℕ) (xs : List (List ℕ)) → status_of xs ≡ Disputed → shown width xs ≡ replicate width 0
shown_disputed width [] e = absurd cc
shown_disputed width (x ∷ []) e = absurd cc
shown_disputed width (x ∷ y ∷ xs) e = refl

pub ruleset line_shown = (one_reading, shown_settled, shown_missing, shown_disputed)
