-- Lines of an interval as readings, against those of a picture.
use Rattle.std.proofs.Common.{◌≡◌, ℕ, ◌+◌, ◌≤◌, List, [], ◌∷◌, ◌++◌, length, refl, sym, ap, ◌∙◌, arith}
use Rattle.std.specs.Prelude.{get_or, if◌then◌else◌, ◌==◌}
use Rattle.std.specs.List.{AllByRecursion, Contains}
use Rattle.jls_values.proofs.Lists.{is_first, in_rest}
use Rattle.jls_partial.specs.Reading.{Reading, reading_of}
use Rattle.jls_copy.specs.Pieces.{placed}
use Rattle.jls_carry_laws.specs.TrueFiles.{PictureLines, IsPictureLine}

-- of two lists of lines that are the picture's, the longer one begins with the other
pub begins_with_known : (picture : PictureLines) (cs : List ℕ) (row place : ℕ) (before lines : List (List ℕ))
    → ((s : Reading) → Contains (placed cs row place before) s → IsPictureLine picture s)
    → AllByRecursion (IsPictureLine picture) (placed cs row place lines) → length before ≤ length lines
    → (rest : List (List ℕ)) × (lines ≡ before ++ rest)
begins_with_known picture cs row place [] lines known all l = (lines, refl)
begins_with_known picture cs row place (b ∷ before) [] known all l = absurd (omega (arith, l))
begins_with_known picture cs row place (b ∷ before) (q ∷ lines) known all l =
    let next_row = if (place + 1 == length cs) then row + 1 else row in let next_place = if (place + 1 == length cs) then 0 else place + 1 in
    let s = reading_of (get_or cs place 0) row b in let later = placed cs next_row next_place before in
    let own : b ≡ picture (get_or cs place 0) row = known s (is_first s later) in
    let same : q ≡ b = all.0 ∙ sym own in
    let r = begins_with_known picture cs next_row next_place before lines (λ t among. known t (in_rest t s later among)) all.1
    (omega (arith, l)) in
    (r.0, ap (λ z. z ∷ lines) same ∙ ap (λ z. b ∷ z) r.1)
