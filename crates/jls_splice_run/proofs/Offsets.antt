-- How the differences and the offset go on with one part more.
use Rattle.std.proofs.Common.{◌≡◌, ℕ, zero, suc, ◌+◌, ◌<◌, ◌≤◌, true, false, List, [], ◌∷◌, ◌++◌, length, take, drop, get_or, refl, ap, sym}
use Rattle.std.proofs.Common.{◌∙◌, arith}
use Rattle.std.proofs.lemmas.List.{take-append-drop, length-append}
use Rattle.std.proofs.lemmas.Grind.{flat_map-append}
use Rattle.std.specs.Prelude.{Bool, IsTrue, ◌↔◌}
use Rattle.jls_values.proofs.Lists.{flat_map_more}
use Rattle.jls_diff.specs.Parts.{Part, Same, Differ, Differs, made, way}
use Rattle.std.specs.List.{flat_map, range_with_len}
use Rattle.jls_report.proofs.OneMore.{flat_map_take_more}
use Rattle.jls_splice_run.specs.Differences.{difference_at, is_differ, offset_at}
use Rattle.jls_splice_run.specs.declared.differences.Difference.{Difference}

-- what stands at a place within a list, whatever stands beyond it
got_again : (ps : List Part) (i : ℕ) (d : Part) → i < length ps → get_or ps i d ≡ get_or ps i (get_or ps i d)
got_again [] i d within = absurd (omega (arith, within))
got_again (p ∷ ps) zero d within = refl
got_again (p ∷ ps) (suc i) d within = got_again ps i d (omega (arith, within))

-- the offset after a part
pub offset_one_more : (ps : List Part) (i : ℕ) → i < length ps
    → offset_at ps (i + 1) ≡ offset_at ps i + length (way 0 (get_or ps i (Same [])))
offset_one_more ps i within =
    ap length (flat_map_take_more (way 0) ps i (get_or ps i (Same [])) within (got_again ps i (Same []) within))
    ∙ length-append (made 0 (take i ps)) (way 0 (get_or ps i (Same [])))

-- no offset is beyond the first copy
pub offset_within : (parts : List Part) (i : ℕ) → offset_at parts i ≤ length (made 0 parts)
offset_within parts i =
    let whole : made 0 parts ≡ made 0 (take i parts) ++ made 0 (drop i parts) =
    ap (made 0) (sym (take-append-drop i parts)) ∙ flat_map-append (way 0) (take i parts) (drop i parts) in
    let size : length (made 0 parts) ≡ offset_at parts i + length (made 0 (drop i parts)) =
    ap length whole ∙ length-append (made 0 (take i parts)) (made 0 (drop i parts)) in
    omega (arith, size)

-- whether the copies differ at a part
differ_is : (p : Part) (b : Bool) → (IsTrue b ↔ Differs p) → is_differ p ≡ b
differ_is (Same bytes) true is = absurd (is.0 refl)
differ_is (Same bytes) false is = refl
differ_is (Differ ways) true is = refl
differ_is (Differ ways) false is = (let e = is.1 tt in absurd cc)

-- what is found at a part in which the copies differ, and at another
pub differ_found : (parts : List Part) (i : ℕ) (b : Bool) (offset size : ℕ) → (IsTrue b ↔ Differs (get_or parts i (Same []))) → b ≡ true
    → offset ≡ offset_at parts i → size ≡ length (way 0 (get_or parts i (Same [])))
    → difference_at parts i ≡ record { offset = offset; length = size } ∷ []
differ_found parts i b offset size is e here long = rw (differ_is (get_or parts i (Same [])) b is ∙ e, here, long) refl

pub same_found : (parts : List Part) (i : ℕ) (b : Bool) → (IsTrue b ↔ Differs (get_or parts i (Same []))) → b ≡ false
    → difference_at parts i ≡ []
same_found parts i b is e = rw (differ_is (get_or parts i (Same [])) b is ∙ e) refl

-- what is found with one part more
pub found_more : (parts : List Part) (i : ℕ) (before here after : List Difference)
    → before ≡ flat_map (difference_at parts) (range_with_len 0 i) → difference_at parts i ≡ here
    → after ≡ before ++ here → after ≡ flat_map (difference_at parts) (range_with_len 0 (i + 1))
found_more parts i before here after so_far is e =
    let f = difference_at parts in
    e ∙ ap (λ (xs : List Difference). xs ++ here) so_far ∙ ap (λ (xs : List Difference). flat_map f (range_with_len 0 i) ++ xs) (sym is)
    ∙ sym (flat_map_more f i)
