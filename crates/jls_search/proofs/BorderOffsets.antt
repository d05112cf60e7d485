-- Offsets of borders in the files that choices make.
use Rattle.std.proofs.Common.{◌≡◌, ℕ, suc, ◌+◌, ◌<◌, ◌≤◌, List, [], length, take, ap, ◌∙◌, arith, length-append}
use Rattle.std.specs.Prelude.{get_or}
use Rattle.jls_diff.specs.Parts.{Part, Same, Differ, way}
use Rattle.jls_search.specs.Choices.{IsPath, prefix_of}
use Rattle.jls_search.proofs.Prefixes.{prefix_more, prefix_at_most}
use Rattle.jls_diff.specs.Borders.{IsBorder, IsBorderOf}
use Rattle.jls_search.specs.Places.{offset_of}
use Rattle.jls_diff.specs.declared.border.Border.{Border}

pub length_more : (ps : List Part) (cs : List ℕ) (i : ℕ) → IsPath ps cs → i < length cs
    → length (prefix_of ps (take (i + 1) cs)) ≡ length (prefix_of ps (take i cs)) + length (way (get_or cs i 0) (get_or ps i (Same [])))
length_more ps cs i path l =
    let e : i + 1 ≡ suc i = omega arith in
    rw e (ap length (prefix_more ps cs i path l) ∙ length-append (prefix_of ps (take i cs)) (way (get_or cs i 0) (get_or ps i (Same []))))

-- with one part more they are no more than all
pub more_fits : (ps : List Part) (cs : List ℕ) (i most : ℕ) → IsPath ps cs → i < length cs → length (prefix_of ps cs) ≤ most
    → length (prefix_of ps (take i cs)) + length (way (get_or cs i 0) (get_or ps i (Same []))) ≤ most
more_fits ps cs i most path l few =
    let m = length_more ps cs i path l in let n = prefix_at_most ps cs (i + 1) path in omega (arith, m, n, few)

within_part : (p : Part) (choice at : ℕ) → IsBorderOf p at → at ≤ length (way choice p)
within_part (Same bytes) choice at h = h.1
within_part (Differ ways) choice at h = absurd h

-- a border stands within the file
pub border_fits : (ps : List Part) (cs : List ℕ) (border : Border) (most : ℕ) → IsPath ps cs → border.part < length cs → IsBorder ps border
    → length (prefix_of ps cs) ≤ most → offset_of ps cs border ≤ most
border_fits ps cs border most path l is few =
    let m = more_fits ps cs border.part most path l few in
    let w = within_part (get_or ps border.part (Same [])) (get_or cs border.part 0) border.at is.1 in omega (arith, m, w)
