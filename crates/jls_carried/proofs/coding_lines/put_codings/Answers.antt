use Rattle.std.proofs.Common.{◌≡◌, ℕ, ◌+◌, ◌++◌, List, Vec, Global, length, take, ap, subst, sym, ◌∙◌, arith}
use Rattle.std.specs.List.{AllByRecursion}
use Rattle.std.proofs.lemmas.List.{append_assoc, length-map, length-take-le}
use Rattle.jls_held.specs.Judging.{EditedCopy, coding_of, codings_of}
use Rattle.jls_held.specs.declared.judging.EditedCopy.{EditedCopy as EditedCopyValue}
use Rattle.jls_carried.specs.CodingLines.{HasPrintedNumber, coding_line, coding_lines_from}
use Rattle.jls_carried.proofs.CodingNumbers.{coding_more}
use Rattle.jls_carried.proofs.MappedLists.{mapped_at, mapped_one_more}
use Rattle.jls_carried.proofs.coding_lines.put_codings.Goals as goal

-- the copies of a coding, as the code holds them
abbrev coding_in : Vec EditedCopyValue Global → List EditedCopy
coding_in coding = coding_of coding.items

pub put_coding-requires : goal.put_coding-requires
put_coding-requires c =
    let v = c.index-codings-place.result in
    subst (λ (xs : List EditedCopyValue). AllByRecursion HasPrintedNumber (coding_of xs)) (sym c.deref.ensures.value)
    (mapped_at (AllByRecursion HasPrintedNumber) coding_in c.args.codings.now c.loop-place.place v v c.loop-place-test.true
    c.index-codings-place.is c.requires)

pub loop-place-preserved : goal.loop-place-preserved
loop-place-preserved c =
    let codings = c.args.codings.now in
    let place = c.loop-place.place in
    let v = c.index-codings-place.result in
    let before = codings_of (take place codings) in
    let out = c.args.out.now.items in
    let within = c.loop-place-test.true in
    let counted = length-map (take place codings) coding_in in
    let taken = length-take-le place codings (omega (arith, within)) in
    let number : 1 + length before ≡ place + 1 = omega (arith, counted, taken) in
    let all : coding_lines_from 1 (codings_of (take (place + 1) codings)) ≡ coding_lines_from 1 before ++ coding_line (place + 1) (coding_in v) =
    ap (coding_lines_from 1) (mapped_one_more coding_in codings place v within c.index-codings-place.is)
    ∙ coding_more 1 before (coding_in v) ∙ ap (λ (k : ℕ). coding_lines_from 1 before ++ coding_line k (coding_in v)) number in
    c.in_ok-put_coding.ensures
    ∙ (λ i. c.loop-place.invariant i ++ coding_line (place + 1) (coding_of (c.deref.ensures.value i)))
    ∙ append_assoc out (coding_lines_from 1 before) (coding_line (place + 1) (coding_in v))
    ∙ ap (λ (t : List ℕ). out ++ t) (sym all)
