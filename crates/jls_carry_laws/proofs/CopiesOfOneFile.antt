-- A file that is mended of copies of one true file: the true file has each byte that one of the copies has.
use Rattle.std.proofs.Common.{◌≡◌, ℕ, ◌<◌, List, [], ◌∷◌, length, get_or, sym, ap, ◌∙◌, subst, arith}
use Rattle.std.proofs.lemmas.Bool.{false≢true}
use Rattle.std.specs.List.{AllByRecursion}
use Rattle.jls_held.specs.MendedFiles.{HasHeldBytes}
use Rattle.jls_held.specs.Judging.{EditedCopy, IsEditedTo, made_of, held_by_any}
use Rattle.jls_carry_laws.specs.TrueFiles.{IsCopyOf}
use Rattle.jls_carry_laws.specs.Laws.{JudgedFilesHaveTrueBytes}
use Rattle.jls_carry_laws.proofs.EditedFiles.{refilled_edits_keep, bytes_are_held_by_either}

-- what one copy has
of_one : (copies : List (List ℕ)) (bytes truth : List ℕ) (e : EditedCopy) → IsEditedTo copies bytes e → IsCopyOf copies truth e
    → HasHeldBytes (record { bytes = bytes; held = (made_of copies e).held }) truth × (length bytes ≡ length truth)
of_one copies bytes truth e made copy =
    let keep = refilled_edits_keep (get_or copies e.number []) e.edits copy.edits copy.are_refilled in (
      subst (λ xs. HasHeldBytes (record { bytes = xs; held = (made_of copies e).held }) truth) made.makes
          (subst (HasHeldBytes (made_of copies e)) copy.makes keep.0),
      ap length (sym made.makes) ∙ (keep.1 ∙ ap length copy.makes),
    )

of_any : (copies : List (List ℕ)) (bytes truth : List ℕ) (coding : List EditedCopy)
    → AllByRecursion (IsEditedTo copies bytes) coding → AllByRecursion (IsCopyOf copies truth) coding
    → HasHeldBytes (record { bytes = bytes; held = held_by_any copies coding }) truth
of_any copies bytes truth [] made each = λ offset e. absurd (false≢true e)
of_any copies bytes truth (e ∷ coding) made each =
    bytes_are_held_by_either bytes truth (made_of copies e).held (held_by_any copies coding)
    (of_one copies bytes truth e made.0 each.0).0 (of_any copies bytes truth coding made.1 each.1)

of_first : (copies : List (List ℕ)) (bytes truth : List ℕ) (coding : List EditedCopy) → 0 < length coding
    → AllByRecursion (IsEditedTo copies bytes) coding → AllByRecursion (IsCopyOf copies truth) coding → length bytes ≡ length truth
of_first copies bytes truth [] some made each = absurd (omega (arith, some))
of_first copies bytes truth (e ∷ coding) some made each = (of_one copies bytes truth e made.0 each.0).1

pub judged_files_have_true : JudgedFilesHaveTrueBytes
judged_files_have_true copies coding f truth m each = (
  subst (λ held. HasHeldBytes (record { bytes = f.bytes; held = held }) truth) (sym m.held_is) (of_any copies f.bytes truth coding m.each each),
  of_first copies f.bytes truth coding m.some_copy m.each each,
)
