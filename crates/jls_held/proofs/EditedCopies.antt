-- Copies that are edited to one file, one copy more.
use Rattle.std.proofs.Common.{◌≡◌, ℕ, ◌+◌, ◌-◌, ◌<◌, Bool, true, false, List, [], ◌∷◌, ◌++◌, length, take, drop, get_or, replicate}
use Rattle.std.proofs.Common.{sym, ap, ◌∙◌, subst, arith, length-append}
use Rattle.std.proofs.lemmas.List.{length-replicate}
use Rattle.std.specs.List.{AllByRecursion}
use Rattle.jls_held.specs.MendedFiles.{MendedFile}
use Rattle.jls_held.specs.Edits.{Edit, edited, held_by_either}
use Rattle.jls_held.specs.Judging.{EditedCopy, FitsCopy, IsEditedTo, IsMendedOf, made_of, held_by_any}
use Rattle.jls_held.proofs.HeldMarks.{either_none, either_assoc, length-either}

-- as many bytes as marks of them
pub held_as_long : (at : ℕ) (copy : List ℕ) (edits : List Edit) → length (edited at copy edits).held ≡ length (edited at copy edits).bytes
held_as_long at copy [] = length-replicate (length copy) true
held_as_long at copy (e ∷ edits) =
    let own = take (e.offset - at) copy in
    let rest = edited (e.offset + e.count) (drop (e.offset - at + e.count) copy) edits in
    let h1 = length-append (replicate (length own) true) (replicate (length e.bytes) false ++ rest.held) in
    let h2 = length-append (replicate (length e.bytes) false) rest.held in
    let h3 = length-replicate (length own) true in let h4 = length-replicate (length e.bytes) false in
    let b1 = length-append own (e.bytes ++ rest.bytes) in let b2 = length-append e.bytes rest.bytes in
    let more = held_as_long (e.offset + e.count) (drop (e.offset - at + e.count) copy) edits in
    omega (arith, h1, h2, h3, h4, b1, b2, more)

-- The file is mended of the first copies of a coding, and of these others too if they make its bytes. No other file is mended of them all
pub record IsMendedSoFar (copies : List (List ℕ)) (coding others : List EditedCopy) (f : MendedFile) : Type 0 where
  pub as_long : length f.held ≡ length f.bytes
  pub enough : AllByRecursion (IsEditedTo copies f.bytes) others → AllByRecursion (IsEditedTo copies f.bytes) coding
  pub needed : (bytes : List ℕ) → AllByRecursion (IsEditedTo copies bytes) coding
      → (f.bytes ≡ bytes) × AllByRecursion (IsEditedTo copies bytes) others
  pub held : held_by_either f.held (held_by_any copies others) ≡ held_by_any copies coding

pub made_as_long : (copies : List (List ℕ)) (e : EditedCopy) (f : MendedFile) → f ≡ made_of copies e → length f.held ≡ length f.bytes
made_as_long copies e f is = subst (λ g. length g.held ≡ length g.bytes) (sym is) (held_as_long 0 (get_or copies e.number []) e.edits)

-- the file that the first copy's edits make is mended of that copy so far
pub first_made : (copies : List (List ℕ)) (coding others : List EditedCopy) (e : EditedCopy) (f : MendedFile)
    → coding ≡ e ∷ others → FitsCopy copies e → f ≡ made_of copies e → IsMendedSoFar copies coding others f
first_made copies coding others e f coding_is fits is = record {
  as_long = made_as_long copies e f is;
  enough = λ all. subst (AllByRecursion (IsEditedTo copies f.bytes)) (sym coding_is) (record { fits = fits; makes = ap (λ g. g.bytes) (sym is) }, all);
  needed = λ bytes all.
      let each = subst (AllByRecursion (IsEditedTo copies bytes)) coding_is all in (ap (λ g. g.bytes) is ∙ each.0.makes, each.1);
  held = ap (λ g. held_by_either g.held (held_by_any copies others)) is ∙ ap (held_by_any copies) (sym coding_is);
}

-- a file mended of some copies is mended of one more, if its edits make the same bytes
pub one_more : (copies : List (List ℕ)) (coding others : List EditedCopy) (e : EditedCopy) (f made : MendedFile) (held : List Bool)
    → IsMendedSoFar copies coding (e ∷ others) f → FitsCopy copies e → made ≡ made_of copies e → made.bytes ≡ f.bytes
    → held ≡ held_by_either f.held made.held → IsMendedSoFar copies coding others (record { bytes = f.bytes; held = held })
one_more copies coding others e f made held s fits is same held_is = record {
  as_long = ap length held_is
      ∙ (length-either f.held made.held (s.as_long ∙ (ap length (sym same) ∙ sym (made_as_long copies e made is))) ∙ s.as_long);
  enough = λ all. s.enough (record { fits = fits; makes = ap (λ g. g.bytes) (sym is) ∙ same }, all);
  needed = λ bytes all. let each = s.needed bytes all in (each.0, each.1.1);
  held = ap (λ ms. held_by_either ms (held_by_any copies others)) (held_is ∙ ap (λ g. held_by_either f.held g.held) is)
      ∙ (sym (either_assoc f.held (made_of copies e).held (held_by_any copies others)) ∙ s.held);
}

pub all_made : (copies : List (List ℕ)) (coding : List EditedCopy) (f : MendedFile)
    → IsMendedSoFar copies coding [] f → 0 < length coding → IsMendedOf copies coding f
all_made copies coding f s some = record { some_copy = some; each = s.enough tt; held_is = sym (either_none f.held) ∙ s.held }

pub unfit : (copies : List (List ℕ)) (coding others : List EditedCopy) (e : EditedCopy) (f g : MendedFile)
    → IsMendedSoFar copies coding (e ∷ others) f → (FitsCopy copies e → ⊥) → IsMendedOf copies coding g → ⊥
unfit copies coding others e f g s no_fit m = no_fit (s.needed g.bytes m.each).1.0.fits

-- a copy that makes other bytes leaves no file that all make
pub other_bytes : (copies : List (List ℕ)) (coding others : List EditedCopy) (e : EditedCopy) (f made g : MendedFile)
    → IsMendedSoFar copies coding (e ∷ others) f → made ≡ made_of copies e → (made.bytes ≡ f.bytes → ⊥) → IsMendedOf copies coding g → ⊥
other_bytes copies coding others e f made g s is differ m =
    let each = s.needed g.bytes m.each in differ (ap (λ h. h.bytes) is ∙ (each.1.0.makes ∙ sym each.0))
