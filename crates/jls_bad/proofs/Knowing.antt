-- Known copies, from what is known of their bytes and what is chosen for the others.
use Rattle.std.proofs.Common.{◌≡◌, ℕ, ◌-◌, ◌<◌, ◌≤◌, ◌∙◌, Bool, true, false, List, [], ◌∷◌, ◌++◌, length, get_or, Option, Some, None, IfSome, slice_get, refl, sym, ap, subst, inl, inr, ◌⊎◌, ⊎_elim, arith}
use Rattle.std.specs.List.{AllZip}
use Rattle.std.proofs.lemmas.Option.{slice_get-get_or}
use Rattle.jls_bad.specs.Known.{Copy, byte_for, IsLost, IsKnownCopy}
use Rattle.jls_bad.specs.Inside.{IsFilled, IsChosen}

is_or_not : (b : Bool) → (b ≡ true) ⊎ (b ≡ false)
is_or_not true = inl refl
is_or_not false = inr refl

-- nothing is lost there, in the words of the marks
not_lost : (copies : List Copy) (copy : Copy) (bytes : List ℕ) (lost : List Bool) (offset : ℕ) → IsFilled (byte_for copies copy) (length copy.bytes) bytes lost → offset < length copy.bytes
    → (IsLost copies copy offset → ⊥) → get_or lost offset false ≡ false
not_lost copies copy bytes lost offset filled below is_there =
    ⊎_elim (λ e. absurd (is_there (filled.lost offset below e))) (λ e. e) (is_or_not (get_or lost offset false))

same_byte : (xs ys : List ℕ) (offset : ℕ) → offset < length xs → offset < length ys → get_or xs offset 0 ≡ get_or ys offset 0 → slice_get xs offset ≡ slice_get ys offset
same_byte xs ys offset h l e = slice_get-get_or xs offset 0 h ∙ (ap Some e ∙ sym (slice_get-get_or ys offset 0 l))

if_same : (byte other : Option ℕ) → byte ≡ other → IfSome byte (λ b. other ≡ Some b)
if_same byte None e = let P : Option ℕ → Type 0 = λ o. IfSome o (λ b. None ≡ Some b) in subst P (sym e) tt
if_same byte (Some x) e = let P : Option ℕ → Type 0 = λ o. IfSome o (λ b. Some x ≡ Some b) in subst P (sym e) refl

if_none : (byte other : Option ℕ) → byte ≡ None → IfSome byte (λ b. other ≡ Some b)
if_none byte other e = let P : Option ℕ → Type 0 = λ o. IfSome o (λ b. other ≡ Some b) in subst P (sym e) tt

known_bytes : (copies : List Copy) (copy : Copy) (bytes : List ℕ) (lost : List Bool) (known : List ℕ) → IsFilled (byte_for copies copy) (length copy.bytes) bytes lost → IsChosen bytes lost known
    → (offset : ℕ) → offset < length known → (0 < offset → IsLost copies copy (offset - 1) → ⊥) → IfSome (byte_for copies copy offset) (λ byte. slice_get known offset ≡ Some byte)
known_bytes copies copy bytes lost known filled chosen offset below before =
    let size : length bytes ≡ length copy.bytes = filled.size in
    let within : length known ≤ length bytes = chosen.size in
    ⊎_elim (λ e. if_none (byte_for copies copy offset) (slice_get known offset) (filled.lost offset (omega arith) e))
    (λ e.
    let kept : get_or known offset 0 ≡ get_or bytes offset 0 = chosen.kept offset below e (λ p. not_lost copies copy bytes lost (offset - 1) filled (omega arith) (before p)) in
    if_same (byte_for copies copy offset) (slice_get known offset) (filled.there offset (omega arith) e ∙ sym (same_byte known bytes offset below (omega arith) kept)))
    (is_or_not (get_or lost offset false))

some_same : (a b : ℕ) → Some a ≡ Some b → a ≡ b
some_same a b e = cc

lost_is_none : (byte : Option ℕ) (b : ℕ) → byte ≡ None → byte ≡ Some b → ⊥
lost_is_none byte b e f = absurd (none-is-some (sym e ∙ f))
  where
    none-is-some : None ≡ Some b → ⊥
    none-is-some g = cc

-- a byte FF stays
known_markers : (copies : List Copy) (copy : Copy) (bytes : List ℕ) (lost : List Bool) (known : List ℕ) → IsFilled (byte_for copies copy) (length copy.bytes) bytes lost → IsChosen bytes lost known
    → (offset : ℕ) → offset < length known → byte_for copies copy offset ≡ Some 0xFF → slice_get known offset ≡ Some 0xFF
known_markers copies copy bytes lost known filled chosen offset below is =
    let size : length bytes ≡ length copy.bytes = filled.size in
    let within : length known ≤ length bytes = chosen.size in
    let not : get_or lost offset false ≡ false = not_lost copies copy bytes lost offset filled (omega arith) (λ none. lost_is_none (byte_for copies copy offset) 0xFF none is) in
    let own : get_or bytes offset 0 ≡ 0xFF =
    some_same (get_or bytes offset 0) 0xFF (sym (slice_get-get_or bytes offset 0 (omega arith)) ∙ (sym (filled.there offset (omega arith) not) ∙ is)) in
    slice_get-get_or known offset 0 below ∙ ap Some (chosen.kept_markers offset below not own)

-- what is chosen for the lost bytes of a copy stands for it
pub known_from_chosen : (copies : List Copy) (copy : Copy) (bytes : List ℕ) (lost : List Bool) (known : List ℕ) → IsFilled (byte_for copies copy) (length copy.bytes) bytes lost → IsChosen bytes lost known → IsKnownCopy copies copy known
known_from_chosen copies copy bytes lost known filled chosen =
    let size : length bytes ≡ length copy.bytes = filled.size in
    let within : length known ≤ length bytes = chosen.size in
    record {
      size = omega arith;
      bytes = known_bytes copies copy bytes lost known filled chosen;
      kept_markers = known_markers copies copy bytes lost known filled chosen;
      cut = λ h. filled.lost (length known) (omega arith) (chosen.cut (omega arith));
    }

-- a fact of the bytes for a copy, in other words for these
pub filled_as : (f g : ℕ → Option ℕ) (size : ℕ) (bytes : List ℕ) (lost : List Bool) → ((offset : ℕ) → f offset ≡ g offset) → IsFilled f size bytes lost → IsFilled g size bytes lost
filled_as f g size bytes lost same filled = record {
  size = filled.size;
  lost = λ offset h e. sym (same offset) ∙ filled.lost offset h e;
  there = λ offset h e. sym (same offset) ∙ filled.there offset h e;
}

-- one copy more
pub all_zip_push : {A B : Type 0} (R : A → B → Type 0) (xs : List A) (ys : List B) (x : A) (y : B) → AllZip R xs ys → R x y → AllZip R (xs ++ x ∷ []) (ys ++ y ∷ [])
all_zip_push R [] [] x y all h = (h, tt)
all_zip_push R [] (b ∷ ys) x y all h = absurd all
all_zip_push R (a ∷ xs) [] x y all h = absurd all
all_zip_push R (a ∷ xs) (b ∷ ys) x y all h = (all.0, all_zip_push R xs ys x y all.1 h)
