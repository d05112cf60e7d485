-- A partial picture of which all readings are held, and chains of held lines.
use Rattle.std.proofs.Common.{◌≡◌, ℕ, ◌+◌, ◌<◌, true, false, Bool, eqb, List, [], ◌∷◌, ◌++◌, length, get_or, set, refl, sym, ap, ◌∙◌, subst}
use Rattle.std.proofs.Common.{inl, inr, arith, Vec, Global}
use Rattle.std.specs.Prelude.{◌||◌}
use Rattle.std.proofs.lemmas.Bool.{cases_Bool, cases_eq, cases_lt, and_parts, eqb-true, false≢true, or_left, or_right}
use Rattle.std.proofs.lemmas.Cmp.{tied_itself}
use Rattle.std.specs.Ordering.{eq_by_cmp, is_eq}
use Rattle.std.specs.Cmp.Lexicographic.{pointwise}
use Rattle.std.proofs.lemmas.List.{get_or_default, get_or-set_same, get_or-set_other}
use Rattle.std.proofs.lemmas.List.Elements.{All-push}
use Rattle.jls_values.specs.OrderedSetLaws.{contains-insert}
use Rattle.jls_partial.specs.Reading.{Reading, reading_of, reading_cmp}
use Rattle.jls_partial.specs.ReadingOrder.{reading_total, same_reading}
use Rattle.jls_partial.specs.Partial.{PartialPicture, with_reading}
use Rattle.jls_held.specs.declared.chain.ChainLine.{ChainLine}
use Rattle.jls_held.specs.MendedFiles.{MendedFile}
use Rattle.jls_held.specs.HeldLines.{IsHeld, IsHeldBehind, in_piece}
use Rattle.jls_held.specs.HeldPictures.{is_among}
use Rattle.jls_held.specs.Chains.{reading_in, IsChain, AreChains, AreFirstKnown, ArePlacesKnown, AreKept, IsHeldPicture}

-- what one reading more leaves of a partial picture, and what is new
module _ (p : PartialPicture) (component line : ℕ) (samples : List ℕ) where
  abbrev k : Reading
  k = reading_of component line samples

  abbrev more : PartialPicture
  more = with_reading p component line samples

  among_more : (r : Reading) → is_among more r ≡ (eq_by_cmp reading_cmp r k || is_among p r)
  among_more r = contains-insert reading_total p.readings k r

  pub kept_with : AreKept p more
  kept_with r e = among_more r ∙ or_right (eq_by_cmp reading_cmp r k) (is_among p r) e

  pub added : is_among more k ≡ true
  added = among_more k ∙ or_left (eq_by_cmp reading_cmp k k) (is_among p k) (ap is_eq (tied_itself reading_total k))

  -- a picture of held lines with one more that is held behind its readings
  pub held_with : (files : List MendedFile) → IsHeldPicture files p → IsHeldBehind files (is_among p) k → IsHeldPicture files more
  held_with files all own = record {
    held = λ r e. elim (cases_Bool (eq_by_cmp reading_cmp r k)) [
      | inl same ↦ subst (IsHeld files) (sym (same_reading r k same)) (in_piece own.code (λ s inside. all.held s (own.behind s inside)) k own.own)
      | inr other ↦ all.held r (before r e other)
    ];
    before = λ r e. elim (cases_Bool (eq_by_cmp reading_cmp r k)) [
      | inl same ↦ subst (IsHeldBehind files (is_among more)) (sym (same_reading r k same)) (behind_more files k own)
      | inr other ↦ behind_more files r (all.before r (before r e other))
    ];
  }
    where
      before : (r : Reading) → is_among more r ≡ true → eq_by_cmp reading_cmp r k ≡ false → is_among p r ≡ true
      before r e other = sym (ap (λ b. b || is_among p r) other) ∙ sym (among_more r) ∙ e

      behind_more : (files : List MendedFile) (r : Reading) → IsHeldBehind files (is_among p) r → IsHeldBehind files (is_among more) r
      behind_more files r b = record { code = b.code; behind = λ s inside. kept_with s (b.behind s inside); own = b.own }

-- lists of numbers that compare as equal are
pub same_numbers : (xs ys : List ℕ) → pointwise eqb xs ys ≡ true → xs ≡ ys
same_numbers [] [] e = refl
same_numbers [] (y ∷ ys) e = absurd (false≢true e)
same_numbers (x ∷ xs) [] e = absurd (false≢true e)
same_numbers (x ∷ xs) (y ∷ ys) e =
    let p = and_parts (eqb x y) (pointwise eqb xs ys) e in let h = eqb-true x y p.0 in let t = same_numbers xs ys p.1 in cc

-- one chain more
pub chains_push : (files : List MendedFile) (chains : List (Vec ChainLine Global)) (chain : Vec ChainLine Global) → AreChains files chains
    → IsChain files chain.items → AreChains files (chains ++ chain ∷ [])
chains_push files chains chain are own =
    let P : Vec ChainLine Global → Type 0 = λ v. IsChain files v.items in All-push P chains chain are own

-- the line at a place of a chain is held behind those before it
pub held_next : (files : List MendedFile) (chain : List ChainLine) (at : ℕ) (l : ChainLine) (known : Reading → Bool)
    → at < length chain → l ≡ get_or chain at l → IsChain files chain → AreFirstKnown known chain at → l.is_code_held ≡ true
    → IsHeldBehind files known (reading_in l)
held_next files chain at l known inside is are first marked =
    subst (λ (z : ChainLine). IsHeldBehind files known (reading_in z)) (sym is)
    (are at l inside (sym (ap (λ (z : ChainLine). z.is_code_held) is) ∙ marked) known first)

-- one line more of a chain is known
pub known_next : (chain : List ChainLine) (at : ℕ) (l : ChainLine) (known : Reading → Bool) → l ≡ get_or chain at l
    → AreFirstKnown known chain at → known (reading_in l) ≡ true → AreFirstKnown known chain (at + 1)
known_next chain at l known is first own k d low inside =
    elim (cases_lt k at) [
      | inl early ↦ first k d early inside
      | inr late ↦ (
          let same : k ≡ at = omega (arith, low, late) in
          subst (λ (z : ChainLine). known (reading_in z) ≡ true)
          (is ∙ get_or_default chain at l d (subst (λ n. n < length chain) same inside) ∙ ap (λ n. get_or chain n d) (sym same)) own)
    ]

-- what is known of a chain is where more readings are
pub known_kept : (chain : List ChainLine) (count : ℕ) (p q : PartialPicture) → AreKept p q → AreFirstKnown (is_among p) chain count
    → AreFirstKnown (is_among q) chain count
known_kept chain count p q kept first k d low inside = kept (reading_in (get_or chain k d)) (first k d low inside)

-- and of chains
pub places_kept : (chains : List (Vec ChainLine Global)) (places : List ℕ) (p q : PartialPicture) → AreKept p q
    → ArePlacesKnown (is_among p) chains places → ArePlacesKnown (is_among q) chains places
places_kept chains places p q kept are i d inside =
    known_kept (get_or chains i d).items (get_or places i 0) p q kept (are i d inside)

-- a chain's place goes on to another, up to which its lines are known
pub places_set : (chains : List (Vec ChainLine Global)) (places : List ℕ) (i next : ℕ) (chain : Vec ChainLine Global) (known : Reading → Bool)
    → length places ≡ length chains → chain ≡ get_or chains i chain → ArePlacesKnown known chains places
    → AreFirstKnown known chain.items next → ArePlacesKnown known chains (set places i next)
places_set chains places i next chain known count is are own j d inside =
    elim (cases_eq j i) [
      | inl same ↦ (
          let at = subst (λ n. n < length chains) same inside in
          subst (λ n. AreFirstKnown known (get_or chains j d).items n)
          (sym (ap (λ n. get_or (set places i next) n 0) same ∙ get_or-set_same places i next 0 (omega (arith, count, at))))
          (subst (λ (z : Vec ChainLine Global). AreFirstKnown known z.items next)
          (is ∙ get_or_default chains i chain d at ∙ ap (λ n. get_or chains n d) (sym same)) own))
      | inr other ↦ subst (λ n. AreFirstKnown known (get_or chains j d).items n) (sym (get_or-set_other places i j next 0 other)) (are j d inside)
    ]
