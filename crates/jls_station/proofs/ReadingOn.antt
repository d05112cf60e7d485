-- What the loop that reads an input says of a text and of a copy.
use Rattle.std.proofs.Common.{◌≡◌, ◌≤◌, ◌*◌, ◌++◌, ◌⊎◌, ℕ, Bool, true, false, List, Option, Some, None, Result, Ok, Err, length, sym}
use Rattle.std.proofs.Common.{subst, ap, inl, inr, refl, arith, ◌∙◌}
use Rattle.std.specs.Prelude.{IfOk, IfSome, IsSomeAnd, if◌then◌else◌}
use Rattle.std.specs.Io.KnownBytes.{Consumes, IsAtEnd}
use Rattle.jls_station.specs.Inputs.{IsCopyDone, IsEnough}
use Rattle.jls_station.specs.KnownCopies.{IsPrefixOf}
use Rattle.jls_station.specs.Texts.{is_text}
use Rattle.jls_station.specs.declared.input.ReadStop.{ReadStop}
use Rattle.jls_station.specs.declared.input.ReadStop.TheVariants.{Whole}
use Rattle.jls_station.proofs.CopySteps.{prefix_of, text_held, text_in}
use Rattle.jls_station.proofs.OneInput.{never_enough, same_first}

-- what follows from what holds of the answer
pub ok_so : {T E : Type 0} (P Q : T → Type 0) (r : Result T E) → ((x : T) → P x → Q x) → IfOk r P → IfOk r Q
ok_so P Q (Ok x) f h = f x h
ok_so P Q (Err e) f h = tt

-- what follows for some bytes follows where there are some
some_so : (P Q : List ℕ → Type 0) (o : Option (List ℕ)) → ((bytes : List ℕ) → P bytes → Q bytes) → IsSomeAnd o P → IsSomeAnd o Q
some_so P Q None f h = absurd h
some_so P Q (Some bytes) f h = f bytes h

module _ {E : Type 0} (r : Result ReadStop E) where
  -- a copy that begins as a text still does
  pub copy_begins : (held : Option (List ℕ)) (fed : List ℕ) → 1 ≤ length fed
      → IfOk r (λ stop. IsSomeAnd held (λ bytes. (more : List ℕ) × (bytes ≡ fed ++ more)))
      → IfOk r (λ stop. IsSomeAnd held (λ bytes. is_text bytes ≡ is_text fed))
  copy_begins held fed some =
      ok_so (λ stop. IsSomeAnd held (λ bytes. (more : List ℕ) × (bytes ≡ fed ++ more)))
      (λ stop. IsSomeAnd held (λ bytes. is_text bytes ≡ is_text fed)) r
      (λ stop. some_so (λ bytes. (more : List ℕ) × (bytes ≡ fed ++ more)) (λ bytes. is_text bytes ≡ is_text fed) held
      (λ bytes h. ap is_text h.1 ∙ same_first fed h.0 some))

  -- what was read of a copy of known bytes
  pub copy_known : (held before left : Option (List ℕ)) → IfOk r (λ stop. IsSomeAnd held (λ bytes. Consumes before left bytes))
      → IfOk r (λ stop. stop ≡ Whole → IsSomeAnd held IsCopyDone ⊎ IsAtEnd left)
      → IfOk r (λ stop. IsSomeAnd held (λ prefix. IfSome before (λ bytes. IsPrefixOf bytes prefix stop)))
  copy_known held before left h e = by r held h e
    where
      by : {E : Type 0} (r : Result ReadStop E) (held : Option (List ℕ))
          → IfOk r (λ stop. IsSomeAnd held (λ bytes. Consumes before left bytes))
          → IfOk r (λ stop. stop ≡ Whole → IsSomeAnd held IsCopyDone ⊎ IsAtEnd left)
          → IfOk r (λ stop. IsSomeAnd held (λ prefix. IfSome before (λ bytes. IsPrefixOf bytes prefix stop)))
      by (Err x) held h e = tt
      by (Ok stop) None h e = absurd h
      by (Ok stop) (Some bytes) h e = prefix_of before left bytes stop h e

-- what holds of the bytes of a text, once they are known to be one
pub text_is : (Q : List ℕ → Type 0) (bytes : List ℕ) → IsSomeAnd (text_in bytes) Q → (is_text bytes ≡ true) × Q bytes
text_is Q bytes = by (is_text bytes) refl
  where
    by : (b : Bool) → is_text bytes ≡ b → IsSomeAnd (if b then Some bytes else None) Q → (is_text bytes ≡ true) × Q bytes
    by true text h = (text, h)
    by false text h = absurd h

-- the first read of a text gave few bytes
pub text_few : (bytes : List ℕ) → is_text bytes ≡ true → length bytes ≤ 4096 → IsSomeAnd (text_in bytes) (λ fed. length fed ≤ 4096 * 1)
text_few bytes text few = subst (λ (o : Option (List ℕ)). IsSomeAnd o (λ fed. length fed ≤ 4096 * 1)) (sym (text_held bytes text))
    (omega (arith, few))

module _ {E : Type 0} (r : Result ReadStop E) (bytes : List ℕ) where
  pub still_a_text : (Q : List ℕ → Type 0) → IfOk r (λ stop. IsSomeAnd (text_in bytes) Q) → IfOk r (λ stop. is_text bytes ≡ true)
  still_a_text Q = ok_so (λ stop. IsSomeAnd (text_in bytes) Q) (λ stop. is_text bytes ≡ true) r (λ stop h. (text_is Q bytes h).0)

  pub so_of_text : (Q : ReadStop → List ℕ → Type 0) → IfOk r (λ stop. IsSomeAnd (text_in bytes) (Q stop)) → IfOk r (λ stop. Q stop bytes)
  so_of_text Q = ok_so (λ stop. IsSomeAnd (text_in bytes) (Q stop)) (λ stop. Q stop bytes) r (λ stop h. (text_is (Q stop) bytes h).1)

  -- a text that was read whole is at the end of its source
  pub text_at_end : (left : Option (List ℕ)) → IfOk r (λ stop. stop ≡ Whole → IsSomeAnd (text_in bytes) IsEnough ⊎ IsAtEnd left)
      → IfOk r (λ stop. stop ≡ Whole → IsAtEnd left)
  text_at_end left =
      ok_so (λ stop. stop ≡ Whole → IsSomeAnd (text_in bytes) IsEnough ⊎ IsAtEnd left) (λ stop. stop ≡ Whole → IsAtEnd left) r
      (λ stop h whole. elim (h whole) [
        | inl enough ↦ (let t = text_is IsEnough bytes enough in absurd (never_enough bytes t.0 t.1))
        | inr end ↦ end
      ])
