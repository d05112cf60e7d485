-- Bytes in which no place of a cut begins, and whose last one isn't 0xFF, are a stretch.
use Rattle.std.proofs.Common.{◌≡◌, ℕ, zero, suc, ◌+◌, ◌-◌, ◌<◌, ◌≤◌, ◌≢◌, List, [], ◌∷◌, take, length, get_or, subst, arith, inl, inr}
use Rattle.std.proofs.lemmas.Bool.{cases_lt}
use Rattle.jls_copy.specs.ScanData.{IsCutPlace}
use Rattle.jls_copy.specs.Stretch.{IsStretch}

-- the first n bytes hold no place of a cut
abbrev NoCut : List ℕ → ℕ → Type 0
NoCut bytes n = (i : ℕ) → i < n → IsCutPlace bytes i → ⊥

-- a cut place stays one behind a byte more
shifted : (b : ℕ) (bytes : List ℕ) (i : ℕ) → IsCutPlace bytes i → IsCutPlace (b ∷ bytes) (suc i)
shifted b bytes i h = record {
  within = omega (arith, h.within);
  is_ff = h.is_ff;
  is_code = subst (λ j. 0x80 ≤ get_or (b ∷ bytes) j 0) (let e : suc (i + 1) ≡ suc i + 1 = omega arith in e) h.is_code;
}

following : (b : ℕ) (bytes : List ℕ) (n : ℕ) → NoCut (b ∷ bytes) (suc n) → NoCut bytes n
following b bytes n none i low h = none (suc i) (omega (arith, low)) (shifted b bytes i h)

-- without a cut, a byte after FF is below 0x80
low_after : (b c : ℕ) (more : List ℕ) (n : ℕ) → NoCut (b ∷ c ∷ more) (suc n) → b ≡ 0xFF → c < 0x80
low_after b c more n none e = elim (cases_lt c 0x80) [
  | inl low ↦ low
  | inr high ↦ absurd (none 0 (omega arith) (record { within = omega arith; is_ff = e; is_code = high }))
]

-- the first n bytes are a stretch, if no cut begins in them and the last is not FF
pub stretch_of : (bytes : List ℕ) (n : ℕ) → NoCut bytes n → n ≤ length bytes → (0 < n → get_or bytes (n - 1) 0 ≢ 0xFF)
    → IsStretch (take n bytes)
stretch_of bytes zero none within last = tt
stretch_of [] (suc n) none within last = absurd (omega (arith, within))
stretch_of (b ∷ bytes) (suc zero) none within last = last (omega arith)
stretch_of (b ∷ []) (suc (suc n)) none within last = absurd (omega (arith, within))
stretch_of (b ∷ c ∷ more) (suc (suc n)) none within last = (
  low_after b c more (suc n) none,
  stretch_of (c ∷ more) (suc n) (following b (c ∷ more) (suc n) none) (omega (arith, within)) (λ _. moved (last (omega arith))),
)
  where
    moved : get_or (b ∷ c ∷ more) (suc (suc n) - 1) 0 ≢ 0xFF → get_or (c ∷ more) (suc n - 1) 0 ≢ 0xFF
    moved = subst (λ j. get_or (b ∷ c ∷ more) j 0 ≢ 0xFF) (let e : suc (suc n) - 1 ≡ suc (suc n - 1) = omega arith in e)

-- the first n bytes without their last, which is FF, are a stretch, if no cut begins in them
pub stretch_before : (bytes : List ℕ) (n : ℕ) → NoCut bytes n → n ≤ length bytes → 0 < n → get_or bytes (n - 1) 0 ≡ 0xFF
    → IsStretch (take (n - 1) bytes)
stretch_before bytes n none within some is_ff =
    let code : 0x80 ≤ get_or bytes (n - 1) 0 = omega (arith, is_ff) in
    stretch_of bytes (n - 1) (λ i low. none i (omega (arith, low))) (omega (arith, within))
    (λ more first. none (n - 1 - 1) (omega (arith, more)) (record {
      within = omega (arith, more, within);
      is_ff = first;
      is_code = subst (λ i. 0x80 ≤ get_or bytes i 0) (omega (arith, more)) code;
    }))
