-- Copies with bad places, and what can stand for them, by hand.
use Rattle.std.proofs.Common.{◌≡◌, ℕ, zero, suc, ◌-◌, ◌<◌, List, [], ◌∷◌, Some, None, IfSome, slice_get, refl, sym, arith}
use Rattle.jls_bad.specs.Known.{Copy, byte_for, IsLost, IsKnownCopy, AreKnownCopies}

-- its second and third bytes are bad
abbrev first : Copy
first = record { bytes = 1 ∷ 2 ∷ 3 ∷ 4 ∷ 5 ∷ []; places = record { offset = 1; length = 2 } ∷ [] }

-- its third byte is bad, and what would be its sixth
abbrev second : Copy
second = record { bytes = 1 ∷ 9 ∷ 7 ∷ 4 ∷ 6 ∷ []; places = record { offset = 5; length = 1 } ∷ record { offset = 2; length = 1 } ∷ [] }

-- one is shorter and one is longer, and none of their bytes is bad
abbrev shorter : Copy
shorter = record { bytes = 1 ∷ 8 ∷ 8 ∷ 8 ∷ []; places = [] }

abbrev longer : Copy
longer = record { bytes = 1 ∷ 7 ∷ 7 ∷ 7 ∷ 7 ∷ 7 ∷ []; places = [] }

abbrev copies : List Copy
copies = first ∷ second ∷ []

pub own : byte_for copies first 0 ≡ Some 1
own = refl

pub of_the_second : byte_for copies first 1 ≡ Some 9
of_the_second = refl

pub of_none : IsLost copies first 2
of_none = refl

pub of_its_own : byte_for copies second 4 ≡ Some 6
of_its_own = refl

-- the bytes of copies of another length don't count
pub of_the_one_as_long : byte_for (shorter ∷ first ∷ longer ∷ second ∷ []) first 1 ≡ Some 9
of_the_one_as_long = refl

pub none_as_long : IsLost (shorter ∷ first ∷ longer ∷ []) first 1
none_as_long = refl

pub past_all : IsLost copies second 5
past_all = refl

two_values : (a b : ℕ) → Some a ≡ Some b → a ≡ b
two_values a b e = cc

some_is_none : (a x y : ℕ) → Some a ≡ None → x ≡ y
some_is_none a x y e = cc

-- cut before the lost byte
pub cut_first : IsKnownCopy copies first (1 ∷ 9 ∷ [])
cut_first = record { size = omega arith; bytes = by; kept_markers = markers; cut = λ h. refl }
  where
    by : (offset : ℕ) → offset < 2 → (0 < offset → IsLost copies first (offset - 1) → ⊥) → IfSome (byte_for copies first offset) (λ byte. slice_get (1 ∷ 9 ∷ []) offset ≡ Some byte)
    by zero h before = refl
    by (suc zero) h before = refl
    by (suc (suc offset)) h before = absurd (omega (arith, h))

    markers : (offset : ℕ) → offset < 2 → byte_for copies first offset ≡ Some 0xFF → slice_get {X = ℕ} (1 ∷ 9 ∷ []) offset ≡ Some 0xFF
    markers zero h e = absurd (omega (arith, two_values 1 0xFF e))
    markers (suc zero) h e = absurd (omega (arith, two_values 9 0xFF e))
    markers (suc (suc offset)) h e = absurd (omega (arith, h))

-- with a marker over the lost byte and the one behind it
pub marked_first : IsKnownCopy copies first (1 ∷ 9 ∷ 0xFF ∷ 0xD8 ∷ 5 ∷ [])
marked_first = record { size = omega arith; bytes = by; kept_markers = markers; cut = λ h. absurd (omega (arith, h)) }
  where
    by : (offset : ℕ) → offset < 5 → (0 < offset → IsLost copies first (offset - 1) → ⊥) → IfSome (byte_for copies first offset) (λ byte. slice_get (1 ∷ 9 ∷ 0xFF ∷ 0xD8 ∷ 5 ∷ []) offset ≡ Some byte)
    by zero h before = refl
    by (suc zero) h before = refl
    by (suc (suc zero)) h before = tt
    by (suc (suc (suc zero))) h before = absurd (before (omega arith) refl)
    by (suc (suc (suc (suc zero)))) h before = refl
    by (suc (suc (suc (suc (suc offset))))) h before = absurd (omega (arith, h))

    markers : (offset : ℕ) → offset < 5 → byte_for copies first offset ≡ Some 0xFF → slice_get {X = ℕ} (1 ∷ 9 ∷ 0xFF ∷ 0xD8 ∷ 5 ∷ []) offset ≡ Some 0xFF
    markers zero h e = absurd (omega (arith, two_values 1 0xFF e))
    markers (suc zero) h e = absurd (omega (arith, two_values 9 0xFF e))
    markers (suc (suc zero)) h e = absurd (omega (arith, some_is_none 0xFF 0 1 (sym e)))
    markers (suc (suc (suc zero))) h e = absurd (omega (arith, two_values 4 0xFF e))
    markers (suc (suc (suc (suc zero)))) h e = absurd (omega (arith, two_values 5 0xFF e))
    markers (suc (suc (suc (suc (suc offset))))) h e = absurd (omega (arith, h))

-- no other byte stands where one is known
pub not_otherwise : IsKnownCopy copies first (1 ∷ 2 ∷ 3 ∷ 4 ∷ 5 ∷ []) → ⊥
not_otherwise h = omega (arith, two_values 2 9 (h.bytes 1 (omega arith) (λ p lost. absurd (omega (arith, some_is_none 1 0 1 lost)))))

-- it is not cut elsewhere
pub not_cut : IsKnownCopy copies first (1 ∷ 9 ∷ 3 ∷ []) → ⊥
not_cut h = omega (arith, some_is_none 4 0 1 (h.cut (omega arith)))

-- the second copy, with another byte in place of the lost one
pub other_second : IsKnownCopy copies second (1 ∷ 9 ∷ 0 ∷ 4 ∷ 6 ∷ [])
other_second = record { size = omega arith; bytes = by; kept_markers = markers; cut = λ h. absurd (omega (arith, h)) }
  where
    by : (offset : ℕ) → offset < 5 → (0 < offset → IsLost copies second (offset - 1) → ⊥) → IfSome (byte_for copies second offset) (λ byte. slice_get (1 ∷ 9 ∷ 0 ∷ 4 ∷ 6 ∷ []) offset ≡ Some byte)
    by zero h before = refl
    by (suc zero) h before = refl
    by (suc (suc zero)) h before = tt
    by (suc (suc (suc zero))) h before = refl
    by (suc (suc (suc (suc zero)))) h before = refl
    by (suc (suc (suc (suc (suc offset))))) h before = absurd (omega (arith, h))

    markers : (offset : ℕ) → offset < 5 → byte_for copies second offset ≡ Some 0xFF → slice_get {X = ℕ} (1 ∷ 9 ∷ 0 ∷ 4 ∷ 6 ∷ []) offset ≡ Some 0xFF
    markers zero h e = absurd (omega (arith, two_values 1 0xFF e))
    markers (suc zero) h e = absurd (omega (arith, two_values 9 0xFF e))
    markers (suc (suc zero)) h e = absurd (omega (arith, some_is_none 0xFF 0 1 (sym e)))
    markers (suc (suc (suc zero))) h e = absurd (omega (arith, two_values 4 0xFF e))
    markers (suc (suc (suc (suc zero)))) h e = absurd (omega (arith, two_values 6 0xFF e))
    markers (suc (suc (suc (suc (suc offset))))) h e = absurd (omega (arith, h))

pub both : AreKnownCopies copies ((1 ∷ 9 ∷ []) ∷ (1 ∷ 9 ∷ 0 ∷ 4 ∷ 6 ∷ []) ∷ [])
both = (cut_first, (other_second, tt))

-- its second byte is bad, and a marker follows
abbrev third : Copy
third = record { bytes = 1 ∷ 2 ∷ 0xFF ∷ 0xD0 ∷ []; places = record { offset = 1; length = 1 } ∷ [] }

-- the byte FF behind the lost one stays
pub not_without_the_marker : IsKnownCopy (third ∷ []) third (1 ∷ 0xFF ∷ 0xD8 ∷ 0xD0 ∷ []) → ⊥
not_without_the_marker h = omega (arith, two_values 0xD8 0xFF (h.kept_markers 2 (omega arith) refl))
