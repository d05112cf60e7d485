-- Bytes of a payload, taken at once, lead where they do one after another.
use Rattle.std.proofs.Common.{◌≡◌, ℕ, ◌+◌, ◌<◌, true, false, List, [], ◌∷◌, ◌++◌, length, refl, ap, ◌∙◌, append_assoc, length-append, arith}
use Rattle.std.proofs.Common.{add-zero}
use Rattle.std.proofs.lemmas.List.{append-nil}
use Rattle.std.proofs.lemmas.Bool.Decides.{nat_tests}
use Rattle.std.specs.Prelude.{◌==◌}
use Rattle.jls_marker.specs.HeaderState.{HeaderState}
use Rattle.jls_copy.specs.Pieces.{FoundPiece}
use Rattle.jls_copy.specs.ReaderState.{StateWithPieces, ReaderState, Step, reading_from, reading_with, with_segment}
use Rattle.jls_copy.specs.declared.place.CopyPosition.TheVariants.{InPayload}

-- a state after so many bytes
abbrev pub segment_state : ℕ → Step → ReaderState
segment_state count s = record { count = count; place = s.place; headers = s.headers; payload = s.payload }

module _ (h : HeaderState) (marker code size : ℕ) (ps : List FoundPiece) where
  abbrev pub at : ℕ → List ℕ → StateWithPieces
  at count payload =
      record { state = record { count = count; place = InPayload marker code size; headers = h; payload = payload }; pieces = ps }

  -- a byte that does not complete a payload is added to it
  payload_step : (count : ℕ) (payload : List ℕ) (b : ℕ) → length payload + 1 + 2 < size
      → reading_with (at count payload) b ≡ at (count + 1) (payload ++ b ∷ [])
  payload_step count payload b open_ =
      let not_whole : (length (payload ++ b ∷ []) + 2 == size) ≡ false = grind (arith, nat_tests, length-append payload (b ∷ []), open_) in
      rw (not_whole, append-nil ps) refl

  -- bytes that do not complete a payload are added to it, one after another
  pub payload_from : (xs : List ℕ) (count : ℕ) (payload : List ℕ) → length payload + length xs + 2 < size
      → reading_from (at count payload) xs ≡ at (count + length xs) (payload ++ xs)
  payload_from [] count payload open_ = rw (add-zero count, append-nil payload) refl
  payload_from (b ∷ xs) count payload open_ =
      let size_is : count + 1 + length xs ≡ count + length (b ∷ xs) = omega arith in
      ap (λ r. reading_from r xs) (payload_step count payload b (omega (arith, open_)))
      ∙ payload_from xs (count + 1) (payload ++ b ∷ []) (omega (arith, open_, length-append payload (b ∷ [])))
      ∙ rw (size_is, append_assoc payload (b ∷ []) xs) refl

  -- the last byte makes the segment whole
  whole_step : (count : ℕ) (payload : List ℕ) (b : ℕ) → length payload + 1 + 2 ≡ size
      → reading_with (at count payload) b
      ≡ record { state = segment_state (count + 1) (with_segment count h (payload ++ b ∷ []) marker code); pieces = ps }
  whole_step count payload b whole_ =
      let is_whole : (length (payload ++ b ∷ []) + 2 == size) ≡ true = grind (arith, nat_tests, length-append payload (b ∷ []), whole_) in
      rw (is_whole, append-nil ps) refl

  -- bytes that complete a payload lead, one after another, to where the segment is taken
  pub whole_from : (xs : List ℕ) (count before_last : ℕ) (payload : List ℕ) → 0 < length xs → length payload + length xs + 2 ≡ size
      → before_last + 1 ≡ count + length xs
      → reading_from (at count payload) xs
      ≡ record { state = segment_state (count + length xs) (with_segment before_last h (payload ++ xs) marker code); pieces = ps }
  whole_from [] count before_last payload some whole_ last = absurd (omega (arith, some))
  whole_from (b ∷ []) count before_last payload some whole_ last =
      let same : before_last ≡ count = omega (arith, last) in
      rw same (whole_step count payload b (omega (arith, whole_)))
  whole_from (b ∷ c ∷ more) count before_last payload some whole_ last =
      let size_is : count + 1 + length (c ∷ more) ≡ count + length (b ∷ c ∷ more) = omega arith in
      ap (λ r. reading_from r (c ∷ more)) (payload_step count payload b (omega (arith, whole_)))
      ∙ whole_from (c ∷ more) (count + 1) before_last (payload ++ b ∷ []) (omega arith)
      (omega (arith, whole_, length-append payload (b ∷ []))) (omega (arith, last))
      ∙ rw (size_is, append_assoc payload (b ∷ []) (c ∷ more)) refl
