-- Tests for worked examples: what they compute gives what a definition says of each byte.
use Rattle.std.proofs.Common.{◌≡◌, ℕ, ◌+◌, ◌<◌, Bool, true, false, List, [], ◌∷◌, ◌++◌, length, sym, ◌∙◌, subst, arith, inl, inr, get_or}
use Rattle.std.specs.Prelude.{◌&&◌, ◌||◌, ◌==◌, not, nat_lt}
use Rattle.std.specs.List.{AllByRecursion, list_all}
use Rattle.std.proofs.lemmas.Bool.{and_parts, and_cases, and_from, ltb-true, lt-ltb, eq-eqb, not-true, agree_below, agree_below_at}
use Rattle.std.proofs.lemmas.Bool.{true≢false}
use Rattle.jls_piece.specs.Lines.{PieceShape}
use Rattle.jls_copy.specs.ScanData.{IsPiece, closes_piece}
use Rattle.jls_held.specs.MendedFiles.{MendedFile, IsHeldByte}
use Rattle.jls_held.specs.LineCode.{code_length, bits_before, IsByteOf}

-- numbers that are all below 256
pub bytes_of_test : (bytes : List ℕ) → list_all (λ b. nat_lt b 256) bytes ≡ true → AllByRecursion (λ b. b < 256) bytes
bytes_of_test [] e = tt
bytes_of_test (b ∷ bytes) e =
    let p = and_parts (nat_lt b 256) (list_all (λ c. nat_lt c 256) bytes) e in (ltb-true _ _ p.0, bytes_of_test bytes p.1)

abbrev pub piece_test : List ℕ → Bool
piece_test [] = true
piece_test (b ∷ []) = nat_lt b 0xFF
piece_test (b ∷ c ∷ more) = not (b == 0xFF && closes_piece c) && piece_test (c ∷ more)

-- bytes that can come between two marks
pub piece_of_test : (bytes : List ℕ) → piece_test bytes ≡ true → IsPiece bytes
piece_of_test [] e = tt
piece_of_test (b ∷ []) e = λ is. let l = ltb-true b 0xFF e in omega (arith, l, is)
piece_of_test (b ∷ (c ∷ more)) e =
    let p = and_parts (not (b == 0xFF && closes_piece c)) (piece_test (c ∷ more)) e in (
      λ is. elim (and_cases (b == 0xFF) (closes_piece c) (not-true _ p.0)) [
        | inl other ↦ absurd (true≢false (sym (eq-eqb b 0xFF is) ∙ other))
        | inr none ↦ none
      ],
      piece_of_test (c ∷ more) p.1,
    )

-- whether the byte at a place of a piece carries one of the bits from this one on, up to that one
abbrev pub carries : List ℕ → ℕ → ℕ → ℕ → Bool
carries piece start end place = nat_lt (bits_before piece place) end && nat_lt start (bits_before piece (place + 1))

abbrev pub code_test : MendedFile → ℕ → List ℕ → ℕ → ℕ → Bool
code_test f offset piece start end =
    agree_below (λ place. not (carries piece start end place) || get_or f.held (offset + place) false) (λ place. true) (length piece)

or_right_of : (x y : Bool) → (not x || y) ≡ true → x ≡ true → y ≡ true
or_right_of true y e is = e
or_right_of false y e is = absurd (true≢false (sym is))

-- all bytes of the code of lines are held, if it begins and ends with these bits
pub code_of_test : (f : MendedFile) (offset : ℕ) (i : PieceShape) (piece : List ℕ) (before lines : List (List ℕ)) (start end : ℕ)
    → code_length i before ≡ start → code_length i (before ++ lines) ≡ end → code_test f offset piece start end ≡ true
    → (place : ℕ) → IsByteOf i piece before lines place → IsHeldByte f (offset + place)
code_of_test f offset i piece before lines start end starts ends test place b =
    let low : bits_before piece place < end = subst (λ n. bits_before piece place < n) ends b.begins_before_its_end in
    let high : start < bits_before piece (place + 1) = subst (λ n. n < bits_before piece (place + 1)) starts b.ends_after_its_begin in
    or_right_of (carries piece start end place) (get_or f.held (offset + place) false)
    (agree_below_at (λ k. not (carries piece start end k) || get_or f.held (offset + k) false) (λ k. true) (length piece) place test b.within)
    (and_from _ _ (lt-ltb _ _ low) (lt-ltb _ _ high))
