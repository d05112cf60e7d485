-- Bytes that change nothing but their count lead, taken at once, where they do one after another.
use Rattle.std.proofs.Common.{◌≡◌, ℕ, zero, suc, ◌+◌, ◌<◌, ◌≤◌, true, List, [], ◌∷◌, take, length, get_or, refl, ap, ◌∙◌, arith, add-zero}
use Rattle.std.proofs.lemmas.List.{append-nil}
use Rattle.jls_marker.specs.HeaderState.{HeaderState}
use Rattle.jls_copy.specs.Pieces.{FoundPiece}
use Rattle.jls_copy.specs.ReaderState.{StateWithPieces, reading_from, reading_with}
use Rattle.jls_copy.specs.Stretch.{LeadsTo}
use Rattle.jls_copy.specs.declared.end.End.{End}
use Rattle.jls_copy.specs.declared.place.CopyPosition.{CopyPosition}
use Rattle.jls_copy.specs.declared.place.CopyPosition.TheVariants.{Start, AtMarker, Done}

module _ (h : HeaderState) (payload : List ℕ) (ps : List FoundPiece) where
  abbrev at : CopyPosition → ℕ → StateWithPieces
  at place count = record { state = record { count = count; place = place; headers = h; payload = payload }; pieces = ps }

  -- bytes at the start, each of which leaves the place as it is
  stays : (place : CopyPosition) (P : ℕ → Type 0) → ((count b : ℕ) → P b → reading_with (at place count) b ≡ at place (count + 1))
      → (xs : List ℕ) (n : ℕ) → ((k : ℕ) → k < n → P (get_or xs k 0)) → n ≤ length xs
      → (count : ℕ) → reading_from (at place count) (take n xs) ≡ at place (count + length (take n xs))
  stays place P step xs zero all within count = rw (add-zero count) refl
  stays place P step [] (suc n) all within count = absurd (omega (arith, within))
  stays place P step (b ∷ xs) (suc n) all within count =
      let size : count + 1 + length (take n xs) ≡ count + suc (length (take n xs)) = omega arith in
      ap (λ r. reading_from r (take n xs)) (step count b (all 0 (omega arith)))
      ∙ stays place P step xs n (λ k low. all (suc k) (omega (arith, low))) (omega (arith, within)) (count + 1) ∙ ap (at place) size

  at_start : (count b : ℕ) → b ≡ 0xFF → reading_with (at (Start true) count) b ≡ at (Start true) (count + 1)
  at_start count b e = rw (e, append-nil ps) refl

  at_marker : (count b : ℕ) → b ≡ 0xFF → reading_with (at (AtMarker true) count) b ≡ at (AtMarker true) (count + 1)
  at_marker count b e = rw (e, append-nil ps) refl

  at_end : (end : End) (count b : ℕ) → reading_with (at (Done end) count) b ≡ at (Done end) (count + 1)
  at_end end count b = rw (append-nil ps) refl

pub fill_at_start : (xs : List ℕ) (n : ℕ) → n ≤ length xs → ((k : ℕ) → k < n → get_or xs k 0 ≡ 0xFF)
    → LeadsTo (Start true) (take n xs) (Start true)
fill_at_start xs n within fill payload count h ps =
    stays h payload ps (Start true) (λ b. b ≡ 0xFF) (at_start h payload ps) xs n fill within count

pub fill_at_marker : (xs : List ℕ) (n : ℕ) → n ≤ length xs → ((k : ℕ) → k < n → get_or xs k 0 ≡ 0xFF)
    → LeadsTo (AtMarker true) (take n xs) (AtMarker true)
fill_at_marker xs n within fill payload count h ps =
    stays h payload ps (AtMarker true) (λ b. b ≡ 0xFF) (at_marker h payload ps) xs n fill within count

pub all_at_end : (end : End) (xs : List ℕ) (n : ℕ) → n ≤ length xs → LeadsTo (Done end) (take n xs) (Done end)
all_at_end end xs n within payload count h ps =
    stays h payload ps (Done end) (λ b. Unit {0}) (λ count b t. at_end h payload ps end count b) xs n (λ k low. tt) within count
