-- The cut of scan data, byte after byte, and that there is one alone.
use Rattle.std.proofs.Common.{◌≡◌, ℕ, zero, suc, ◌+◌, ◌<◌, true, false, ◌≢◌, List, [], ◌∷◌, ◌++◌, refl, ◌∙◌, ap, append_assoc, arith}
use Rattle.std.proofs.lemmas.List.{append-nil}
use Rattle.std.proofs.lemmas.Grind.{flat_map-append}
use Rattle.std.specs.List.{flat_map, AllByRecursion}
use Rattle.jls_copy.specs.ScanData.{ends_scan_data, closes_piece, IsPiece, ClosedPiece, at_input, at_marker, ScanCut, fill_bytes}
use Rattle.jls_copy.specs.ScanData.{closed_bytes, IsClosedPiece, IsCut}

-- one more fill byte at the end
pub fills_more : (n : ℕ) (rest : List ℕ) → fill_bytes n ++ (255 ∷ rest) ≡ fill_bytes (suc n) ++ rest
fills_more zero rest = refl
fills_more (suc n) rest = ap (λ t. 255 ∷ t) (fills_more n rest)

piece_fills : (n b : ℕ) → b ≢ 255 → (0 < n → closes_piece b ≡ false) → IsPiece (fill_bytes n ++ (b ∷ []))
piece_fills zero b ne free = ne
piece_fills (suc zero) b ne free = (λ _. free (omega arith), ne)
piece_fills (suc (suc n)) b ne free = (λ _. refl, piece_fills (suc n) b ne (λ _. free (omega arith)))

-- a piece goes on with held back fill bytes and a byte that isn't one and closes_piece nothing
pub piece_more : (w : List ℕ) (n b : ℕ) → IsPiece w → b ≢ 255 → (0 < n → closes_piece b ≡ false) → IsPiece (w ++ (fill_bytes n ++ (b ∷ [])))
piece_more [] n b p ne free = piece_fills n b ne free
piece_more (a ∷ []) zero b p ne free = (λ e. absurd (p e), ne)
piece_more (a ∷ []) (suc n) b p ne free = (λ e. absurd (p e), piece_fills (suc n) b ne free)
piece_more (a ∷ c ∷ w) n b p ne free = (p.0, piece_more (c ∷ w) n b p.1 ne free)

pub each_more : (cs : List ClosedPiece) (c : ClosedPiece) → AllByRecursion IsClosedPiece cs → IsClosedPiece c
    → AllByRecursion IsClosedPiece (cs ++ c ∷ [])
each_more [] c all here = (here, tt)
each_more (x ∷ xs) c all here = (all.0, each_more xs c all.1 here)

abbrev pub open_cut : List ClosedPiece → List ℕ → ℕ → ScanCut
open_cut closed last n = record { closed = closed; last = last; end = at_input n }

abbrev pub ended_cut : List ClosedPiece → List ℕ → ℕ → ℕ → List ℕ → ScanCut
ended_cut closed last n code more = record { closed = closed; last = last; end = at_marker n code more }

pub cut_none : IsCut [] (open_cut [] [] 0)
cut_none = record { whole = refl; each = tt; last = tt; end = tt }

module _ (bytes : List ℕ) (closed : List ClosedPiece) (last : List ℕ) where
  -- a byte FF more can be fill
  pub cut_fill : (n : ℕ) → IsCut bytes (open_cut closed last n) → IsCut (bytes ++ 255 ∷ []) (open_cut closed last (suc n))
  cut_fill n h = record {
    whole = let e : bytes ≡ flat_map closed_bytes closed ++ (last ++ fill_bytes n) = h.whole in
        ap (λ t. t ++ 255 ∷ []) e ∙ simp append_assoc
        (ap (λ t. flat_map closed_bytes closed ++ (last ++ t)) (fills_more n [] ∙ append-nil _));
    each = h.each;
    last = h.last;
    end = tt;
  }

  -- a byte that closes nothing belongs to the piece, with the bytes FF before it
  pub cut_more : (n b : ℕ) → IsCut bytes (open_cut closed last n) → b ≢ 255 → (0 < n → closes_piece b ≡ false)
      → IsCut (bytes ++ b ∷ []) (open_cut closed (last ++ (fill_bytes n ++ (b ∷ []))) 0)
  cut_more n b h ne free = record {
    whole = let e : bytes ≡ flat_map closed_bytes closed ++ (last ++ fill_bytes n) = h.whole in
        ap (λ t. t ++ b ∷ []) e ∙ simp (append_assoc, append-nil) refl;
    each = h.each;
    last = piece_more last n b h.last ne free;
    end = tt;
  }

  -- the code of a restart marker closes the piece
  pub cut_mark : (n m : ℕ) → IsCut bytes (open_cut closed last (suc n)) → m < 8
      → IsCut (bytes ++ (208 + m) ∷ []) (open_cut (closed ++ (record { piece = last; fill = n; mark = m }) ∷ []) [] 0)
  cut_mark n m h low = record {
    whole = let e : bytes ≡ flat_map closed_bytes closed ++ (last ++ fill_bytes (suc n)) = h.whole in
        ap (λ t. t ++ (208 + m) ∷ []) e ∙ simp (append_assoc, append-nil, flat_map-append, ← fills_more n) refl;
    each = each_more closed _ h.each (h.last, low);
    last = tt;
    end = tt;
  }

  -- the code of a marker that ends scan data ends the cut
  pub cut_end : (n code : ℕ) → IsCut bytes (open_cut closed last (suc n)) → ends_scan_data code ≡ true
      → IsCut (bytes ++ code ∷ []) (ended_cut closed last n code [])
  cut_end n code h ends = record {
    whole = let e : bytes ≡ flat_map closed_bytes closed ++ (last ++ fill_bytes (suc n)) = h.whole in
        ap (λ t. t ++ code ∷ []) e ∙ simp (append_assoc, ← fills_more n) refl;
    each = h.each;
    last = h.last;
    end = ends;
  }

  -- a byte after the end of scan data stands after it
  pub cut_after : (n code b : ℕ) (more : List ℕ) → IsCut bytes (ended_cut closed last n code more)
      → IsCut (bytes ++ b ∷ []) (ended_cut closed last n code (more ++ b ∷ []))
  cut_after n code b more h = record {
    whole = let e : bytes ≡ flat_map closed_bytes closed ++ (last ++ (fill_bytes n ++ (255 ∷ code ∷ more))) = h.whole in
        ap (λ t. t ++ b ∷ []) e ∙ simp append_assoc refl;
    each = h.each;
    last = h.last;
    end = h.end;
  }
