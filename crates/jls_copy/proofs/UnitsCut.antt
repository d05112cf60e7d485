-- The scan data of a unit is cut as the unit says.
use Rattle.std.proofs.Common.{◌≡◌, ℕ, List, ◌∷◌, ◌++◌, refl, append_assoc}
use Rattle.std.proofs.lemmas.List.{append-nil}
use Rattle.std.specs.List.{flat_map, AllByRecursion}
use Rattle.jls_copy.specs.ScanData.{fill_bytes, ClosedPiece, closed_bytes, IsClosedPiece, IsPiece, ScanCut, ScanEnd, IsCut, at_input}
use Rattle.jls_copy.specs.ScanData.{at_marker}
use Rattle.jls_copy.specs.Course.{LastClosed, by_input, by_marker, scan_data_bytes, IsClosing}
use Rattle.jls_copy.specs.CutLaws.{UnitsAreCut}
use Rattle.jls_copy.proofs.OneCut.{same_cut}

abbrev cut_of : List ClosedPiece → List ℕ → ScanEnd → ScanCut
cut_of closed last end = record { closed = closed; last = last; end = end }

-- closed pieces and a last one, with what closes it, are a cut of their bytes
cut_so : (closed : List ClosedPiece) (last : List ℕ) (closing : LastClosed) (rest : List ℕ) → AllByRecursion IsClosedPiece closed
    → IsPiece last
    → IsClosing closing rest → (end : ScanEnd) × IsCut (scan_data_bytes closed last closing ++ rest) (cut_of closed last end)
cut_so closed last (by_input count) rest each piece h = (
  at_input count,
  record { whole = rw h (append-nil (flat_map closed_bytes closed ++ (last ++ fill_bytes count))); each = each; last = piece; end = tt },
)
cut_so closed last by_marker rest each piece h = (
  at_marker h.fill h.code h.following,
  record {
    whole = let is : rest ≡ fill_bytes h.fill ++ (0xFF ∷ h.code ∷ h.following) = h.bytes_are in
        rw is (simp (append_assoc, append-nil) refl);
    each = each;
    last = piece;
    end = h.ends;
  },
)

pub units_cut : UnitsAreCut
units_cut before after fill code payload s closed last closing rest unit =
    let c = cut_so closed last closing rest unit.2 unit.3 unit.4 in
    (cut_of closed last c.0, c.1, refl, refl, λ d h. same_cut _ d (cut_of closed last c.0) h c.1)
