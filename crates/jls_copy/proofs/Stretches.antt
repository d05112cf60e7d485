-- A stretch of scan data, taken at once, leads where its bytes do one after another.
use Rattle.std.proofs.Common.{◌≡◌, ℕ, ◌+◌, ◌<◌, false, ◌≢◌, List, [], ◌∷◌, ◌++◌, length, Option, Some, None, refl, sym, ap, ◌∙◌, subst}
use Rattle.std.proofs.Common.{append_assoc, arith, add-zero, ◌⊎◌, inl, inr}
use Rattle.std.proofs.lemmas.List.{append-nil}
use Rattle.std.proofs.lemmas.Bool.{cases_eq}
use Rattle.std.proofs.lemmas.Bool.Decides.{nat_tests}
use Rattle.std.specs.Prelude.{◌==◌}
use Rattle.std.specs.Option.{option_map}
use Rattle.jls_marker.specs.HeaderState.{HeaderState}
use Rattle.jls_copy.specs.Pieces.{FoundPiece}
use Rattle.jls_copy.specs.ScanData.{is_restart_code, ends_scan_data}
use Rattle.jls_copy.specs.ReaderState.{StateWithPieces, reading_from, reading_with, piece_with, scan_with, class_of}
use Rattle.jls_copy.specs.Sound.{IsPlace}
use Rattle.jls_copy.specs.Stretch.{IsStretch, LeadsTo}
use Rattle.jls_copy.proofs.Outcomes.{fed_sound}
use Rattle.jls_values.specs.Shape.{PictureShape}
use Rattle.jls_copy.specs.declared.piece.OpenPiece.{OpenPiece}
use Rattle.jls_copy.specs.declared.piece.OpenPiece.TheVariants as open_piece
use Rattle.jls_copy.specs.declared.scan.ByteClass.TheVariants.{Data}
use Rattle.jls_copy.specs.declared.scan.Held.{Held}
use Rattle.jls_copy.specs.declared.scan.Held.TheVariants.{Nothing, One}
use Rattle.jls_copy.specs.declared.scan.OpenScan.{OpenScan}
use Rattle.jls_copy.specs.declared.place.CopyPosition.TheVariants.{InScan}

-- telling a piece nothing, or in two parts
fed_none : (o : Option (List ℕ)) → option_map (λ bytes. bytes ++ []) o ≡ o
fed_none None = refl
fed_none (Some bytes) = ap Some (append-nil bytes)

fed_parts : (o : Option (List ℕ)) (xs ys : List ℕ)
    → option_map (λ bytes. bytes ++ ys) (option_map (λ bytes. bytes ++ xs) o) ≡ option_map (λ bytes. bytes ++ (xs ++ ys)) o
fed_parts None xs ys = refl
fed_parts (Some bytes) xs ys = ap Some (append_assoc bytes xs ys)

with_none : (piece : OpenPiece) → piece_with piece [] ≡ piece
with_none (open_piece.Within k d) = ap (λ o. open_piece.Within k (record d { bytes = o })) (fed_none d.bytes)
with_none (open_piece.Beyond k) = refl

with_parts : (piece : OpenPiece) (xs ys : List ℕ) → piece_with (piece_with piece xs) ys ≡ piece_with piece (xs ++ ys)
with_parts (open_piece.Within k d) xs ys = ap (λ o. open_piece.Within k (record d { bytes = o })) (fed_parts d.bytes xs ys)
with_parts (open_piece.Beyond k) xs ys = refl

data_alone : (b : ℕ) → b ≢ 0xFF → class_of Nothing b ≡ Data
data_alone b ne = let not_fill : (b == 0xFF) ≡ false = grind (arith, nat_tests) in rw not_fill refl

-- a byte below 0x80 is no code of a marker
data_after : (b : ℕ) → b < 0x80 → class_of One b ≡ Data
data_after b low =
    let not_fill : (b == 0xFF) ≡ false = grind (arith, nat_tests, low) in
    let no_mark : is_restart_code b ≡ false = grind (arith, nat_tests, low) in
    let no_end : ends_scan_data b ≡ false = grind (arith, nat_tests, low) in
    rw (not_fill, no_mark, no_end) refl

-- a scan that holds nothing back, or one byte 0xFF, with such a piece
abbrev holding : OpenScan → Held → OpenPiece → OpenScan
holding scan held piece = record scan { held = held; piece = piece }

module _ (scan : OpenScan) (h : HeaderState) (payload : List ℕ) where
  abbrev at : ℕ → Held → OpenPiece → List FoundPiece → StateWithPieces
  at count held piece ps =
      record { state = record { count = count; place = InScan (holding scan held piece); headers = h; payload = payload }; pieces = ps }

  -- a byte that is data is fed to the piece
  data_step : (count : ℕ) (held : Held) (piece : OpenPiece) (ps : List FoundPiece) (b : ℕ) → class_of held b ≡ Data
      → reading_with (at count held piece ps) b ≡ record {
        state = record { count = count + 1; place = InScan (scan_with (holding scan held piece) b); headers = h; payload = payload };
        pieces = ps;
      }
  data_step count held piece ps b is_data = rw (is_data, append-nil ps) refl

  -- FF is held, since the byte after it says whether it is data
  fill_step : (count : ℕ) (piece : OpenPiece) (ps : List FoundPiece)
      → reading_with (at count Nothing piece ps) 0xFF ≡ at (count + 1) One piece ps
  fill_step count piece ps = rw (append-nil ps) refl

  -- FF and a byte below 0x80 are fed to the piece
  pair_steps : (count : ℕ) (piece : OpenPiece) (ps : List FoundPiece) (c : ℕ) (more : List ℕ) → c < 0x80
      → reading_from (at count Nothing piece ps) (0xFF ∷ c ∷ more)
      ≡ reading_from (at (count + 1 + 1) Nothing (piece_with piece (0xFF ∷ c ∷ [])) ps) more
  pair_steps count piece ps c more low =
      ap (λ r. reading_from (reading_with r c) more) (fill_step count piece ps)
      ∙ ap (λ r. reading_from r more) (data_step (count + 1) One piece ps c (data_after c low))

  byte_step : (count : ℕ) (piece : OpenPiece) (ps : List FoundPiece) (b : ℕ) (more : List ℕ) → b ≢ 0xFF
      → reading_from (at count Nothing piece ps) (b ∷ more) ≡ reading_from (at (count + 1) Nothing (piece_with piece (b ∷ [])) ps) more
  byte_step count piece ps b more ne = ap (λ r. reading_from r more) (data_step count Nothing piece ps b (data_alone b ne))

  tail : (c : ℕ) (more : List ℕ) → IsStretch (c ∷ more) → IsStretch more
  tail c [] ok = tt
  tail c (d ∷ more) ok = ok.1

  -- the bytes of a stretch, one after another, leave a scan with its piece fed these bytes
  stretched : (xs : List ℕ) → IsStretch xs → (count : ℕ) (piece : OpenPiece) (ps : List FoundPiece)
      → reading_from (at count Nothing piece ps) xs ≡ at (count + length xs) Nothing (piece_with piece xs) ps
  stretched [] ok count piece ps = rw (add-zero count, with_none piece) refl
  stretched (b ∷ []) ne count piece ps = byte_step count piece ps b [] ne
  stretched (b ∷ c ∷ more) ok count piece ps = by (stretched more (tail c more ok.1)) (stretched (c ∷ more) ok.1) (cases_eq b 0xFF)
    where
      by : ((k : ℕ) (p : OpenPiece) (qs : List FoundPiece) → reading_from (at k Nothing p qs) more
          ≡ at (k + length more) Nothing (piece_with p more) qs)
          → ((k : ℕ) (p : OpenPiece) (qs : List FoundPiece) → reading_from (at k Nothing p qs) (c ∷ more)
          ≡ at (k + length (c ∷ more)) Nothing (piece_with p (c ∷ more)) qs)
          → (b ≡ 0xFF) ⊎ (b ≢ 0xFF) → reading_from (at count Nothing piece ps) (b ∷ c ∷ more)
          ≡ at (count + length (b ∷ c ∷ more)) Nothing (piece_with piece (b ∷ c ∷ more)) ps
      by following next (inl e) =
          let size : count + 1 + 1 + length more ≡ count + length (b ∷ c ∷ more) = omega arith in
          let same : piece_with (piece_with piece (0xFF ∷ c ∷ [])) more ≡ piece_with piece (0xFF ∷ c ∷ more) =
          with_parts piece (0xFF ∷ c ∷ []) more in
          rw e (pair_steps count piece ps c more (ok.0 e) ∙ following (count + 1 + 1) (piece_with piece (0xFF ∷ c ∷ [])) ps
          ∙ rw (size, same) refl)
      by following next (inr ne) =
          let size : count + 1 + length (c ∷ more) ≡ count + length (b ∷ c ∷ more) = omega arith in
          let same : piece_with (piece_with piece (b ∷ [])) (c ∷ more) ≡ piece_with piece (b ∷ c ∷ more) =
          with_parts piece (b ∷ []) (c ∷ more) in
          byte_step count piece ps b (c ∷ more) ne ∙ next (count + 1) (piece_with piece (b ∷ [])) ps ∙ rw (size, same) refl

-- a scan that holds nothing back takes a stretch at once
pub stretch_leads : (scan next : OpenScan) (xs : List ℕ) → scan.held ≡ Nothing → IsStretch xs → next
    ≡ record scan { piece = piece_with scan.piece xs }
    → LeadsTo (InScan scan) xs (InScan next)
stretch_leads scan next xs free ok fed payload count h ps =
    let before : scan ≡ holding scan Nothing scan.piece = ap (λ held. record scan { held = held }) free in
    let after : next ≡ holding scan Nothing (piece_with scan.piece xs) = fed
    ∙ ap (λ held. record scan { held = held; piece = piece_with scan.piece xs }) free in
    rw after (subst (λ s. reading_from
    (record { state = record { count = count; place = InScan s; headers = h; payload = payload }; pieces = ps }) xs
    ≡ at scan h payload (count + length xs) Nothing (piece_with scan.piece xs) ps) (sym before)
    (stretched scan h payload xs ok count scan.piece ps))

-- a scan that took a stretch at once is still one of the frame
pub stretch_sound : (scan next : OpenScan) (xs : List ℕ) → next ≡ record scan { piece = piece_with scan.piece xs }
    → (frame : Option PictureShape) (payload : List ℕ)
    → IsPlace frame (InScan scan) payload → IsPlace frame (InScan next) payload
stretch_sound scan next xs fed frame payload h = rw fed ((h.0.0, fed_sound scan.plan scan.piece xs h.0.1), h.1)
