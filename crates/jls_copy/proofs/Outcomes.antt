-- What a whole piece adds, from what its decoder answered.
use Rattle.std.proofs.Common.{◌≡◌, ℕ, ◌+◌, List, [], ◌∷◌, ◌++◌, length, Option, Some, Result, Ok, Err, refl, sym, ap, ◌∙◌, subst}
use Rattle.std.proofs.Common.{add-zero, Bool}
use Rattle.std.specs.Prelude.{OnOk, MatchOption}
use Rattle.jls_values.specs.Shape.{PictureShape}
use Rattle.jls_values.specs.Params.{CodingParameters}
use Rattle.jls_piece.specs.Reads.{Reads}
use Rattle.jls_piece.specs.PieceFaults.{OutcomeIs}
use Rattle.jls_interval.specs.declared.decode_piece.PieceFault.{PieceFault}
use Rattle.jls_interval.specs.declared.decode_piece.PieceFault.TheVariants as piece_fault
use Rattle.jls_marker.specs.Scan.{Scan, row_count, first_row}
use Rattle.jls_piece.specs.PieceBytes.{PieceBytes, piece_asked}
use Rattle.jls_copy.specs.Numbers.{Interval}
use Rattle.jls_copy.specs.Pieces.{placed, Lines, Fault, IsOutcomeAt}
use Rattle.jls_copy.specs.Findings.{Adds, IsKindOf, with_readings, picture_of, kept_with}
use Rattle.jls_copy.specs.ReaderState.{piece_found, piece_with, scan_with}
use Rattle.jls_copy.specs.Sound.{IsDecodingOf, IsOpenPiece, IsOpenScan}
use Rattle.jls_copy.specs.declared.scan.OpenScan.{OpenScan}
use Rattle.jls_copy.specs.declared.piece.PieceKind.{PieceKind}
use Rattle.jls_copy.specs.declared.piece.PieceKind.TheVariants as kind
use Rattle.jls_copy.specs.declared.piece.OpenPiece.{OpenPiece}
use Rattle.jls_copy.specs.declared.piece.OpenPiece.TheVariants.{Within, Beyond}
use Rattle.jls_copy.specs.declared.findings.Findings.{Findings}
use Rattle.jls_copy.specs.IntervalOf.{interval_of}

pub on_ok3 : {A B P Q R S : Type 0} (r : Result A B) → (P → Q → R → S) → OnOk r P → OnOk r Q → OnOk r R → OnOk r S
on_ok3 (Ok x) f p q t = f p q t
on_ok3 (Err e) f p q t = tt

-- the decoder of an interval that was fed these bytes
abbrev pub decoding_with : Scan → ℕ → List ℕ → PieceBytes
decoding_with s k bytes = record {
  parameters = s.params;
  width = s.width;
  components = length s.components;
  rows = row_count s k;
  by_sample = s.by_sample;
  bytes = Some bytes;
}

same_decoding : (d : PieceBytes) (p : CodingParameters) (w c r : ℕ) (by_sample : Bool) (b : Option (List ℕ)) → d.parameters ≡ p
    → d.width ≡ w → d.components ≡ c → d.rows ≡ r → d.by_sample ≡ by_sample → d.bytes ≡ b
    → d ≡ record { parameters = p; width = w; components = c; rows = r; by_sample = by_sample; bytes = b }
same_decoding d p w c r by_sample b e f g h i j = rw (sym e, sym f, sym g, sym h, sym i, sym j) refl

-- a decoder of an interval is the one with the bytes that it was fed
pub decoding_is : (s : Scan) (k : ℕ) (d : PieceBytes) (i : IsDecodingOf s k d) → d ≡ decoding_with s k i.bytes
decoding_is s k d i = same_decoding d s.params s.width (length s.components) (row_count s k) s.by_sample (Some i.bytes)
    i.parameters_are i.width_is i.components_are i.rows_are i.by_sample_is i.bytes_are

-- what `finish` says of a decoder
abbrev pub Finishes : PieceBytes → Result (List (List ℕ)) PieceFault → Type 0
Finishes d r = MatchOption d.bytes (r ≡ Err piece_fault.OutOfMemory) (λ bytes. OutcomeIs (piece_asked d) bytes r)

module _ (shape : PictureShape) (index : ℕ) (s : Scan) (offset k : ℕ) (old new : Findings) where
  -- a piece beyond the last interval, which a marker closes, adds its record alone
  pub beyond_adds : (piece : OpenPiece) → piece ≡ Beyond k → new.partial ≡ old.partial
      → new.records.items ≡ kept_with old.records.items (record { scan = index; interval = k; offset = offset; kind = kind.Beyond } ∷ [])
      → new.record_count ≡ old.record_count + 1
      → Adds (Some shape) (piece_found index s offset piece ∷ []) old new
  beyond_adds piece e p r c = rw e (shape, refl, Fault kind.Beyond, tt, record { picture_is = rw p refl; records_are = r; count_is = c })

  module _ (d : PieceBytes) (piece : OpenPiece) (is : piece ≡ Within k d) (sound : IsOpenPiece s piece) where
    abbrev open_is : IsDecodingOf s k d
    open_is = subst (IsOpenPiece s) is sound

    abbrev fed_bytes : List ℕ
    fed_bytes = open_is.bytes

    whole : piece ≡ Within k (decoding_with s k fed_bytes)
    whole = is ∙ ap (Within k) (decoding_is s k d open_is)

    -- what it says of a fault
    is_fault : (fault : PieceFault) (f : PieceKind) → Finishes d (Err fault) → IsKindOf fault f
        → IsOutcomeAt s (Interval k) fed_bytes (Fault f)
    is_fault piece_fault.Long f h e = rw e (subst (λ x. Finishes x (Err piece_fault.Long)) (decoding_is s k d open_is) h)
    is_fault piece_fault.Broken f h e = rw e (subst (λ x. Finishes x (Err piece_fault.Broken)) (decoding_is s k d open_is) h)
    is_fault piece_fault.OutOfMemory f h e = absurd e

    pub fault_adds : (fault : PieceFault) (f : PieceKind) → Finishes d (Err fault) → IsKindOf fault f → new.partial ≡ old.partial
        → new.records.items ≡ kept_with old.records.items (record { scan = index; interval = k; offset = offset; kind = f } ∷ [])
        → new.record_count ≡ old.record_count + 1
        → Adds (Some shape) (piece_found index s offset piece ∷ []) old new
    fault_adds fault f h e p r c =
        rw whole (shape, refl, Fault f, is_fault fault f h e, record { picture_is = rw p refl; records_are = r; count_is = c })

    pub lines_add : (lines : List (List ℕ)) → Finishes d (Ok lines)
        → new.partial ≡ Some (with_readings (picture_of shape old.partial)
        (placed s.components (first_row s k) 0 lines))
        → new.records.items ≡ old.records.items → new.record_count ≡ old.record_count
        → Adds (Some shape) (piece_found index s offset piece ∷ []) old new
    lines_add lines h p r c =
        let now : Reads (interval_of s k) fed_bytes lines =
        subst (λ x. Finishes x (Ok lines)) (decoding_is s k d open_is) h in
        rw whole (
          shape,
          refl,
          Lines lines,
          now,
          record { picture_is = rw p refl; records_are = r; count_is = rw add-zero c },
        )

-- telling a piece more leaves it sound
pub fed_sound : (s : Scan) (piece : OpenPiece) (more : List ℕ) → IsOpenPiece s piece → IsOpenPiece s (piece_with piece more)
fed_sound s (Within k d) more i = record {
  within = i.within;
  parameters_are = i.parameters_are;
  width_is = i.width_is;
  components_are = i.components_are;
  rows_are = i.rows_are;
  by_sample_is = i.by_sample_is;
  bytes = i.bytes ++ more;
  bytes_are = let e : d.bytes ≡ Some i.bytes = i.bytes_are in rw e refl;
}
fed_sound s (Beyond k) more i = i

pub fed_sound_scan : (scan : OpenScan) (b : ℕ) (next : OpenScan) → next ≡ scan_with scan b → IsOpenScan scan → IsOpenScan next
fed_sound_scan scan b next e h = rw e (h.0, fed_sound scan.plan scan.piece _ h.1)
