-- What the piece adds that the input's end closes, from what its decoder answered.
use Rattle.std.proofs.Common.{◌≡◌, ℕ, ◌+◌, ◌*◌, ◌<◌, ◌≤◌, List, [], ◌∷◌, length, Some, refl, sym, ap, ◌∙◌, subst, arith, inl, inr}
use Rattle.std.proofs.Common.{length-append}
use Rattle.std.specs.Prelude.{IfSome, min}
use Rattle.std.proofs.lemmas.List.{append-nil}
use Rattle.jls_values.specs.Shape.{PictureShape}
use Rattle.jls_values.specs.Params.{CodingParameters, AreCodingParameters}
use Rattle.jls_bits.specs.Bits.{bits_read}
use Rattle.jls_interval.specs.Lines.{AreLines}
use Rattle.jls_piece.specs.Lines.{PieceShape}
use Rattle.jls_piece.specs.Reads.{Reads}
use Rattle.jls_piece.specs.Heads.{IsHeadOfPiece}
use Rattle.jls_piece.specs.CutEnds.{CutEndIs}
use Rattle.jls_piece.specs.PieceBytes.{PieceBytes, piece_asked}
use Rattle.jls_piece.specs.declared.cut_end.PieceCutEnd.{PieceCutEnd}
use Rattle.jls_piece.specs.declared.cut_end.PieceCutEnd.TheVariants.{Whole, Head}
use Rattle.jls_interval.specs.declared.decode_piece.PieceFault.{PieceFault}
use Rattle.jls_interval.specs.declared.decode_piece.PieceFault.TheVariants as piece_fault
use Rattle.jls_piece.proofs.PieceHeads.{no_head}
use Rattle.jls_interval.proofs.HeadLines.{prefix_lines}
use Rattle.jls_marker.specs.Scan.{Scan, IsScan, intervals, row_count, first_row}
use Rattle.jls_copy.specs.IntervalOf.{interval_of}
use Rattle.jls_copy.specs.Numbers.{Interval}
use Rattle.jls_copy.specs.Pieces.{placed, Lines, Fault, IsOutcomeAt}
use Rattle.jls_copy.specs.Findings.{AddsCut, IsKindOf, with_readings, picture_of, kept_with}
use Rattle.jls_copy.specs.ReaderState.{piece_found}
use Rattle.jls_copy.specs.Sound.{IsDecodingOf, IsOpenPiece}
use Rattle.jls_copy.specs.declared.piece.PieceKind.{PieceKind}
use Rattle.jls_copy.specs.declared.piece.PieceKind.TheVariants as kind
use Rattle.jls_copy.specs.declared.piece.OpenPiece.{OpenPiece}
use Rattle.jls_copy.specs.declared.piece.OpenPiece.TheVariants.{Within, Beyond}
use Rattle.jls_copy.specs.declared.findings.Findings.{Findings}
use Rattle.jls_copy.proofs.Outcomes.{decoding_with, decoding_is}

-- what `finish_cut` says of a decoder
abbrev pub CutFinishes : PieceBytes → PieceCutEnd → Type 0
CutFinishes d end = IfSome d.bytes (λ bytes. CutEndIs (piece_asked d) bytes end)

-- the lines of a head are first lines of a piece
head_lines : (i : PieceShape) (bytes : List ℕ) (head : List (List ℕ)) → IsHeadOfPiece i bytes head
    → (count : ℕ) × (count ≤ i.line_count) × AreLines i.params i.width count head
head_lines i bytes head (inl (whole, inl (cut, f))) =
    let l = length-append head f.begins.others in let e = ap length f.begins.lines_are in let k = cut.are_lines.count_is in (
      length head,
      omega (arith, l, e, k),
      prefix_lines i.params i.width i.line_count cut.lines head f.begins.others cut.are_lines f.begins.lines_are,
    )
head_lines i bytes head (inl (whole, inr (none, e))) =
    (0, omega arith, subst (AreLines i.params i.width 0) (sym e) (record { count_is = refl; each = tt }))
head_lines i bytes head (inr (none, e)) =
    (0, omega arith, subst (AreLines i.params i.width 0) (sym e) (record { count_is = refl; each = tt }))

module _ (shape : PictureShape) (index : ℕ) (s : Scan) (offset k : ℕ) (old new : Findings) where
  -- a piece beyond the last interval, which the input's end closes, adds its record alone
  pub beyond_adds : (piece : OpenPiece) → piece ≡ Beyond k → new.partial ≡ old.partial
      → new.records.items ≡ kept_with old.records.items (record { scan = index; interval = k; offset = offset; kind = kind.Beyond } ∷ [])
      → new.record_count ≡ old.record_count + 1
      → AddsCut (Some shape) (piece_found index s offset piece ∷ []) old new
  beyond_adds piece e p r c =
      rw e (
        shape,
        refl,
        record {
          outcome = Fault kind.Beyond;
          is_outcome = tt;
          head = [];
          is_head = refl;
          picture_is = rw p refl;
          records_are = r;
          count_is = c;
        },
      )

module _ (s : Scan) (k : ℕ) (d : PieceBytes) (piece : OpenPiece) (is : piece ≡ Within k d) (sound : IsOpenPiece s piece) where
  abbrev open_is : IsDecodingOf s k d
  open_is = subst (IsOpenPiece s) is sound

  abbrev fed_bytes : List ℕ
  fed_bytes = open_is.bytes

  abbrev count : ℕ
  count = row_count s k * length s.components

  whole : piece ≡ Within k (decoding_with s k fed_bytes)
  whole = is ∙ ap (Within k) (decoding_is s k d open_is)

  said : (end : PieceCutEnd) → CutFinishes d end → CutEndIs (interval_of s k) fed_bytes end
  said end h = subst (λ x. CutFinishes x end) (decoding_is s k d open_is) h

  pub cut_interval : k < intervals s
  cut_interval = open_is.within

  pub whole_lines : (lines : List (List ℕ)) → CutFinishes d (Whole lines)
      → (n : ℕ) × (n ≤ count) × AreLines s.params s.width n lines
  whole_lines lines h = (count, omega arith, (said (Whole lines) h).begins.are_lines)

  pub not_memory : (head : List (List ℕ)) (fault : PieceFault) → CutFinishes d (Head head fault)
      → fault ≡ piece_fault.OutOfMemory → ⊥
  not_memory head fault h e = said (Head head piece_fault.OutOfMemory) (subst (λ f. CutFinishes d (Head head f)) e h)

  -- the head that a decoder answers is the head of the piece
  its_head : (head : List (List ℕ)) (fault : PieceFault) → CutFinishes d (Head head fault)
      → IsHeadOfPiece (interval_of s k) fed_bytes head
  its_head head piece_fault.Long h = (said (Head head piece_fault.Long) h).1
  its_head head piece_fault.Broken h = (said (Head head piece_fault.Broken) h).1
  its_head head piece_fault.OutOfMemory h = absurd (said (Head head piece_fault.OutOfMemory) h)

  -- the fault that a decoder answers is the outcome of the piece
  its_fault : (head : List (List ℕ)) (fault : PieceFault) (f : PieceKind) → CutFinishes d (Head head fault) → IsKindOf fault f
      → IsOutcomeAt s (Interval k) fed_bytes (Fault f)
  its_fault head piece_fault.Long f h e = rw e ((said (Head head piece_fault.Long) h).0)
  its_fault head piece_fault.Broken f h e = rw e ((said (Head head piece_fault.Broken) h).0)
  its_fault head piece_fault.OutOfMemory f h e = absurd e

  -- the head that a decoder answers is lines of the interval, no more than that has
  pub cut_lines : (head : List (List ℕ)) (fault : PieceFault) → CutFinishes d (Head head fault)
      → (n : ℕ) × (n ≤ count) × AreLines s.params s.width n head
  cut_lines head fault h = head_lines (interval_of s k) fed_bytes head (its_head head fault h)

  module _ (ok : IsScan s) (shape : PictureShape) (index offset : ℕ) (old new : Findings) where
    pub whole_adds : (lines : List (List ℕ)) → CutFinishes d (Whole lines)
        → new.partial ≡ Some (with_readings (picture_of shape old.partial) (placed s.components (first_row s k) 0 lines))
        → new.records.items ≡ old.records.items → new.record_count ≡ old.record_count
        → AddsCut (Some shape) (piece_found index s offset piece ∷ []) old new
    whole_adds lines h p r c =
        let now : Reads (interval_of s k) fed_bytes lines = said (Whole lines) h in
        let none = no_head (interval_of s k) ok.params (let w = ok.width_at_least in omega arith) fed_bytes lines now in
        let found = placed s.components (first_row s k) 0 lines in
        rw whole (
          shape,
          refl,
          record {
            outcome = Lines lines;
            is_outcome = now;
            head = [];
            is_head = none;
            picture_is = ap (picture_of shape) p ∙ ap (with_readings (picture_of shape old.partial)) (sym (append-nil found));
            records_are = r;
            count_is = (let e : old.record_count + 0 ≡ old.record_count = omega arith in c ∙ sym e);
          },
        )

    pub head_adds : (head : List (List ℕ)) (fault : PieceFault) (f : PieceKind) → CutFinishes d (Head head fault)
        → IsKindOf fault f
        → new.partial ≡ Some (with_readings (picture_of shape old.partial) (placed s.components (first_row s k) 0 head))
        → new.records.items ≡ kept_with old.records.items (record { scan = index; interval = k; offset = offset; kind = f } ∷ [])
        → new.record_count ≡ old.record_count + 1
        → AddsCut (Some shape) (piece_found index s offset piece ∷ []) old new
    head_adds head fault f h e p r c =
        rw whole (
          shape,
          refl,
          record {
            outcome = Fault f;
            is_outcome = its_fault head fault f h e;
            head = head;
            is_head = its_head head fault h;
            picture_is = ap (picture_of shape) p;
            records_are = r;
            count_is = c;
          },
        )
