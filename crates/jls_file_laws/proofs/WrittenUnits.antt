-- The course of a written file, where its segments are taken.
use Rattle.std.proofs.Common.{◌≡◌, ℕ, suc, ◌+◌, ◌-◌, ◌/◌, ◌%◌, ◌^◌, ◌<◌, ◌≤◌, true, false, List, [], ◌∷◌, ◌++◌, map, length, Some}
use Rattle.std.proofs.Common.{None, Ok, refl, sym, ◌∙◌, ap, subst, append_assoc, arith}
use Rattle.std.specs.Prelude.{is_some}
use Rattle.std.specs.Int.{w16, to_be_bytes}
use Rattle.std.proofs.lemmas.Nat.{be_bytes_2}
use Rattle.std.proofs.lemmas.List.{append-nil}
use Rattle.std.proofs.lemmas.Grind.{flat_map-append}
use Rattle.std.specs.List.{flat_map, AllByRecursion, range_with_len}
use Rattle.jls_values.proofs.Lists.{all_append}
use Rattle.jls_marker.specs.HeaderState.{HeaderState, no_headers}
use Rattle.jls_marker.specs.Headers.{headers_after}
use Rattle.jls_marker.specs.Scan.{Scan, intervals}
use Rattle.jls_marker.specs.Written.{code_of, payload_of}
use Rattle.jls_marker.specs.declared.segment.Segment.{Segment}
use Rattle.jls_marker.proofs.Layouts.{two_fit}
use Rattle.jls_marker.proofs.Intervals as marker
use Rattle.jls_copy.specs.ScanData.{closed_bytes}
use Rattle.jls_copy.specs.Numbers.{Interval}
use Rattle.jls_copy.specs.Pieces.{pieces_from, pieces_in, piece_begun}
use Rattle.jls_copy.specs.Course.{CopyUnit, segment, scan, by_marker, segment_unit_bytes, unit_bytes, IsWholeSegment, IsClosing, at_eoi}
use Rattle.jls_copy.specs.Course.{for_good, AreUnits, with_soi}
use Rattle.jls_copy.specs.CutPieces.{is_cut, closed_by_input, cut_pieces}
use Rattle.jls_copy.specs.declared.end.End.{End}
use Rattle.jls_copy.specs.declared.end.End.TheVariants.{Eoi}
use Rattle.jls_write.specs.Picture.{WholePicture}
use Rattle.jls_write.specs.Options.{WriteOptions}
use Rattle.jls_write.specs.WrittenFile.{bytes_of, header_segments, components_of_scans, scan_of, scan_segment, interval_code}
use Rattle.jls_write.specs.WrittenFile.{marked_interval, scan_bytes, written_file}
use Rattle.jls_file_laws.specs.Covering.{interval_readings, scan_readings, written_readings}
use Rattle.jls_file_laws.specs.FileLaw.{IsWritable, ReadsBack}
use Rattle.jls_file_laws.proofs.Covering.{IsScanOf, scans_of}
use Rattle.jls_file_laws.proofs.WrittenScans.{closed_from, last_from, bytes_are, each_closed, last_piece, GivesLines, lines_of, all_give}
use Rattle.jls_file_laws.proofs.WrittenScans.{some_outcomes, pieces_give, pieces_lines}

-- ---- segments

two_bytes : (n : ℕ) → n < 2 ^ 16 → to_be_bytes w16 n ≡ n / 256 ∷ n % 256 ∷ []
two_bytes n h = be_bytes_2 (n / 256 ∷ n % 256 ∷ []) n refl (two_fit (n / 256) (n % 256) (omega (arith, h)) (omega arith)) (omega arith)

segment_is : (s : Segment) → length (payload_of s) + 2 < 2 ^ 16 → bytes_of s ≡ segment_unit_bytes 0 (code_of s) (payload_of s)
segment_is s short = ap (λ t. 0xFF ∷ code_of s ∷ (t ++ payload_of s)) (two_bytes (length (payload_of s) + 2) short)

-- the segments before the scans are taken, one after the other
abbrev pub Steps : HeaderState → List Segment → HeaderState → Type 0
Steps h [] last = last ≡ h
Steps h (s ∷ more) last =
    (after : HeaderState) × IsWholeSegment (code_of s) (payload_of s) × (headers_after h (code_of s) (payload_of s) ≡ Ok (after, None))
    × Steps after more last

module _ (pic : WholePicture) (o : WriteOptions) where
  -- and those of the scans, each of which begins the scan that is meant
  abbrev pub ScanSteps : HeaderState → List (List ℕ) → HeaderState → Type 0
  ScanSteps h [] last = last ≡ h
  ScanSteps h (components ∷ more) last =
      (after : HeaderState) × IsWholeSegment 0xDA (payload_of (scan_segment pic components))
      × (headers_after h 0xDA (payload_of (scan_segment pic components)) ≡ Ok (after, Some (scan_of pic o components)))
      × ScanSteps after more last

  pub record AreTaken : Type 0 where
    pub following : HeaderState
    pub before : Steps no_headers (header_segments pic o) following
    pub last : HeaderState
    pub scans : ScanSteps following (components_of_scans pic o) last
    pub framed : last.frame ≡ Some pic.shape

  -- ---- units

  abbrev scan_unit : List ℕ → CopyUnit
  scan_unit components =
      let s : Scan = scan_of pic o components in
      scan 0 0xDA (payload_of (scan_segment pic components)) s (closed_from pic s 0 (intervals s - 1))
      (last_from pic s 0 (intervals s - 1)) by_marker

  abbrev head_unit : Segment → CopyUnit
  head_unit s = segment 0 (code_of s) (payload_of s)

  abbrev units : List Segment → List (List ℕ) → List CopyUnit
  units before scans = map head_unit before ++ map scan_unit scans

  abbrev end_of : ℕ → List CopyUnit → ℕ
  end_of at [] = at + 0
  end_of at (u ∷ us) = end_of (at + length (unit_bytes u)) us

  abbrev eoi : List ℕ
  eoi = 0xFF ∷ 0xD9 ∷ []

  abbrev scan_part : List ℕ → List ℕ
  scan_part components = scan_bytes pic (scan_of pic o components)

  some_interval : (components : List ℕ) → 1 ≤ pic.shape.height → 1 ≤ intervals (scan_of pic o components)
  some_interval components h = marker.some_interval pic.shape.height o.restart_interval h

  scan_is : (components : List ℕ) → 1 ≤ pic.shape.height → length (payload_of (scan_segment pic components)) + 2 < 2 ^ 16
      → scan_part components ≡ unit_bytes (scan_unit components)
  scan_is components h short =
      let s : Scan = scan_of pic o components in
      let n = intervals s - 1 in
      let some = some_interval components h in
      let all : intervals s ≡ suc n = omega (arith, some) in
      let head : List ℕ = segment_unit_bytes 0 0xDA (payload_of (scan_segment pic components)) in
      let later : List ℕ = flat_map (marked_interval pic s) (range_with_len (0 + 1) n) in
      ap (λ m. flat_map (marked_interval pic s) (range_with_len 0 m)) all
      ∙ append_assoc (bytes_of (scan_segment pic components)) (interval_code pic s 0) later
      ∙ ap (λ t. t ++ (interval_code pic s 0 ++ later)) (segment_is (scan_segment pic components) short)
      ∙ ap (λ t. head ++ t)
      (bytes_are pic s 0 n ∙ ap (λ t. flat_map closed_bytes (closed_from pic s 0 n) ++ t) (sym (append-nil (last_from pic s 0 n))))

  -- a marker that ends scan data follows each scan
  after_scan : (scans : List (List ℕ)) → 1 ≤ pic.shape.height → (last h : HeaderState) → ScanSteps h scans last
      → IsClosing by_marker (flat_map scan_part scans ++ eoi)
  after_scan [] some last h steps = record { fill = 0; code = 0xD9; following = []; bytes_are = refl; ends = refl }
  after_scan (c ∷ scans) some last h steps =
      let e = ap (λ t. (t ++ flat_map scan_part scans) ++ eoi) (scan_is c some steps.1.1) in
      subst (IsClosing by_marker) (sym e) (record { fill = 0; code = 0xDA; following = _; bytes_are = refl; ends = refl })

  from_scans : (h : HeaderState) (at : ℕ) (scans : List (List ℕ)) (last : HeaderState) → 1 ≤ pic.shape.height → ScanSteps h scans last
      → is_some last.frame ≡ true
      → AreUnits h at (flat_map scan_part scans ++ eoi) (map scan_unit scans) last (Eoi (end_of at (map scan_unit scans)))
  from_scans h at [] last some steps framed =
      (steps, for_good h at eoi (Eoi (at + 0)) (at_eoi h at 0 [] (rw (ap (λ (t : HeaderState). is_some t.frame) (sym steps)) framed)))
  from_scans h at (c ∷ scans) last some steps framed =
      let s : Scan = scan_of pic o c in (
        steps.0,
        flat_map scan_part scans ++ eoi,
        append_assoc (scan_part c) (flat_map scan_part scans) eoi
            ∙ ap (λ t. t ++ (flat_map scan_part scans ++ eoi)) (scan_is c some steps.1.1),
        (
          steps.1,
          steps.2,
          each_closed pic s 0 (intervals s - 1),
          last_piece pic s 0 (intervals s - 1),
          after_scan scans some last steps.0 steps.3,
        ),
        from_scans steps.0 (at + length (unit_bytes (scan_unit c))) scans last some steps.3 framed,
      )

  from_heads : (h : HeaderState) (at : ℕ) (before : List Segment) (following : HeaderState) (scans : List (List ℕ)) (last : HeaderState)
      → 1 ≤ pic.shape.height → Steps h before following → ScanSteps following scans last → is_some last.frame ≡ true
      → AreUnits h at (flat_map bytes_of before ++ (flat_map scan_part scans ++ eoi)) (units before scans) last
      (Eoi (end_of at (units before scans)))
  from_heads h at [] following scans last some steps scan_steps framed =
      from_scans h at scans last some (subst (λ (t : HeaderState). ScanSteps t scans last) steps scan_steps) framed
  from_heads h at (x ∷ before) following scans last some steps scan_steps framed =
      let rest : List ℕ = flat_map bytes_of before ++ (flat_map scan_part scans ++ eoi) in (
        steps.0,
        rest,
        append_assoc (bytes_of x) (flat_map bytes_of before) (flat_map scan_part scans ++ eoi)
            ∙ ap (λ t. t ++ rest) (segment_is x steps.1.1),
        (steps.1, steps.2),
        from_heads steps.0 (at + length (unit_bytes (head_unit x))) before following scans last some steps.3 scan_steps framed,
      )

  -- ---- pieces

  scans_give : (can : IsWritable pic o) (scans : List (List ℕ)) → AllByRecursion (IsScanOf (length pic.shape.ids)) scans → (index at : ℕ)
      → AllByRecursion (GivesLines pic) (pieces_in index at (map scan_unit scans))
  scans_give can [] are index at = tt
  scans_give can (c ∷ scans) are index at =
      let s : Scan = scan_of pic o c in
      let some = some_interval c can.whole.shape.height_at_least in
      all_append (GivesLines pic)
      (pieces_from (piece_begun index s (Interval 0) _) 0 (closed_from pic s 0 (intervals s - 1)) (last_from pic s 0 (intervals s - 1))) _
      (pieces_give pic o can c are.0.2 index 0 (intervals s - 1) _ (omega (arith, some))) (scans_give can scans are.1 _ _)

  scans_lines : (can : IsWritable pic o) (scans : List (List ℕ)) → AllByRecursion (IsScanOf (length pic.shape.ids)) scans → (index at : ℕ)
      → flat_map (lines_of pic) (pieces_in index at (map scan_unit scans))
      ≡ flat_map (λ components. scan_readings pic (scan_of pic o components)) scans
  scans_lines can [] are index at = refl
  scans_lines can (c ∷ scans) are index at =
      let s : Scan = scan_of pic o c in
      let some = some_interval c can.whole.shape.height_at_least in
      let all : suc (intervals s - 1) ≡ intervals s = omega (arith, some) in
      flat_map-append (lines_of pic)
      (pieces_from (piece_begun index s (Interval 0) _) 0 (closed_from pic s 0 (intervals s - 1)) (last_from pic s 0 (intervals s - 1))) _
      ∙ ap (λ t. t ++ flat_map (lines_of pic) (pieces_in (index + 1) (at + length (unit_bytes (scan_unit c))) (map scan_unit scans)))
      (pieces_lines pic o can c are.0.2 index 0 (intervals s - 1) _ (omega (arith, some))
      ∙ ap (λ n. flat_map (interval_readings pic s) (range_with_len 0 n)) all)
      ∙ ap (λ t. scan_readings pic s ++ t) (scans_lines can scans are.1 _ _)

  -- segments alone have none
  pieces_after : (before : List Segment) (us : List CopyUnit) (index at : ℕ)
      → (at' : ℕ) × (pieces_in index at (map head_unit before ++ us) ≡ pieces_in (index + 0) at' us)
  pieces_after [] us index at = (at, let e : index + 0 ≡ index = omega arith in rw e refl)
  pieces_after (x ∷ before) us index at =
      let r = pieces_after before us (index + 0) (at + length (segment_unit_bytes 0 (code_of x) (payload_of x))) in
      (r.0, let e : index + 0 + 0 ≡ index + 0 = omega arith in rw e at r.1)

  -- the input's end closes none
  none_cut : (us : List CopyUnit) → AllByRecursion (λ u. is_cut u ≡ false) us → closed_by_input us ≡ false
  none_cut [] h = refl
  none_cut (u ∷ []) h = h.0
  none_cut (u ∷ v ∷ us) h = none_cut (v ∷ us) h.1

  heads_uncut : (before : List Segment) → AllByRecursion (λ u. is_cut u ≡ false) (map head_unit before)
  heads_uncut [] = tt
  heads_uncut (x ∷ before) = (refl, heads_uncut before)

  scans_uncut : (scans : List (List ℕ)) → AllByRecursion (λ u. is_cut u ≡ false) (map scan_unit scans)
  scans_uncut [] = tt
  scans_uncut (c ∷ scans) = (refl, scans_uncut scans)

  uncut_pieces : (begin : ℕ) (us : List CopyUnit) (h : HeaderState) (e : End) → closed_by_input us ≡ false
      → cut_pieces (record { begin = begin; units = us; headers = h; end = e }) ≡ []
  uncut_pieces begin us h e none = rw none refl

  pub reads_back : IsWritable pic o → AreTaken → ReadsBack pic (written_file pic o) (written_readings pic o)
  reads_back can taken =
      let before = header_segments pic o in
      let scans = components_of_scans pic o in
      let us = units before scans in
      let are : AllByRecursion (IsScanOf (length pic.shape.ids)) scans =
      scans_of (length pic.shape.ids) o.line can.whole.shape.ids_at_least in
      let following = pieces_after before (map scan_unit scans) 0 2 in
      let give : AllByRecursion (GivesLines pic) (pieces_in 0 2 us) = rw following.1 (scans_give can scans are _ following.0) in
      let lines : flat_map (lines_of pic) (pieces_in 0 2 us) ≡ written_readings pic o = ap (flat_map (lines_of pic)) following.1
      ∙ scans_lines can scans are _ following.0 in
      let outs = some_outcomes pic (pieces_in 0 2 us) give in
      record {
        course = record { begin = 2; units = us; headers = taken.last; end = Eoi (end_of 2 us) };
        is_course = with_soi 0 (flat_map bytes_of before ++ (flat_map scan_part scans ++ eoi)) us taken.last (Eoi (end_of 2 us))
            (from_heads no_headers 2 before taken.following scans taken.last can.whole.shape.height_at_least taken.before taken.scans
            (ap is_some taken.framed));
        framed = taken.framed;
        uncut = uncut_pieces 2 us taken.last (Eoi (end_of 2 us))
            (none_cut us
            (all_append (λ u. is_cut u ≡ false) (map head_unit before) (map scan_unit scans) (heads_uncut before) (scans_uncut scans)));
        offset = end_of 2 us;
        ended = refl;
        outcomes = outs.0;
        some_outcomes = outs.1;
        gives = λ os h. let g = all_give pic (pieces_in 0 2 us) os give h in (g.0 ∙ lines, g.1);
      }
