-- The header segments of a written file are taken: each reads as what was meant, and no test of a scan fails.
use Rattle.std.proofs.Common.{◌≡◌, ℕ, zero, suc, ◌+◌, ◌-◌, ◌*◌, ◌^◌, ◌<◌, ◌≤◌, Bool, true, false, cond, List, [], ◌∷◌, ◌++◌, map, length}
use Rattle.std.proofs.Common.{get_or, Some, Ok, refl, sym, ◌∙◌, ap, append_assoc, arith, inl, inr, length-append}
use Rattle.std.specs.Prelude.{◌==◌, nat_lt, min, is_ok, if◌then◌else◌}
use Rattle.std.specs.Int.{w32, to_be_bytes}
use Rattle.std.specs.List.{flat_map, AllByRecursion, list_all, range_with_len}
use Rattle.std.proofs.Math.Seq.{get_or-append_seam}
use Rattle.std.proofs.lemmas.List.{length-drop, length-map}
use Rattle.std.proofs.lemmas.List.FromFn.{length-range_with_len}
use Rattle.std.proofs.lemmas.Bool.{and_parts, cases_eq, eqb-true, ne_eqb, lt-ltb, le-leb}
use Rattle.std.proofs.lemmas.Bool.Decides.{nat_tests}
use Rattle.jls_values.specs.Shape.{PictureShape, has_repeat}
use Rattle.jls_values.specs.Params.{CodingParameters, AreCodingParameters}
use Rattle.jls_values.specs.ParamsOf.{or_default, in_force, param_fault, params_of, params_in_range}
use Rattle.jls_context.proofs.Sizes.{maxval_small}
use Rattle.jls_marker.specs.MarkerCodes.{has_segment}
use Rattle.jls_marker.specs.ComponentIndex.{index_of}
use Rattle.jls_values.specs.PresetParameters.{PresetParameters, no_presets}
use Rattle.jls_marker.specs.ScanSelection.{ScanSelection, IsScanSelection, selection, interleave_of}
use Rattle.jls_marker.specs.HeaderState.{HeaderState, no_headers}
use Rattle.jls_marker.specs.Headers.{headers_after, accepted, taking, begun, scan_judged, scan_in, begin_tests}
use Rattle.jls_marker.specs.Scan.{Scan, scan_with, row_count}
use Rattle.jls_marker.specs.Written as written
use Rattle.jls_marker.specs.declared.profile.Profile.TheVariants.{Strict}
use Rattle.jls_marker.specs.declared.segment.Segment.{Segment}
use Rattle.jls_marker.specs.declared.segment.Segment.TheVariants as segment
use Rattle.jls_marker.proofs.FirstFailing.{none_fails}
use Rattle.jls_marker.proofs.ParamRanges.{params_there, no_param_fault}
use Rattle.jls_marker.proofs.SegmentLaws.{written_reads_back_under}
use Rattle.jls_marker.proofs.Indices.{index_again}
use Rattle.jls_write.specs.Picture.{WholePicture}
use Rattle.jls_write.specs.Options.{WriteOptions, components_of_scan, rows_of_interval}
use Rattle.jls_write.specs.WrittenFile.{are_values_of, are_defaults, restart_segments, components_of_scans, scan_of, scan_segment}
use Rattle.jls_write.proofs.FileLength.{tail_length}
use Rattle.jls_file_laws.specs.FileLaw.{IsWritable}
use Rattle.jls_file_laws.proofs.Covering.{IsScanOf, scans_of, scan_components}
use Rattle.jls_file_laws.proofs.WrittenUnits.{Steps, ScanSteps, AreTaken}

-- ---- identifiers and indices

abbrev ids_at : List ℕ → List ℕ → List ℕ
ids_at ids components = map (λ c. get_or ids c 0) components

module _ (ids : List ℕ) (differ : has_repeat ids ≡ false) where
  components_back : (cs : List ℕ) → AllByRecursion (λ c. c < length ids) cs → map (index_of ids) (ids_at ids cs) ≡ cs
  components_back [] h = refl
  components_back (c ∷ cs) h =
      ap (λ t. t ∷ map (index_of ids) (ids_at ids cs)) (index_again ids c differ h.0) ∙ ap (λ t. c ∷ t) (components_back cs h.1)

  known : (cs : List ℕ) → AllByRecursion (λ c. c < length ids) cs
      → list_all (λ id. nat_lt (index_of ids id) (length ids)) (ids_at ids cs) ≡ true
  known [] h = refl
  known (c ∷ cs) h =
      let here : nat_lt (index_of ids (get_or ids c 0)) (length ids) ≡ true = ap (λ n. nat_lt n (length ids)) (index_again ids c differ h.0)
      ∙ lt-ltb c (length ids) h.0 in
      rw here (known cs h.1)

ids_range : (all pre xs : List ℕ) → all ≡ pre ++ xs → map (λ c. get_or all c 0) (range_with_len (length pre) (length xs)) ≡ xs
ids_range all pre [] e = refl
ids_range all pre (x ∷ xs) e =
    let at : get_or all (length pre) 0 ≡ x = ap (λ t. get_or t (length pre) 0) e ∙ get_or-append_seam pre x xs 0 in
    let l : length (pre ++ x ∷ []) ≡ length pre + 1 = length-append pre (x ∷ []) in
    let rest : map (λ c. get_or all c 0) (range_with_len (length pre + 1) (length xs)) ≡ xs =
    rw l at (ids_range all (pre ++ x ∷ []) xs (e ∙ sym (append_assoc pre (x ∷ []) xs))) in
    ap (λ t. t ∷ map (λ c. get_or all c 0) (range_with_len (length pre + 1) (length xs))) at ∙ ap (λ t. x ∷ t) rest

-- a scan's identifiers differ
differ_singles : (ids xs : List ℕ) → AllByRecursion (λ cs. has_repeat (ids_at ids cs) ≡ false) (map (λ c. c ∷ []) xs)
differ_singles ids [] = tt
differ_singles ids (x ∷ xs) = (refl, differ_singles ids xs)

scans_differ : (ids : List ℕ) (line : Bool) → has_repeat ids ≡ false
    → AllByRecursion (λ cs. has_repeat (ids_at ids cs) ≡ false) (scan_components (length ids) line)
scans_differ ids true differ = (ap has_repeat (ids_range ids [] ids refl) ∙ differ, tt)
scans_differ ids false differ = differ_singles ids (range_with_len 0 (length ids))

-- and it has as many components as each
one_each : (xs : List ℕ) → AllByRecursion (λ cs. length cs ≡ 1) (map (λ c. c ∷ []) xs)
one_each [] = tt
one_each (x ∷ xs) = (refl, one_each xs)

scans_sized : (n : ℕ) (line : Bool) → AllByRecursion (λ cs. length cs ≡ cond line n 1) (scan_components n line)
scans_sized n true = (length-range_with_len 0 n, tt)
scans_sized n false = one_each (range_with_len 0 n)

few_scans : (n : ℕ) (line : Bool) → n ≤ 4 → length (scan_components n line) ≤ 4
few_scans n true few = omega arith
few_scans n false few =
    let a = length-map (range_with_len 0 n) (λ c. c ∷ []) in let b = length-range_with_len 0 n in omega (arith, a, b, few)

bytes_at : (ids cs : List ℕ) → AllByRecursion (λ id. id < 256) ids → AllByRecursion (λ c. c < length ids) cs
    → AllByRecursion (λ id. id < 256) (ids_at ids cs)
bytes_at ids [] all h = tt
bytes_at ids (c ∷ cs) all h = (at ids c all h.0, bytes_at ids cs all h.1)
  where
    at : (xs : List ℕ) (i : ℕ) → AllByRecursion (λ id. id < 256) xs → i < length xs → get_or xs i 0 < 256
    at [] i all l = absurd (omega (arith, l))
    at (x ∷ xs) zero all l = all.0
    at (x ∷ xs) (suc i) all l = at xs i all.1 (omega (arith, l))

-- ---- lengths

threes_length : (ids : List ℕ) → length (flat_map (λ id. id ∷ 0x11 ∷ 0 ∷ []) ids) ≡ 3 * length ids
threes_length [] = refl
threes_length (x ∷ ids) = let e = threes_length ids in omega (arith, e)

pairs_length : (ids : List ℕ) → length (flat_map (λ id. id ∷ 0 ∷ []) ids) ≡ 2 * length ids
pairs_length [] = refl
pairs_length (x ∷ ids) = let e = pairs_length ids in omega (arith, e)

scan_short : (s : ScanSelection) → length s.ids ≤ 4 → length (written.scan_payload s) + 2 < 2 ^ 16
scan_short s few =
    let p = pairs_length s.ids in let t = tail_length (flat_map (λ id. id ∷ 0 ∷ []) s.ids) (interleave_of s) in
    omega (arith, p, t, few)

frame_short : (s : PictureShape) → length s.ids ≤ 4 → length (written.frame_payload s) + 2 < 2 ^ 16
frame_short s few = let l = threes_length s.ids in omega (arith, l, few)

restart_short : (n : ℕ) → length (written.restart_payload n) + 2 < 2 ^ 16
restart_short n =
    let few = length-drop (written.unneeded_bytes n) (to_be_bytes w32 n) in let four : length (to_be_bytes w32 n) ≡ 4 = refl in
    omega (arith, few, four)

-- ---- parameters

params_eq : (p q : CodingParameters) → p.precision ≡ q.precision → p.maxval ≡ q.maxval → p.t1 ≡ q.t1 → p.t2 ≡ q.t2 → p.t3 ≡ q.t3
    → p.reset ≡ q.reset → p ≡ q
params_eq p q a b c d e f =
    let x : p ≡ record { precision = q.precision; maxval = q.maxval; t1 = q.t1; t2 = q.t2; t3 = q.t3; reset = q.reset } =
    rw (sym a, sym b, sym c, sym d, sym e, sym f) refl in x

kept : (x d : ℕ) → 1 ≤ x → or_default x d ≡ x
kept x d h = let t : (x == 0) ≡ false = grind (arith, nat_tests, h) in rw t refl

abbrev presets_of : CodingParameters → PresetParameters
presets_of p = record { maxval = p.maxval; t1 = p.t1; t2 = p.t2; t3 = p.t3; reset = p.reset }

given : (p : CodingParameters) (precision : ℕ) → AreCodingParameters p → p.precision ≡ precision
    → in_force precision (presets_of p) ≡ p
given p precision i e =
    params_eq _ p (sym e) (kept p.maxval _ i.maxval_at_least) (kept p.t1 _ i.t1_at_least)
    (kept p.t2 _ (omega (arith, i.t1_at_least, i.t2_at_least)))
    (kept p.t3 _ (omega (arith, i.t1_at_least, i.t2_at_least, i.t3_at_least))) (kept p.reset _ (omega (arith, i.reset_at_least)))

asked : (p q : CodingParameters) → AreCodingParameters q → p ≡ q → params_in_range p (param_fault p) ≡ Ok q
asked p q i e = ap (λ (r : CodingParameters). params_in_range r (param_fault r)) e ∙ ap (params_in_range q) (no_param_fault q i)

-- parameters of one precision with the same values are the same
same_values : (d p : CodingParameters) → are_values_of d p ≡ true → d.precision ≡ p.precision → d ≡ p
same_values d p h precision =
    let a = and_parts _ _ h in
    let b = and_parts _ _ a.1 in
    let c = and_parts _ _ b.1 in
    let e = and_parts _ _ c.1 in
    params_eq d p precision (sym (eqb-true p.maxval d.maxval a.0)) (sym (eqb-true p.t1 d.t1 b.0)) (sym (eqb-true p.t2 d.t2 c.0))
    (sym (eqb-true p.t3 d.t3 e.0)) (sym (eqb-true p.reset d.reset e.1))

-- what is written of them asks for them
abbrev written_presets : CodingParameters → Bool → PresetParameters
written_presets p true = no_presets
written_presets p false = presets_of p

asks : (shape : PictureShape) (p : CodingParameters) (same : Bool) → AreCodingParameters p → p.precision ≡ shape.precision
    → are_defaults p ≡ same → params_of shape.precision (written_presets p same) ≡ Ok p
asks shape p true are precision h =
    ap (λ n. params_of n no_presets) (sym precision)
    ∙ asked (in_force p.precision no_presets) p are (same_values (in_force p.precision no_presets) p h refl)
asks shape p false are precision h = asked _ p are (given p shape.precision are precision)

-- ---- steps

sof_code : has_segment 0xF7 ≡ true
unfolding has_segment
sof_code = refl

sos_code : has_segment 0xDA ≡ true
unfolding has_segment
sos_code = refl

lse_code : has_segment 0xF8 ≡ true
unfolding has_segment
lse_code = refl

dri_code : has_segment 0xDD ≡ true
unfolding has_segment
dri_code = refl

step : (h : HeaderState) (s : Segment) → written.IsSegmentUnder h.profile s → written.CanBeWritten s
    → headers_after h (written.code_of s) (written.payload_of s) ≡ accepted h s
unfolding headers_after
step h s is can = ap (taking h) (written_reads_back_under h.profile s is can)

rows_zero : (h r : ℕ) → (if r == 0 then h else min r (h - 0 * r)) ≡ (if r == 0 then h else min r h)
rows_zero h zero = refl
rows_zero h (suc r) =
    let all : h - 0 * suc r ≡ h = omega arith in rw (ne_eqb (suc r) 0 (λ e. absurd (omega (arith, e)))) (ap (min (suc r)) all)

module _ (pic : WholePicture) (o : WriteOptions) (can : IsWritable pic o) where
  abbrev taken_so : PresetParameters → ℕ → ℕ → HeaderState
  taken_so pr r i = record { profile = Strict; frame = Some pic.shape; preset = pr; restart_interval = r; scans = i }

  restart_steps : (pr : PresetParameters) → Steps (taken_so pr 0 0) (restart_segments o.restart_interval) (taken_so pr o.restart_interval 0)
  restart_steps pr =
      elim (cases_eq o.restart_interval 0) [
        | inl e ↦ (let t : (o.restart_interval == 0) ≡ true = grind (arith, nat_tests, e) in rw t (ap (λ r. taken_so pr r 0) e))
        | inr e ↦ (let t : (o.restart_interval == 0) ≡ false = grind (arith, nat_tests, e) in
            rw t (
              taken_so pr o.restart_interval 0,
              (dri_code, restart_short o.restart_interval),
              step (taken_so pr 0 0) (segment.Restart o.restart_interval) can.restart_below tt,
              refl,
            ))
      ]

  before_steps : (same : Bool)
      → Steps (taken_so no_presets 0 0)
      (cond same [] (segment.Preset o.params.maxval o.params.t1 o.params.t2 o.params.t3 o.params.reset ∷ [])
      ++ restart_segments o.restart_interval)
      (taken_so (written_presets o.params same) o.restart_interval 0)
  before_steps true = restart_steps no_presets
  before_steps false =
      let small = maxval_small o.params can.params in
      let p = can.params in (
        taken_so (presets_of o.params) 0 0,
        (lse_code, omega arith),
        step (taken_so no_presets 0 0) (segment.Preset o.params.maxval o.params.t1 o.params.t2 o.params.t3 o.params.reset)
            (record {
              maxval_below = small;
              t1_below = omega arith;
              t2_below = omega arith;
              t3_below = omega arith;
              reset_below =
                  omega arith;
            }) tt,
        restart_steps (presets_of o.params),
      )

  module _ (pr : PresetParameters) (asks_them : params_of pic.shape.precision pr ≡ Ok o.params) where
    abbrev now : ℕ → HeaderState
    now i = taken_so pr o.restart_interval i

    abbrev scan_selection : List ℕ → ScanSelection
    scan_selection cs = selection (ids_at pic.shape.ids cs) (nat_lt 1 (length cs))

    selected : (cs : List ℕ) → IsScanOf (length pic.shape.ids) cs → has_repeat (ids_at pic.shape.ids cs) ≡ false
        → IsScanSelection (scan_selection cs)
    selected cs are differ =
        let size = length-map cs (λ c. get_or pic.shape.ids c 0) in
        let few = can.whole.shape.ids_at_most in
        record {
          ids_at_least = omega (arith, size, are.0);
          ids_at_most = omega (arith, size, are.1, few);
          ids_are_bytes = bytes_at pic.shape.ids cs can.whole.shape.ids_are_bytes are.2;
          ids_differ = differ;
          interleaved = λ many by_line. lt-ltb 1 (length cs) (omega (arith, size, many));
          not_both = λ (e : false ≡ true). absurd cc;
          several = λ (e : false ≡ true). absurd cc;
        }

    small_enough : (cs : List ℕ) → length cs ≡ components_of_scan pic.shape o
        → pic.shape.width * length (ids_at pic.shape.ids cs) * row_count (scan_of pic o cs) 0 ≤ 2 ^ 28
    small_enough cs sized =
        let size : length (ids_at pic.shape.ids cs) ≡ components_of_scan pic.shape o = length-map cs (λ c. get_or pic.shape.ids c 0)
        ∙ sized in
        let rows : row_count (scan_of pic o cs) 0 ≡ rows_of_interval pic.shape o = rows_zero pic.shape.height o.restart_interval in
        rw (size, rows) can.fit.interval

    judged : (cs : List ℕ) (i : ℕ) → i < 16 → IsScanOf (length pic.shape.ids) cs → length cs ≡ components_of_scan pic.shape o
        → scan_judged pic.shape pr o.restart_interval i (scan_selection cs) ≡ Ok (scan_of pic o cs)
    judged cs i few are sized =
        let differ = can.whole.shape.ids_differ in
        let under : in_force pic.shape.precision pr ≡ o.params = sym (params_there pic.shape.precision pr o.params asks_them).0 in
        none_fails (begin_tests pic.shape pr o.restart_interval i (scan_selection cs))
        (scan_in pic.shape pr o.restart_interval (scan_selection cs))
        (known pic.shape.ids differ cs are.2, (ap is_ok asks_them, (le-leb _ _ (small_enough cs sized), (lt-ltb i 16 few, tt))))
        ∙ ap (λ (s : Scan). Ok s)
        (ap (λ (xs : List ℕ). scan_with pic.shape xs (in_force pic.shape.precision pr) o.restart_interval)
        (components_back pic.shape.ids differ cs are.2)
        ∙ ap (λ (p : CodingParameters). scan_with pic.shape cs p o.restart_interval) under)

    scan_step : (cs : List ℕ) (i : ℕ) → i < 16 → IsScanOf (length pic.shape.ids) cs → has_repeat (ids_at pic.shape.ids cs) ≡ false
        → length cs ≡ components_of_scan pic.shape o
        → headers_after (now i) 0xDA (written.payload_of (scan_segment pic cs)) ≡ Ok (now (i + 1), Some (scan_of pic o cs))
    scan_step cs i few are differ sized =
        step (now i) (segment.Scan (scan_selection cs)) (selected cs are differ, refl) tt ∙ ap (begun (now i)) (judged cs i few are sized)

    scan_steps : (scans : List (List ℕ)) (i : ℕ) → i + length scans ≤ 16 → AllByRecursion (IsScanOf (length pic.shape.ids)) scans
        → AllByRecursion (λ cs. has_repeat (ids_at pic.shape.ids cs) ≡ false) scans
        → AllByRecursion (λ cs. length cs ≡ components_of_scan pic.shape o) scans
        → ScanSteps pic o (now i) scans (now (i + length scans))
    scan_steps [] i few are differ sized = let e : i + 0 ≡ i = omega arith in ap now e
    scan_steps (cs ∷ scans) i few are differ sized =
        let e : i + 1 + length scans ≡ i + suc (length scans) = omega arith in (
          now (i + 1),
          (sos_code, scan_short (scan_selection cs) (selected cs are.0 differ.0).ids_at_most),
          scan_step cs i (omega (arith, few)) are.0 differ.0 sized.0,
          rw e at (scan_steps scans (i + 1) (omega (arith, few)) are.1 differ.1 sized.1),
        )

pub heads_are_taken : (pic : WholePicture) (o : WriteOptions) → IsWritable pic o → AreTaken pic o
heads_are_taken pic o can =
    let same = are_defaults o.params in
    let pr = written_presets o.params same in
    let shape = can.whole.shape in
    let scans = components_of_scans pic o in
    let few = few_scans (length pic.shape.ids) o.line shape.ids_at_most in
    record {
      following = taken_so pic o can pr o.restart_interval 0;
      before = (
        taken_so pic o can no_presets 0 0,
        (sof_code, frame_short pic.shape shape.ids_at_most),
        step no_headers (segment.Frame pic.shape) shape tt,
        before_steps pic o can same,
      );
      last = taken_so pic o can pr o.restart_interval (0 + length scans);
      scans = scan_steps pic o can pr (asks pic.shape o.params same can.params can.fit.precision refl) scans 0 (omega (arith, few))
          (scans_of (length pic.shape.ids) o.line shape.ids_at_least) (scans_differ pic.shape.ids o.line shape.ids_differ)
          (scans_sized (length pic.shape.ids) o.line);
      framed = refl;
    }
