-- The scan that a selection begins under the headers: its tests pass exactly where the relation lets it begin.
use Rattle.std.proofs.Common.{◌≡◌, ℕ, ◌-◌, ◌*◌, ◌^◌, ◌<◌, ◌≤◌, Bool, true, false, List, [], ◌∷◌, map, length, get_or, Some}
use Rattle.std.proofs.Common.{Ok, refl, sym, ◌∙◌, ap, subst}
use Rattle.std.specs.Prelude.{◌==◌, nat_lt}
use Rattle.std.specs.List.{AllByRecursion}
use Rattle.std.proofs.lemmas.List.Sums.{passes_at_first}
use Rattle.std.proofs.lemmas.Bool.{eqb-true, ltb-true, lt-ltb, leb-true}
use Rattle.jls_values.specs.Params.{AreCodingParameters}
use Rattle.jls_values.specs.ParamsOf.{in_force, params_of, params_in_range}
use Rattle.jls_values.specs.PresetParameters.{PresetParameters}
use Rattle.jls_values.specs.Shape.{PictureShape, has_repeat}
use Rattle.jls_marker.specs.ComponentIndex.{index_of}
use Rattle.jls_marker.specs.HeaderState.{HeaderState, IsHeaderState}
use Rattle.jls_marker.specs.Headers.{begin_tests, scan_in, scan_judged, scan_under}
use Rattle.jls_marker.specs.Scan.{Scan, scan_by, row_count}
use Rattle.jls_marker.specs.ScanSelection.{ScanSelection, selection as selected}
use Rattle.jls_marker.proofs.Beginning.{are_known, indices_below, begins, ok_scan}
use Rattle.jls_marker.proofs.FirstFailing.{all_pass}
use Rattle.jls_marker.proofs.ParamRanges.{params_ok, no_param_fault}
use Rattle.jls_marker.proofs.Indices.{index_again}
use Rattle.jls_copy_laws.specs.SegmentSets.{BeginsScan}

-- ---- identifiers, and the components that they name

-- the identifiers of these components of a frame
abbrev pub ids_at : List ℕ → List ℕ → List ℕ
ids_at ids components = map (λ c. get_or ids c 0) components

-- an identifier that is in the frame stands at its index
id_at_index : (ids : List ℕ) (id : ℕ) → index_of ids id < length ids → get_or ids (index_of ids id) 0 ≡ id
unfolding index_of
id_at_index ids id below = eqb-true _ _ (passes_at_first (λ other. other == id) ids 0 below)

-- identifiers are those of the components that they name
ids_again : (ids named : List ℕ) → AllByRecursion (λ c. c < length ids) (map (index_of ids) named)
    → named ≡ ids_at ids (map (index_of ids) named)
ids_again ids [] below = refl
ids_again ids (id ∷ named) below =
    ap (λ (rest : List ℕ). id ∷ rest) (ids_again ids named below.1)
    ∙ ap (λ (first : ℕ). first ∷ ids_at ids (map (index_of ids) named)) (sym (id_at_index ids id below.0))

module _ (ids : List ℕ) (differ : has_repeat ids ≡ false) where
  -- the components that their own identifiers name
  components_again : (components : List ℕ) → AllByRecursion (λ c. c < length ids) components
      → map (index_of ids) (ids_at ids components) ≡ components
  components_again [] below = refl
  components_again (c ∷ components) below =
      ap (λ (first : ℕ). first ∷ map (index_of ids) (ids_at ids components)) (index_again ids c differ below.0)
      ∙ ap (λ (rest : List ℕ). c ∷ rest) (components_again components below.1)

  -- the identifiers of components are known
  known_again : (components : List ℕ) → AllByRecursion (λ c. c < length ids) components → are_known ids (ids_at ids components) ≡ true
  known_again [] below = refl
  known_again (c ∷ components) below =
      let here : nat_lt (index_of ids (get_or ids c 0)) (length ids) ≡ true =
      ap (λ n. nat_lt n (length ids)) (index_again ids c differ below.0) ∙ lt-ltb c (length ids) below.0 in
      rw here (known_again components below.1)

-- ---- parameters

-- parameters in force that are in their ranges are those of a scan
params_again : (precision : ℕ) (given : PresetParameters) → AreCodingParameters (in_force precision given)
    → params_of precision given ≡ Ok (in_force precision given)
params_again precision given i =
    let p = in_force precision given in ap (params_in_range p) (no_param_fault p i)

-- ---- the scan

-- a scan whose tests pass begins as the relation says
pub scan_begins : (h : HeaderState) (selection : ScanSelection) (shape : PictureShape) (s : Scan) → selection.by_sample ≡ false
    → h.frame ≡ Some shape → scan_judged shape h.preset h.restart_interval h.scans selection ≡ Ok s → BeginsScan h selection.ids s
scan_begins h selection shape s not_sample framed judged =
    let made = scan_in shape h.preset h.restart_interval selection in
    let tests = all_pass (begin_tests shape h.preset h.restart_interval h.scans selection) made s judged in
    let below = indices_below shape.ids selection.ids tests.0.0 in
    let begins_made : BeginsScan h selection.ids made = record {
      shape = shape;
      framed = framed;
      scan_is = ap (λ (b : Bool). scan_by b shape made.components made.params h.restart_interval) not_sample;
      in_frame = below;
      ids_are = ids_again shape.ids selection.ids below;
      in_range = params_ok shape.precision h.preset tests.0.1.0;
      samples_at_most = leb-true _ _ tests.0.1.1.0;
      scans_at_most = ltb-true _ _ tests.0.1.1.1.0;
    } in
    subst (BeginsScan h selection.ids) tests.1 begins_made

-- and where the relation lets a scan begin, its tests pass
pub scan_passes : (h : HeaderState) (ids : List ℕ) (line : Bool) (s : Scan) → IsHeaderState h → BeginsScan h ids s
    → scan_under h (selected ids line) h.frame ≡ Ok s
scan_passes h ids line s is b =
    let shape = b.shape in
    let selection : ScanSelection = selected ids line in
    let differ = (is.frame shape b.framed).ids_differ in
    let params = in_force shape.precision h.preset in
    let known = ap (are_known shape.ids) b.ids_are ∙ known_again shape.ids differ s.components b.in_frame in
    let indices = sym (ap (map (index_of shape.ids)) b.ids_are ∙ components_again shape.ids differ s.components b.in_frame) in
    let in_range = subst AreCodingParameters (ap (λ (x : Scan). x.params) b.scan_is) b.in_range in
    let samples = subst (λ (x : Scan). x.width * length ids * row_count x 0 ≤ 2 ^ 28) b.scan_is b.samples_at_most in
    ap (scan_under h selection) b.framed
    ∙ begins shape h.preset h.restart_interval h.scans selection s.components params known indices
    (params_again shape.precision h.preset in_range) samples b.scans_at_most
    ∙ ap ok_scan (sym b.scan_is)
