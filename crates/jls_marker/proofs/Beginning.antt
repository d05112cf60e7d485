-- A scan that begins: the first test that fails, and the scan where none does.
use Rattle.std.proofs.Common.{◌≡◌, ℕ, ◌*◌, ◌<◌, ◌≤◌, ◌^◌, Bool, true, false, List, [], ◌∷◌, length, map, Result, Ok, Err, refl, sym, ap}
use Rattle.std.proofs.Common.{◌∙◌, arith}
use Rattle.std.specs.Prelude.{nat_lt, nat_le, is_ok}
use Rattle.std.specs.List.{list_all, AllByRecursion}
use Rattle.std.proofs.lemmas.Bool.{and_parts, ltb-true, lt-ltb, le-leb, lt-leb, le-ltb}
use Rattle.jls_values.specs.Shape.{PictureShape}
use Rattle.jls_values.specs.Params.{CodingParameters}
use Rattle.jls_values.specs.ParamsOf.{in_force, params_of}
use Rattle.jls_values.specs.declared.params.ParamFault.{ParamFault}
use Rattle.jls_marker.specs.ComponentIndex.{index_of}
use Rattle.jls_marker.specs.Headers.{scan_judged, scan_in}
use Rattle.jls_values.specs.PresetParameters.{PresetParameters}
use Rattle.jls_marker.specs.Scan.{Scan, scan_by, row_count}
use Rattle.jls_marker.specs.ScanSelection.{ScanSelection}
use Rattle.jls_marker.proofs.ParamRanges.{params_there}
use Rattle.jls_marker.specs.declared.fault.MarkerFault.{MarkerFault}
use Rattle.jls_marker.specs.declared.fault.MarkerFault.TheVariants as fault

-- the frame has all of these components
abbrev pub are_known : List ℕ → List ℕ → Bool
are_known frame_ids ids = list_all (λ id. nat_lt (index_of frame_ids id) (length frame_ids)) ids

-- then their indices are those of components
pub indices_below : (frame_ids ids : List ℕ) → are_known frame_ids ids ≡ true
    → AllByRecursion (λ c. c < length frame_ids) (map (index_of frame_ids) ids)
indices_below frame_ids [] e = tt
indices_below frame_ids (id ∷ ids) e =
    let p = and_parts (nat_lt (index_of frame_ids id) (length frame_ids)) (are_known frame_ids ids) e in
    (ltb-true _ _ p.0, indices_below frame_ids ids p.1)

pub bytes_below : (n : ℕ) (cs : List ℕ) → n ≤ 4 → AllByRecursion (λ c. c < n) cs → AllByRecursion (λ c. c < 256) cs
bytes_below n [] few h = tt
bytes_below n (c ∷ cs) few h = (let a = h.0 in omega arith, bytes_below n cs few h.1)

-- what the test says of lists that are the frame's and the scan's it says of these
pub known_there : (xs ys frame_ids ids : List ℕ) → xs ≡ frame_ids → ys ≡ ids → true ≡ are_known xs ys → are_known frame_ids ids ≡ true
known_there xs ys frame_ids ids p q e = ap (λ (x : List ℕ). are_known x ids) (sym p) ∙ ap (are_known xs) (sym q) ∙ sym e

pub indices_there : (xs ys frame_ids ids cs : List ℕ) → xs ≡ frame_ids → ys ≡ ids → cs ≡ map (index_of xs) ys
    → cs ≡ map (index_of frame_ids) ids
indices_there xs ys frame_ids ids cs p q e = e ∙ ap (λ (x : List ℕ). map (index_of x) ys) p ∙ ap (map (index_of frame_ids)) q

pub params_known : (f : PictureShape) (p : PresetParameters) (n : ℕ) (r : Result CodingParameters ParamFault) → n ≡ f.precision
    → r ≡ params_of n p → params_of f.precision p ≡ r
params_known f p n r e h = ap (λ (x : ℕ). params_of x p) (sym e) ∙ sym h

pub bad_params : (f : PictureShape) (p : PresetParameters) (r n : ℕ) (s : ScanSelection) (e : ParamFault) → are_known f.ids s.ids ≡ true
    → params_of f.precision p ≡ Err e
    → scan_judged f p r n s ≡ Err fault.BadParams
bad_params f p r n s e known bad = let b : is_ok (params_of f.precision p) ≡ false = ap is_ok bad in rw (known, b) refl

abbrev pub samples : PictureShape → PresetParameters → ℕ → ScanSelection → ℕ
samples f p r s = f.width * length s.ids * row_count (scan_in f p r s) 0

-- where an interval is too large, that is the fault
pub too_large : (f : PictureShape) (p : PresetParameters) (r n : ℕ) (s : ScanSelection) → are_known f.ids s.ids ≡ true
    → is_ok (params_of f.precision p) ≡ true → 2 ^ 28 < samples f p r s
    → scan_judged f p r n s ≡ Err fault.IntervalTooLarge
too_large f p r n s known fine large = let e : nat_le (samples f p r s) (2 ^ 28) ≡ false = lt-leb _ _ large in rw (known, fine, e) refl

-- where only the number of scans is too large, that is the fault
pub too_many : (f : PictureShape) (p : PresetParameters) (r n : ℕ) (s : ScanSelection) → are_known f.ids s.ids ≡ true
    → is_ok (params_of f.precision p) ≡ true → samples f p r s ≤ 2 ^ 28 → 16 ≤ n
    → scan_judged f p r n s ≡ Err fault.TooManyScans
too_many f p r n s known fine small many =
    let e : nat_le (samples f p r s) (2 ^ 28) ≡ true = le-leb _ _ small in
    let g : nat_lt n 16 ≡ false = le-ltb _ _ many in
    rw (known, fine, e, g) refl

-- a scan as a result
abbrev pub ok_scan : Scan → Result Scan MarkerFault
ok_scan x = Ok x

-- where no test fails, the scan begins that the header selects
pub begins : (f : PictureShape) (p : PresetParameters) (r n : ℕ) (s : ScanSelection) (cs : List ℕ) (params : CodingParameters)
    → are_known f.ids s.ids ≡ true → cs ≡ map (index_of f.ids) s.ids → params_of f.precision p ≡ Ok params → samples f p r s ≤ 2 ^ 28 → n
    < 16
    → scan_judged f p r n s ≡ Ok (scan_by s.by_sample f cs params r)
begins f p r n s cs params known indices there small few =
    let made = params_there f.precision p params there in
    let fine : is_ok (params_of f.precision p) ≡ true = ap is_ok there in
    let e : nat_le (samples f p r s) (2 ^ 28) ≡ true = le-leb _ _ small in
    let g : nat_lt n 16 ≡ true = lt-ltb _ _ few in
    let judged : scan_judged f p r n s ≡ Ok (scan_in f p r s) = rw (known, fine, e, g) refl in
    judged ∙ ap (λ (x : List ℕ). ok_scan (scan_by s.by_sample f x (in_force f.precision p) r)) (sym indices)
    ∙ ap (λ (x : CodingParameters). ok_scan (scan_by s.by_sample f cs x r)) (sym made.0)
