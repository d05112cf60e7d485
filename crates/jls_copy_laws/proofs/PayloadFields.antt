-- The payloads of a frame header and of a scan header, field by field, are those of the layouts that are read.
use Rattle.std.proofs.Common.{◌≡◌, ℕ, ◌*◌, ◌/◌, ◌<◌, Bool, true, false, List, [], ◌∷◌, ◌++◌, map, length, ◌⊎◌, refl, sym, ◌∙◌, ap, subst}
use Rattle.std.proofs.Common.{arith, inl, inr}
use Rattle.std.specs.Prelude.{◌==◌, if◌then◌else◌}
use Rattle.std.specs.List.{AllByRecursion, flat_map, zip}
use Rattle.std.specs.Int.{w16, to_be_bytes}
use Rattle.std.proofs.lemmas.Bool.{cases_lt}
use Rattle.std.proofs.lemmas.List.{length-map}
use Rattle.std.proofs.lemmas.List.Folds.{flat_map-map}
use Rattle.std.proofs.lemmas.Slice.Zip.{firsts-zip}
use Rattle.jls_values.specs.Shape.{PictureShape}
use Rattle.jls_marker.specs.Layouts.{FrameComponent, FrameHeader, HasFrameLayout, frame_component_bytes, frame_header_bytes, ScanComponent}
use Rattle.jls_marker.specs.Layouts.{ScanHeader, HasScanLayout, scan_component_bytes, scan_header_bytes}
use Rattle.jls_marker.specs.Payloads.{IsFrameHeaderOf, IsScanHeaderUnder}
use Rattle.jls_marker.specs.Profiles.{IsOfProfile}
use Rattle.jls_marker.specs.ScanSelection.{ScanSelection, IsScanSelection, selection, interleave_of}
use Rattle.jls_marker.specs.SegmentLaws.{AreBytes}
use Rattle.jls_marker.specs.declared.profile.Profile.{Profile}
use Rattle.jls_marker.specs.declared.profile.Profile.TheVariants.{Strict, Wide}
use Rattle.jls_copy_laws.specs.SegmentSets.{IsFramePayload, IsScanPayload}

-- ---- the frame header

-- the bytes of a component from its identifier and its table
abbrev sampled_once : ℕ × ℕ → List ℕ
sampled_once c = c.0 ∷ 0x11 ∷ c.1 ∷ []

-- the payload with these fields
abbrev frame_bytes : ℕ → ℕ → ℕ → List ℕ → List ℕ → List ℕ
frame_bytes precision height width ids tables =
    precision ∷ to_be_bytes w16 height ++ to_be_bytes w16 width ++ length ids ∷ flat_map sampled_once (zip ids tables)

-- components that are sampled once are determined by their identifiers and tables
bytes_of_components : (cs : List FrameComponent) → AllByRecursion (λ c. c.sampling ≡ 0x11) cs
    → flat_map frame_component_bytes cs ≡ flat_map sampled_once (zip (map (λ c. c.id) cs) (map (λ c. c.table) cs))
bytes_of_components [] once = refl
bytes_of_components (c ∷ cs) once =
    ap (λ (sampling : ℕ). c.id ∷ sampling ∷ c.table ∷ flat_map frame_component_bytes cs) once.0
    ∙ ap (λ (rest : List ℕ). c.id ∷ 0x11 ∷ c.table ∷ rest) (bytes_of_components cs once.1)

-- the bytes of such a header, by its fields
bytes_of_header : (h : FrameHeader) → AllByRecursion (λ c. c.sampling ≡ 0x11) h.components
    → frame_header_bytes h ≡ frame_bytes h.precision h.height h.width (map (λ c. c.id) h.components) (map (λ c. c.table) h.components)
bytes_of_header h once =
    let prefix = λ (rest : List ℕ). h.precision ∷ to_be_bytes w16 h.height ++ to_be_bytes w16 h.width ++ rest in
    ap (λ (n : ℕ). prefix (n ∷ flat_map frame_component_bytes h.components)) (sym (length-map h.components (λ (c : FrameComponent). c.id)))
    ∙ ap (λ (rest : List ℕ). prefix (length (map (λ c. c.id) h.components) ∷ rest)) (bytes_of_components h.components once)

-- a payload that is read as a frame header is one
pub frame_payload_read : (shape : PictureShape) (payload : List ℕ) (h : FrameHeader) → HasFrameLayout payload h → IsFrameHeaderOf shape h
    → IsFramePayload shape payload
frame_payload_read shape payload h layout is =
    let tables = map (λ c. c.table) h.components in
    record {
      is_shape = is.in_range;
      tables = tables;
      as_many =
          length-map h.components (λ (c : FrameComponent). c.table) ∙ sym (length-map h.components (λ (c : FrameComponent). c.id))
          ∙ ap length is.ids;
      layout =
          layout.bytes ∙ bytes_of_header h is.sampling
          ∙ ap (λ (x : ℕ). frame_bytes x h.height h.width (map (λ c. c.id) h.components) tables) is.precision
          ∙ ap (λ (x : ℕ). frame_bytes shape.precision x h.width (map (λ c. c.id) h.components) tables) is.height
          ∙ ap (λ (x : ℕ). frame_bytes shape.precision shape.height x (map (λ c. c.id) h.components) tables) is.width
          ∙ ap (λ (ids : List ℕ). frame_bytes shape.precision shape.height shape.width ids tables) is.ids;
    }

-- the component of an identifier and a table
abbrev component_of : ℕ × ℕ → FrameComponent
component_of c = record { id = c.0; sampling = 0x11; table = c.1 }

-- the header of a shape with these tables
abbrev header_of : PictureShape → List ℕ → FrameHeader
header_of shape tables =
    record { precision = shape.precision; height = shape.height; width = shape.width; components = map component_of (zip shape.ids tables) }

-- its components have these identifiers
ids_of_components : (cs : List (ℕ × ℕ)) → map (λ c. c.id) (map component_of cs) ≡ map (λ (c : ℕ × ℕ). c.0) cs
ids_of_components [] = refl
ids_of_components (c ∷ cs) = ap (λ (rest : List ℕ). c.0 ∷ rest) (ids_of_components cs)

-- and are sampled once
components_sampled : (cs : List (ℕ × ℕ)) → AllByRecursion (λ c. c.sampling ≡ 0x11) (map component_of cs)
components_sampled [] = tt
components_sampled (c ∷ cs) = (refl, components_sampled cs)

-- as many components as identifiers
components_count : (ids tables : List ℕ) → length tables ≡ length ids → length (map component_of (zip ids tables)) ≡ length ids
components_count ids tables as_many =
    length-map (zip ids tables) component_of ∙ sym (length-map (zip ids tables) (λ (c : ℕ × ℕ). c.0))
    ∙ ap length (firsts-zip ids tables as_many)

-- the payload of a frame header has the layout that is read
pub frame_payload_laid : (shape : PictureShape) (payload : List ℕ) → IsFramePayload shape payload
    → (h : FrameHeader) × HasFrameLayout payload h × IsFrameHeaderOf shape h
frame_payload_laid shape payload is =
    let h = header_of shape is.tables in
    let pairs = zip shape.ids is.tables in
    let prefix = λ (rest : List ℕ). shape.precision ∷ to_be_bytes w16 shape.height ++ to_be_bytes w16 shape.width ++ rest in
    let same : frame_header_bytes h ≡ frame_bytes shape.precision shape.height shape.width shape.ids is.tables =
    ap (λ (n : ℕ). prefix (n ∷ flat_map frame_component_bytes (map component_of pairs))) (components_count shape.ids is.tables is.as_many)
    ∙ ap (λ (rest : List ℕ). prefix (length shape.ids ∷ rest)) (flat_map-map frame_component_bytes component_of pairs) in
    let laid : HasFrameLayout payload h = record {
      bytes = is.layout ∙ sym same;
      height_below = is.is_shape.height_below;
      width_below = is.is_shape.width_below;
    } in
    let fields : IsFrameHeaderOf shape h = record {
      precision = refl;
      height = refl;
      width = refl;
      ids = ids_of_components pairs ∙ firsts-zip shape.ids is.tables is.as_many;
      sampling = components_sampled pairs;
      in_range = is.is_shape;
    } in
    (h, laid, fields)

-- ---- the scan header

-- the payload with these fields
abbrev scan_bytes : List ℕ → ℕ → ℕ → ℕ → List ℕ
scan_bytes ids near interleave approximation = length ids ∷ flat_map (λ id. id ∷ 0 ∷ []) ids ++ near ∷ interleave ∷ approximation ∷ []

-- components without a mapping table are determined by their identifiers
bytes_of_ids : (cs : List ScanComponent) → AllByRecursion (λ c. c.table ≡ 0) cs
    → flat_map scan_component_bytes cs ≡ flat_map (λ id. id ∷ 0 ∷ []) (map (λ c. c.id) cs)
bytes_of_ids [] none = refl
bytes_of_ids (c ∷ cs) none =
    ap (λ (table : ℕ). c.id ∷ table ∷ flat_map scan_component_bytes cs) none.0
    ∙ ap (λ (rest : List ℕ). c.id ∷ 0 ∷ rest) (bytes_of_ids cs none.1)

-- the bytes of such a header, by its fields
bytes_of_scan : (h : ScanHeader) → AllByRecursion (λ c. c.table ≡ 0) h.components
    → scan_header_bytes h ≡ scan_bytes (map (λ c. c.id) h.components) h.near h.interleave h.approximation
bytes_of_scan h none =
    let tail = h.near ∷ h.interleave ∷ h.approximation ∷ [] in
    ap (λ (n : ℕ). n ∷ flat_map scan_component_bytes h.components ++ tail) (sym (length-map h.components (λ (c : ScanComponent). c.id)))
    ∙ ap (λ (rest : List ℕ). length (map (λ c. c.id) h.components) ∷ rest ++ tail) (bytes_of_ids h.components none)

-- ILV of a selection that is not by sample is 1, or 0 for one component alone
interleave_read : (s : ScanSelection) (interleave : ℕ) → IsScanSelection s → s.by_sample ≡ false → interleave ≡ interleave_of s
    → (interleave ≡ 1) ⊎ ((interleave ≡ 0) × (length s.ids ≡ 1))
interleave_read s interleave is not_sample e =
    by_line s.line (e ∙ ap (λ (b : Bool). if b then 2 else if s.line then 1 else 0) not_sample)
    (λ several. is.interleaved several not_sample)
  where
    by_line : (line : Bool) → interleave ≡ (if line then 1 else 0) → (1 < length s.ids → line ≡ true)
        → (interleave ≡ 1) ⊎ ((interleave ≡ 0) × (length s.ids ≡ 1))
    by_line true e several = inl e
    by_line false e several = elim (cases_lt 1 (length s.ids)) [
      | inl lt ↦ let no : false ≡ true = several lt in absurd cc
      | inr le ↦ inr (e, let least = is.ids_at_least in omega (arith, le, least))
    ]

-- a payload that is read as a strict scan header is one
pub scan_payload_read : (s : ScanSelection) (payload : List ℕ) (h : ScanHeader) → HasScanLayout payload h → IsScanHeaderUnder Strict s h
    → IsScanPayload s.ids payload
scan_payload_read s payload h layout is =
    let high = h.approximation / 16 in
    let shifted : h.approximation ≡ 16 * high = let e = is.point_transform in omega (arith, e) in
    record {
      at_least_one = is.in_range.ids_at_least;
      at_most_four = is.in_range.ids_at_most;
      ids_differ = is.in_range.ids_differ;
      interleave = h.interleave;
      by_line = interleave_read s h.interleave is.in_range is.of_profile is.interleave;
      high = high;
      layout =
          layout.bytes ∙ bytes_of_scan h is.tables
          ∙ ap (λ (ids : List ℕ). scan_bytes ids h.near h.interleave h.approximation) is.ids
          ∙ ap (λ (near : ℕ). scan_bytes s.ids near h.interleave h.approximation) is.near
          ∙ ap (scan_bytes s.ids 0 h.interleave) shifted;
    }

-- the component of an identifier, without a mapping table
abbrev scan_component : ℕ → ScanComponent
scan_component id = record { id = id; table = 0 }

-- components have their identifiers
scan_ids_again : (ids : List ℕ) → map (λ c. c.id) (map scan_component ids) ≡ ids
scan_ids_again [] = refl
scan_ids_again (id ∷ ids) = ap (λ (rest : List ℕ). id ∷ rest) (scan_ids_again ids)

-- and no mapping table
without_tables : (ids : List ℕ) → AllByRecursion (λ c. c.table ≡ 0) (map scan_component ids)
without_tables [] = tt
without_tables (id ∷ ids) = (refl, without_tables ids)

-- identifiers in a payload of bytes are bytes
ids_are_bytes : (ids tail : List ℕ) → AreBytes (flat_map (λ id. id ∷ 0 ∷ []) ids ++ tail) → AreBytes ids
ids_are_bytes [] tail bytes = tt
ids_are_bytes (id ∷ ids) tail bytes = (bytes.0, ids_are_bytes ids tail bytes.1.1)

-- ILV of 0 or 1 is determined by whether it is 1
interleave_again : (ids : List ℕ) (interleave : ℕ) → (interleave ≡ 1) ⊎ ((interleave ≡ 0) × (length ids ≡ 1))
    → (interleave ≡ (if interleave == 1 then 1 else 0)) × (1 < length ids → (interleave == 1) ≡ true)
interleave_again ids interleave (inl one) = rw one (refl, λ several. refl)
interleave_again ids interleave (inr (none, single)) = rw none (refl, λ several. absurd (omega (arith, single, several)))

-- what the header of a scan selects
abbrev pub selected : List ℕ → ℕ → ScanSelection
selected ids interleave = selection ids (interleave == 1)

-- it is a selection of each profile
selected_of : (profile : Profile) (ids : List ℕ) (interleave : ℕ) → IsOfProfile profile (selected ids interleave)
selected_of Strict ids interleave = refl
selected_of Wide ids interleave = tt

-- the payload of a scan header has the layout that is read under each profile
pub scan_payload_laid : (profile : Profile) (ids payload : List ℕ) → AreBytes payload → (is : IsScanPayload ids payload)
    → (h : ScanHeader) × HasScanLayout payload h × IsScanHeaderUnder profile (selected ids is.interleave) h
scan_payload_laid profile ids payload bytes is =
    let h : ScanHeader =
    record { components = map scan_component ids; near = 0; interleave = is.interleave; approximation = 16 * is.high } in
    let tail = 0 ∷ is.interleave ∷ 16 * is.high ∷ [] in
    let count : length h.components ≡ length ids = length-map ids scan_component in
    let again = interleave_again ids is.interleave is.by_line in
    let least = is.at_least_one in
    let most = is.at_most_four in
    let same : scan_header_bytes h ≡ scan_bytes ids 0 is.interleave (16 * is.high) =
    bytes_of_scan h (without_tables ids) ∙ ap (λ (xs : List ℕ). scan_bytes xs 0 is.interleave (16 * is.high)) (scan_ids_again ids) in
    let laid : HasScanLayout payload h = record {
      bytes = is.layout ∙ sym same;
      components_at_least = omega (arith, count, least);
      components_at_most = omega (arith, count, most);
    } in
    let fields : IsScanHeaderUnder profile (selected ids is.interleave) h = record {
      ids = scan_ids_again ids;
      tables = without_tables ids;
      near = refl;
      interleave = again.0;
      point_transform = omega arith;
      in_range = record {
        ids_at_least = least;
        ids_at_most = most;
        ids_are_bytes = ids_are_bytes ids tail (subst AreBytes is.layout bytes).1;
        ids_differ = is.ids_differ;
        interleaved = λ several e. again.1 several;
        not_both = λ e. absurd cc;
        several = λ e. absurd cc;
      };
      of_profile = selected_of profile ids is.interleave;
    } in
    (h, laid, fields)
