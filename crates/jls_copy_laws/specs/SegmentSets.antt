-- What a marker segment without fault sets under the strict profile: a relation between the headers before it and after it (T.81 B.2;
-- T.87 C.2).
use Rattle.std.specs.Prelude.{◌≡◌, ℕ, ◌*◌, ◌-◌, ◌<◌, ◌≤◌, ◌^◌, ◌+◌, true, false, List, [], ◌∷◌, ◌++◌, length, map, get_or, Option, Some}
use Rattle.std.specs.Prelude.{None, ◌⊎◌, replicate}
use Rattle.std.specs.List.{AllByRecursion, flat_map, zip}
use Rattle.std.specs.Int.{to_be_bytes, from_be_bytes, w16, w32}
use Rattle.jls_values.specs.Params.{AreCodingParameters}
use Rattle.jls_values.specs.ParamsOf.{in_force}
use Rattle.jls_values.specs.PresetParameters.{PresetParameters}
use Rattle.jls_values.specs.Shape.{PictureShape, IsShape, has_repeat}
use Rattle.jls_marker.specs.HeaderState.{HeaderState}
use Rattle.jls_marker.specs.Layouts.{preset_bytes}
use Rattle.jls_marker.specs.MarkerCodes.{sof55, sos, lse, dri, is_skipped}
use Rattle.jls_marker.specs.Scan.{Scan, scan_with, row_count}

-- SOF55 for a picture of this shape: P, Y, X, Nf, and for each component Ci, Hi and Vi of 1, and Tqi (T.81 B.2.2; T.87 C.2.2). That Tqi is
-- free, and that Y isn't 0, is this project's choice
pub record IsFramePayload (shape : PictureShape) (payload : List ℕ) : Type 0 where
  pub is_shape : IsShape shape
  pub tables : List ℕ
  pub as_many : length tables ≡ length shape.ids
  pub layout : payload ≡ shape.precision ∷ to_be_bytes w16 shape.height ++ to_be_bytes w16 shape.width
      ++ length shape.ids ∷ flat_map (λ c. c.0 ∷ 0x11 ∷ c.1 ∷ []) (zip shape.ids tables)

-- SOS for these components: Ns, and for each component Csj and no mapping table; NEAR of 0; ILV; Ah, and Al of 0 (T.81 B.2.3; T.87 C.2.3).
-- ILV is 1, or for one component 0. That it may be 1 for one component, and that Ah is free, is this project's choice
pub record IsScanPayload (ids payload : List ℕ) : Type 0 where
  pub at_least_one : 1 ≤ length ids
  pub at_most_four : length ids ≤ 4
  pub ids_differ : has_repeat ids ≡ false
  pub interleave : ℕ
  pub by_line : (interleave ≡ 1) ⊎ ((interleave ≡ 0) × (length ids ≡ 1))
  pub high : ℕ
  pub layout : payload ≡ length ids ∷ flat_map (λ id. id ∷ 0 ∷ []) ids ++ 0 ∷ interleave ∷ 16 * high ∷ []

-- The scan that an SOS with these identifiers begins (T.81 B.2.3; T.87 C.2.4.1.1). Its components are in the frame, and its parameters are
-- in the ranges of T.87, table C.1. Three things are this project's choice: the components may stand in any order; no restart interval has
-- more than 2^28 samples, of which the first is the longest; and there are at most sixteen scans
pub record BeginsScan (h : HeaderState) (ids : List ℕ) (s : Scan) : Type 0 where
  pub shape : PictureShape
  pub framed : h.frame ≡ Some shape
  pub scan_is : s ≡ scan_with shape s.components (in_force shape.precision h.preset) h.restart_interval
  pub in_frame : AllByRecursion (λ c. c < length shape.ids) s.components
  pub ids_are : ids ≡ map (λ c. get_or shape.ids c 0) s.components
  pub in_range : AreCodingParameters s.params
  pub samples_at_most : s.width * length ids * row_count s 0 ≤ 2 ^ 28
  pub scans_at_most : h.scans < 16

-- LSE of ID 1: MAXVAL, T1, T2, T3 and RESET (T.87 C.2.4.1.1)
abbrev pub preset_values : PresetParameters → List ℕ
preset_values p = p.maxval ∷ p.t1 ∷ p.t2 ∷ p.t3 ∷ p.reset ∷ []

-- After the headers named first, the marker segment of this code and payload has no fault. It leaves the headers named second, and an SOS
-- begins a scan. LSE of ID 2 or 3, which is a mapping table (T.87 C.2.4.1.2, C.2.4.1.3), changes nothing. Nor do COM and APPn
-- (T.81 B.2.4.5, B.2.4.6). Every other segment is a fault, and so is a second frame header. DRI has two to four bytes (T.87 C.2.5)
pub data Sets : HeaderState → ℕ → List ℕ → HeaderState → Option Scan → Type 0 where
  frame : (h : HeaderState) (shape : PictureShape) (payload : List ℕ) → h.frame ≡ None → IsFramePayload shape payload
      → Sets h sof55 payload (record h { frame = Some shape }) None
  scan : (h : HeaderState) (ids payload : List ℕ) (s : Scan) → IsScanPayload ids payload → BeginsScan h ids s
      → Sets h sos payload (record h { scans = h.scans + 1 }) (Some s)
  presets : (h : HeaderState) (p : PresetParameters) → AllByRecursion (λ value. value < 2 ^ 16) (preset_values p)
      → Sets h lse (1 ∷ preset_bytes p) (record h { preset = p }) None
  mapping_table : (h : HeaderState) (id : ℕ) (table : List ℕ) → (id ≡ 2) ⊎ (id ≡ 3) → Sets h lse (id ∷ table) h None
  restart : (h : HeaderState) (payload : List ℕ) → 2 ≤ length payload → length payload ≤ 4
      → Sets h dri payload (record h { restart_interval = from_be_bytes w32 (replicate (4 - length payload) 0 ++ payload) }) None
  skipped : (h : HeaderState) (code : ℕ) (payload : List ℕ) → is_skipped code ≡ true → Sets h code payload h None
