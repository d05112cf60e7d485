-- The layouts of the marker segments: the fields of each in their order, and the bytes that they are. What is said here is the
-- payload, which follows the marker and the two bytes of the length. Numbers of two bytes stand high byte first.
use Rattle.std.specs.Prelude.{◌≡◌, ℕ, ◌+◌, ◌-◌, ◌*◌, ◌<◌, ◌^◌, ◌≤◌, ◌&&◌, ◌==◌, nat_le, List, [], ◌∷◌, ◌++◌, length, take, drop, get_or}
use Rattle.std.specs.Prelude.{Option, Some, None, if◌then◌else◌}
use Rattle.std.specs.List.{flat_map}
use Rattle.std.specs.Int.{w16, w32, to_be_bytes, from_be_bytes}
use Rattle.jls_values.specs.PresetParameters.{PresetParameters, ArePresetParameters}

-- The frame header (T.81, B.2.2; T.87, C.2.2) --------------------------------------------------------------

-- of each component Ci; Hi and Vi in four bits each; and Tqi (T.81 B.2.2; T.87 C.2.2)
pub record FrameComponent : Type 0 where
  pub id : ℕ
  pub sampling : ℕ
  pub table : ℕ

-- P, Y, X and the components, preceded by their number (T.81 B.2.2; T.87 C.2.2)
pub record FrameHeader : Type 0 where
  pub precision : ℕ
  pub height : ℕ
  pub width : ℕ
  pub components : List FrameComponent

-- the three bytes of a component in a frame header (T.81 B.2.2; T.87 C.2.2)
abbrev pub frame_component_bytes : FrameComponent → List ℕ
frame_component_bytes c = c.id ∷ c.sampling ∷ c.table ∷ []

-- the bytes of a frame header (T.81 B.2.2; T.87 C.2.2)
abbrev pub frame_header_bytes : FrameHeader → List ℕ
frame_header_bytes h =
    h.precision ∷ (to_be_bytes w16 h.height ++ (to_be_bytes w16 h.width
    ++ (length h.components ∷ flat_map frame_component_bytes h.components)))

-- these bytes are that frame header (T.81 B.2.2; T.87 C.2.2)
pub record HasFrameLayout (payload : List ℕ) (h : FrameHeader) : Type 0 where
  pub bytes : payload ≡ frame_header_bytes h
  pub height_below : h.height < 2 ^ 16
  pub width_below : h.width < 2 ^ 16

-- the components that these bytes are, by threes (T.81 B.2.2; T.87 C.2.2)
abbrev pub frame_components : List ℕ → List FrameComponent
frame_components (id ∷ sampling ∷ table ∷ more) = record { id = id; sampling = sampling; table = table } ∷ frame_components more
frame_components _ = []

-- the header that has this layout (T.81 B.2.2; T.87 C.2.2)
abbrev pub frame_header : List ℕ → Option FrameHeader
frame_header (p ∷ y1 ∷ y0 ∷ x1 ∷ x0 ∷ n ∷ body) =
    if length body == 3 * n
    then Some (record {
      precision = p;
      height = from_be_bytes w16 (y1 ∷ y0 ∷ []);
      width = from_be_bytes w16 (x1 ∷ x0 ∷ []);
      components = frame_components body;
    })
    else None
frame_header _ = None

-- The scan header (T.81, B.2.3; T.87, C.2.3) ---------------------------------------------------------------

-- of each component Csj and Tmj (T.81 B.2.3; T.87 C.2.3)
pub record ScanComponent : Type 0 where
  pub id : ℕ
  pub table : ℕ

-- one to four components, preceded by their number; NEAR; ILV; and Ah and Al in four bits each (T.81 B.2.3; T.87 C.2.3)
pub record ScanHeader : Type 0 where
  pub components : List ScanComponent
  pub near : ℕ
  pub interleave : ℕ
  pub approximation : ℕ

-- the two bytes of a component in a scan header (T.81 B.2.3; T.87 C.2.3)
abbrev pub scan_component_bytes : ScanComponent → List ℕ
scan_component_bytes c = c.id ∷ c.table ∷ []

-- the bytes of a scan header (T.81 B.2.3; T.87 C.2.3)
abbrev pub scan_header_bytes : ScanHeader → List ℕ
scan_header_bytes h =
    length h.components ∷ (flat_map scan_component_bytes h.components ++ (h.near ∷ h.interleave ∷ h.approximation ∷ []))

-- these bytes are that scan header (T.81 B.2.3; T.87 C.2.3)
pub record HasScanLayout (payload : List ℕ) (h : ScanHeader) : Type 0 where
  pub bytes : payload ≡ scan_header_bytes h
  pub components_at_least : 1 ≤ length h.components
  pub components_at_most : length h.components ≤ 4

-- the components that these bytes are, by twos (T.81 B.2.3; T.87 C.2.3)
abbrev pub scan_components : List ℕ → List ScanComponent
scan_components (id ∷ table ∷ more) = record { id = id; table = table } ∷ scan_components more
scan_components _ = []

-- the header that has this layout (T.81 B.2.3; T.87 C.2.3)
abbrev pub scan_header : List ℕ → Option ScanHeader
scan_header [] = None
scan_header (n ∷ body) =
    if nat_le 1 n && (nat_le n 4 && (length body == 2 * n + 3))
    then Some (record {
      components = scan_components (take (2 * n) body);
      near = get_or body (2 * n) 0;
      interleave = get_or body (2 * n + 1) 0;
      approximation = get_or body (2 * n + 2) 0;
    })
    else None

-- Preset parameters (T.87, C.2.4.1.1) ----------------------------------------------------------------------

-- what follows the ID: MAXVAL, T1, T2, T3 and RESET (T.87 C.2.4.1.1)
abbrev pub preset_bytes : PresetParameters → List ℕ
preset_bytes p =
    to_be_bytes w16 p.maxval ++ (to_be_bytes w16 p.t1 ++ (to_be_bytes w16 p.t2 ++ (to_be_bytes w16 p.t3 ++ to_be_bytes w16 p.reset)))

-- these bytes are the five values after the ID of an LSE segment (T.87 C.2.4.1.1)
pub record HasPresetLayout (values : List ℕ) (p : PresetParameters) : Type 0 where
  pub bytes : values ≡ preset_bytes p
  pub in_range : ArePresetParameters p

-- the parameters that have this layout (T.87 C.2.4.1.1)
abbrev pub preset_parameters : List ℕ → Option PresetParameters
preset_parameters (a1 ∷ a0 ∷ b1 ∷ b0 ∷ c1 ∷ c0 ∷ d1 ∷ d0 ∷ e1 ∷ e0 ∷ []) =
    Some (record {
      maxval = from_be_bytes w16 (a1 ∷ a0 ∷ []);
      t1 = from_be_bytes w16 (b1 ∷ b0 ∷ []);
      t2 = from_be_bytes w16 (c1 ∷ c0 ∷ []);
      t3 = from_be_bytes w16 (d1 ∷ d0 ∷ []);
      reset = from_be_bytes w16 (e1 ∷ e0 ∷ []);
    })
preset_parameters _ = None

-- The restart interval (T.81, B.2.4.4; T.87, C.2.5) --------------------------------------------------------

-- Ri in two, three or four bytes (T.81 B.2.4.4; T.87 C.2.5)
pub record HasRestartLayout (payload : List ℕ) (n : ℕ) : Type 0 where
  pub length_at_least : 2 ≤ length payload
  pub length_at_most : length payload ≤ 4
  pub bytes : payload ≡ drop (4 - length payload) (to_be_bytes w32 n)
  pub below : n < 256 ^ length payload

-- the number that has this layout (T.81 B.2.4.4; T.87 C.2.5)
abbrev pub restart_interval : List ℕ → Option ℕ
restart_interval (a ∷ b ∷ []) = Some (from_be_bytes w32 (0 ∷ 0 ∷ a ∷ b ∷ []))
restart_interval (a ∷ b ∷ c ∷ []) = Some (from_be_bytes w32 (0 ∷ a ∷ b ∷ c ∷ []))
restart_interval (a ∷ b ∷ c ∷ d ∷ []) = Some (from_be_bytes w32 (a ∷ b ∷ c ∷ d ∷ []))
restart_interval _ = None
