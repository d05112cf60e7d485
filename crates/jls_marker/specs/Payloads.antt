-- The payloads of a segment, as a relation (T.81 B.2; T.87 C.2): what stands in which field, and which fields are free. Which values are
-- fixed is this project's choice.
use Rattle.std.specs.Prelude.{◌≡◌, ℕ, ◌%◌, true, List, ◌∷◌, map, ◌⊎◌}
use Rattle.std.specs.List.{AllByRecursion}
use Rattle.jls_values.specs.Shape.{PictureShape, IsShape}
use Rattle.jls_marker.specs.MarkerCodes.{sof55, sos, lse, dri, is_skipped}
use Rattle.jls_marker.specs.Profiles.{IsOfProfile}
use Rattle.jls_marker.specs.ScanSelection.{ScanSelection, IsScanSelection, interleave_of}
use Rattle.jls_marker.specs.Layouts.{FrameHeader, HasFrameLayout, ScanHeader, HasScanLayout, HasPresetLayout, HasRestartLayout}
use Rattle.jls_marker.specs.declared.profile.Profile.{Profile}
use Rattle.jls_marker.specs.declared.profile.Profile.TheVariants as profiles
use Rattle.jls_marker.specs.declared.segment.Segment.{Segment}
use Rattle.jls_marker.specs.declared.segment.Segment.TheVariants.{Frame, Scan, Preset, Restart, Skipped}

-- the frame header of a picture of this shape: each component has a sample for each of the picture. Tq is free (T.81 B.2, T.87 C.2)
pub record IsFrameHeaderOf (s : PictureShape) (h : FrameHeader) : Type 0 where
  pub precision : h.precision ≡ s.precision
  pub height : h.height ≡ s.height
  pub width : h.width ≡ s.width
  pub ids : map (λ c. c.id) h.components ≡ s.ids
  pub sampling : AllByRecursion (λ c. c.sampling ≡ 0x11) h.components
  pub in_range : IsShape s

-- the scan header of these components, under a profile: no mapping table, lossless, not shifted. Ah is free (T.81 B.2, T.87 C.2)
pub record IsScanHeaderUnder (profile : Profile) (s : ScanSelection) (h : ScanHeader) : Type 0 where
  pub ids : map (λ c. c.id) h.components ≡ s.ids
  pub tables : AllByRecursion (λ c. c.table ≡ 0) h.components
  pub near : h.near ≡ 0
  pub interleave : h.interleave ≡ interleave_of s
  pub point_transform : h.approximation % 16 ≡ 0
  pub in_range : IsScanSelection s
  pub of_profile : IsOfProfile profile s

-- the ID of an LSE segment (T.81 B.2, T.87 C.2)
abbrev pub HasLseId : List ℕ → ℕ → Type 0
HasLseId payload id = (values : List ℕ) × (payload ≡ id ∷ values)

-- these bytes are a payload of the segment, under a profile: its layout, which fields have to have which values, and which are free (T.81
-- B.2, T.87 C.2)
abbrev pub IsPayloadUnder : Profile → ℕ → List ℕ → Segment → Type 0
IsPayloadUnder profile code payload (Frame s) = (code ≡ sof55) × ((h : FrameHeader) × HasFrameLayout payload h × IsFrameHeaderOf s h)
IsPayloadUnder profile code payload (Scan s) = (code ≡ sos) × ((h : ScanHeader) × HasScanLayout payload h × IsScanHeaderUnder profile s h)
IsPayloadUnder profile code payload (Preset maxval t1 t2 t3 reset) =
    (code ≡ lse) × ((values : List ℕ) × (payload ≡ 1 ∷ values)
    × HasPresetLayout values (record { maxval = maxval; t1 = t1; t2 = t2; t3 = t3; reset = reset }))
IsPayloadUnder profile code payload (Restart n) = (code ≡ dri) × HasRestartLayout payload n
IsPayloadUnder profile code payload (Skipped c) =
    (c ≡ code) × ((is_skipped code ≡ true) ⊎ ((code ≡ lse) × (HasLseId payload 2 ⊎ HasLseId payload 3)))

-- the same under the strict profile (T.81 B.2, T.87 C.2)
abbrev pub IsPayload : ℕ → List ℕ → Segment → Type 0
IsPayload code payload s = IsPayloadUnder profiles.Strict code payload s
