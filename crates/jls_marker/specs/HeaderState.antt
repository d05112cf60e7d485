-- What the headers so far have set.
use Rattle.std.specs.Prelude.{◌≡◌, ℕ, ◌≤◌, ◌<◌, ◌^◌, Option, Some, None}
use Rattle.jls_values.specs.Shape.{PictureShape, IsShape}
use Rattle.jls_values.specs.PresetParameters.{PresetParameters, ArePresetParameters, no_presets}
use Rattle.jls_marker.specs.declared.profile.Profile.{Profile}
use Rattle.jls_marker.specs.declared.profile.Profile.TheVariants.{Strict}

-- which scans are read; the frame, the values of the last LSE of ID 1, those of the last DRI, and how many scans began (T.81 B.2)
pub record HeaderState : Type 0 where
  pub profile : Profile
  pub frame : Option PictureShape
  pub preset : PresetParameters
  pub restart_interval : ℕ
  pub scans : ℕ

-- before the first segment, under a profile (T.81 B.2)
abbrev pub no_headers_under : Profile → HeaderState
no_headers_under profile = record { profile = profile; frame = None; preset = no_presets; restart_interval = 0; scans = 0 }

-- the same under the strict profile (T.81 B.2)
abbrev pub no_headers : HeaderState
no_headers = no_headers_under Strict

-- the ranges that headers keep (T.81 B.2)
pub record IsHeaderState (h : HeaderState) : Type 0 where
  pub frame : (f : PictureShape) → h.frame ≡ Some f → IsShape f
  pub preset : ArePresetParameters h.preset
  pub restart_below : h.restart_interval < 2 ^ 32
  pub scans_at_most : h.scans ≤ 16
