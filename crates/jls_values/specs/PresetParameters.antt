-- Preset parameters (T.87, C.2.4.1.1).
use Rattle.std.specs.Prelude.{ℕ, ◌<◌, ◌^◌}

-- the five values of an LSE segment of ID 1 as they stand there: 0 asks for the default (T.87 C.2.4.1.1)
pub record PresetParameters : Type 0 where
  pub maxval : ℕ
  pub t1 : ℕ
  pub t2 : ℕ
  pub t3 : ℕ
  pub reset : ℕ

-- each has two bytes (T.87 C.2.4.1.1)
pub record ArePresetParameters (p : PresetParameters) : Type 0 where
  pub maxval_below : p.maxval < 2 ^ 16
  pub t1_below : p.t1 < 2 ^ 16
  pub t2_below : p.t2 < 2 ^ 16
  pub t3_below : p.t3 < 2 ^ 16
  pub reset_below : p.reset < 2 ^ 16

-- all defaults (T.87 C.2.4.1.1)
abbrev pub no_presets : PresetParameters
no_presets = record { maxval = 0; t1 = 0; t2 = 0; t3 = 0; reset = 0 }
