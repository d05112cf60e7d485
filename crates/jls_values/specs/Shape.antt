-- The shape of a picture, as a frame header gives it (T.87 C.2.2). That there are at most four components is this project's choice.
use Rattle.std.specs.Prelude.{◌≡◌, ℕ, ◌≤◌, ◌<◌, ◌^◌, Bool, false, ◌||◌, ◌==◌, List, [], ◌∷◌, length}
use Rattle.std.specs.List.{list_any, AllByRecursion}

-- the shape of a picture: bits per sample, samples per line, lines of each component, and the identifiers in the order of the frame (T.87
-- C.2.2)
pub record PictureShape : Type 0 where
  pub precision : ℕ
  pub width : ℕ
  pub height : ℕ
  pub ids : List ℕ

-- whether an identifier occurs twice in the list
abbrev pub has_repeat : List ℕ → Bool
has_repeat [] = false
has_repeat (id ∷ ids) = list_any (λ other. other == id) ids || has_repeat ids

-- the ranges of this project: 2 to 16 bits, 1 to 65,535 samples and lines. It has 1 to 4 components, whose identifiers are bytes and differ
-- (T.87 C.2.2)
pub record IsShape (s : PictureShape) : Type 0 where
  pub precision_at_least : 2 ≤ s.precision
  pub precision_at_most : s.precision ≤ 16
  pub width_at_least : 1 ≤ s.width
  pub width_below : s.width < 2 ^ 16
  pub height_at_least : 1 ≤ s.height
  pub height_below : s.height < 2 ^ 16
  pub ids_at_least : 1 ≤ length s.ids
  pub ids_at_most : length s.ids ≤ 4
  pub ids_are_bytes : AllByRecursion (λ id. id < 256) s.ids
  pub ids_differ : has_repeat s.ids ≡ false
