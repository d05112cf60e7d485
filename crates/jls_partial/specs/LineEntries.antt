-- What a store keeps of its lines, place by place, and how one line changes that.
use Rattle.std.specs.BTreeMap.{is_at}
use Rattle.std.specs.Map.{lookup}
use Rattle.std.specs.Prelude.{◌≡◌, ℕ, ◌<◌, ◌^◌, Some, List, [], ◌∷◌, length, unwrap_or, slice_get, if◌then◌else◌}
use Rattle.jls_values.specs.OrderedSet as set
use Rattle.jls_partial.specs.declared.line_place.LinePlace.{LinePlace}
use Rattle.jls_partial.specs.LinePlace.{place_cmp}
use Rattle.jls_partial.specs.LineSet.{PictureLines, AreLineMarksHeld, with_lines}

-- what is kept of one line
abbrev pub LineEntry : Type 0
LineEntry = LinePlace × PictureLines

-- one line with its sources was put in; there are few enough lines to be counted, and each source is of one of them
pub record PutsLine (old : PictureLines) (samples sources : List ℕ) (new : PictureLines) : Type 0 where
  pub new_is : new ≡ with_lines old ((samples, sources) ∷ [])
  pub countable : length (set.items new.lines) < 2 ^ 64
  pub marks_held : AreLineMarksHeld new

-- the line that has i others below it got a source
pub record MarksLine (old : PictureLines) (i source : ℕ) (new : PictureLines) : Type 0 where
  pub puts : (samples : List ℕ) → slice_get (set.items old.lines) i ≡ Some samples → PutsLine old samples (source ∷ []) new

-- the lines at a place, or where there are none these
abbrev pub lines_or : PictureLines → List LineEntry → LinePlace → PictureLines
lines_or none entries at = unwrap_or (lookup (is_at (place_cmp at)) entries) none

-- at one place these lines are kept now, and elsewhere nothing has changed
abbrev pub PutsAt : List LineEntry → LinePlace → PictureLines → List LineEntry → Type 0
PutsAt old at lines new = (q : LinePlace) → lookup (is_at (place_cmp q)) new
    ≡ (if is_at (place_cmp at) q then Some lines else lookup (is_at (place_cmp q)) old)
