-- Places: where a line stands in a picture.
use Rattle.std.specs.Prelude.{ℕ}
use Rattle.std.specs.declared.cmp.Ordering.{Ordering}
use Rattle.std.specs.Ordering.{nat_cmp, ordering_then}
use Rattle.jls_partial.specs.declared.line_place.LinePlace.{LinePlace}
use Rattle.jls_partial.specs.Reading.{Reading}

-- the place of a line of a component
abbrev pub place : ℕ → ℕ → LinePlace
place component line = record { component = component; line = line }

-- places, which are a component and a line, in order: by component, then line
abbrev pub place_cmp : LinePlace → LinePlace → Ordering
place_cmp a b = ordering_then (nat_cmp a.component b.component) (nat_cmp a.line b.line)

-- the component and line of a reading
abbrev pub place_of : Reading → LinePlace
place_of r = place r.component r.line
