-- The lines of a store in pages: the lines of a component that have the same number divided by 64 share one.
use Rattle.std.specs.declared.alloc.Global.{Global}
use Rattle.std.specs.declared.cmp.Ordering.{Ordering}
use Rattle.std.specs.declared.vec.Vec.{Vec}
use Rattle.std.specs.List.{AllByRecursion}
use Rattle.std.specs.List.Sorted.{IsStrictlySortedBy}
use Rattle.std.specs.Ordering.{nat_cmp, ordering_then}
use Rattle.std.specs.Prelude.{◌≡◌, ◌/◌, ◌<◌, List, [], ◌∷◌, ◌++◌, length, map}
use Rattle.jls_partial.specs.declared.slots.Slots.{Slots}
use Rattle.jls_partial.specs.declared.packed_lines.PackedLines.{PackedLines}
use Rattle.jls_partial.specs.declared.line_place.LinePlace.{LinePlace}
use Rattle.jls_partial.specs.declared.line_place.PageNumber.{PageNumber}
use Rattle.jls_partial.specs.LinePlace.{place_cmp}
use Rattle.jls_partial.specs.Stored.{StoredLines, AreRowsOf, rows_seen}

-- the slots of a line, with its place
abbrev pub Row : Type 0
Row = LinePlace × Slots

-- the rows of each page
abbrev pub Pages : Type 0
Pages = List (PageNumber × Vec Row Global)

-- pages by component, then by number
abbrev pub page_cmp : PageNumber → PageNumber → Ordering
page_cmp a b = ordering_then (nat_cmp a.component b.component) (nat_cmp a.number b.number)

-- the page of a line
abbrev pub page_of : LinePlace → PageNumber
page_of at = record { component = at.component; number = at.line / 64 }

-- all rows, page by page
abbrev pub rows_of : Pages → List Row
rows_of [] = []
rows_of (p ∷ ps) = p.1.items ++ rows_of ps

-- a page has a row, its rows rise, and each is of a line of the page
pub record IsPage (page : PageNumber) (rows : List Row) : Type 0 where
  pub some : 0 < length rows
  pub sorted : IsStrictlySortedBy place_cmp (map (λ r. r.0) rows)
  pub own : AllByRecursion (λ r. page_of r.0 ≡ page) rows

-- a page, whose rows are of what is packed
pub record IsPageOf (packed : PackedLines) (number : PageNumber) (rows : List Row) : Type 0 where
  pub page : IsPage number rows
  pub rows_packed : AreRowsOf packed rows

-- the pages rise
pub record ArePages (ps : Pages) : Type 0 where
  pub sorted : IsStrictlySortedBy page_cmp (map (λ p. p.0) ps)
  pub each : AllByRecursion (λ p. IsPage p.0 p.1.items) ps

-- the pages, whose rows are of what is packed
pub record ArePagesOf (packed : PackedLines) (ps : Pages) : Type 0 where
  pub pages : ArePages ps
  pub rows_packed : AreRowsOf packed (rows_of ps)

-- what they keep of it
abbrev pub pages_seen : PackedLines → Pages → StoredLines
pages_seen packed ps = rows_seen packed (rows_of ps)

-- the same of rows and pages that are left
pub record AreRowsLeft (packed : PackedLines) (rows : List Row) (ps : Pages) : Type 0 where
  pub some : AllByRecursion (λ p. 0 < length p.1.items) ps
  pub rows_packed : AreRowsOf packed (rows ++ rows_of ps)
