-- Sets of lines: what several copies of a picture say of one line, or of lines of one kind, and under which numbers.
use Rattle.std.specs.Prelude.{ℕ, Bool, ◌&&◌, ◌==◌, List, map, refl}
use Rattle.std.specs.Cmp.Lexicographic.{slice_cmp}
use Rattle.std.specs.Coded.{Coded, code_by, coded×, coded_ℕ, coded_list}
use Rattle.std.specs.Ordering.{nat_cmp}
use Rattle.std.specs.Prelude.{◌≡◌, true}
use Rattle.jls_values.specs.OrderedSet as set
use Rattle.jls_partial.specs.Marks.{mark_cmp, marks_of, sources_of}

-- a precision and width, a set of lines, each as the list of its samples, and the source numbers of these lines. A mark is a line with one
-- such number
pub record PictureLines : Type 0 where
  pub precision : ℕ
  pub width : ℕ
  pub lines : set.OrderedSet (slice_cmp nat_cmp)
  pub marks : set.OrderedSet (mark_cmp (slice_cmp nat_cmp))

-- the checker's logic stores a set of lines as its four parts
abbrev pub coded_lines : Coded PictureLines
coded_lines = code_by (ℕ × (ℕ × (set.OrderedSet (slice_cmp nat_cmp) × set.OrderedSet (mark_cmp (slice_cmp nat_cmp)))))
    (coded× coded_ℕ (coded× coded_ℕ (coded× (set.code (coded_list coded_ℕ)) (set.code (coded× (coded_list coded_ℕ) coded_ℕ)))))
    (λ s. (s.precision, (s.width, (s.lines, s.marks)))) (λ p. record { precision = p.0; width = p.1.0; lines = p.1.1.0; marks = p.1.1.1 })
    (λ _. refl)

-- no line
abbrev pub no_lines : ℕ → ℕ → PictureLines
no_lines precision width = record { precision = precision; width = width; lines = set.empty; marks = set.empty }

-- the source numbers of a line, in ascending order
abbrev pub line_sources : PictureLines → List ℕ → List ℕ
line_sources s samples = sources_of (slice_cmp nat_cmp) s.marks samples

-- with one line more, which has no source unless it had one
abbrev pub with_line : PictureLines → List ℕ → PictureLines
with_line s samples = record { precision = s.precision; width = s.width; lines = set.insert s.lines samples; marks = s.marks }

-- with all of these lines and their source numbers
abbrev pub with_lines : PictureLines → List (List ℕ × List ℕ) → PictureLines
with_lines s ks = record {
  precision = s.precision;
  width = s.width;
  lines = set.insert_all s.lines (map (λ k. k.0) ks);
  marks = set.insert_all s.marks (marks_of ks);
}

-- all lines in ascending order, each with its sources
abbrev pub kept_lines : PictureLines → List (List ℕ × List ℕ)
kept_lines s = map (λ samples. (samples, line_sources s samples)) (set.items s.lines)

-- each mark is of a line that is held
abbrev pub AreLineMarksHeld : PictureLines → Type 0
AreLineMarksHeld s = (samples : List ℕ) (source : ℕ) → set.contains s.marks (samples, source) ≡ true → set.contains s.lines samples ≡ true

-- what either of two of one precision and width holds
abbrev pub union_of_lines : PictureLines → PictureLines → PictureLines
union_of_lines s t = record {
  precision = s.precision;
  width = s.width;
  lines = set.union s.lines t.lines;
  marks = set.union s.marks t.marks;
}

-- whether both have one precision and one width, and so can be joined
abbrev pub has_same_line_shape : PictureLines → PictureLines → Bool
has_same_line_shape s t = s.precision == t.precision && s.width == t.width
