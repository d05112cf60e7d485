-- A reading: what some copy of a picture says of one line.
use Rattle.std.specs.Prelude.{ℕ, List, refl}
use Rattle.std.specs.Coded.{Coded, code_by, coded×, coded_ℕ, coded_list}
use Rattle.std.specs.declared.cmp.Ordering.{Ordering}
use Rattle.std.specs.Ordering.{nat_cmp, ordering_then}
use Rattle.std.specs.Cmp.Lexicographic.{slice_cmp}

-- what a copy says of one line of a picture: the index of the component in the frame, the line in it, and the samples from left to right
pub record Reading : Type 0 where
  pub component : ℕ
  pub line : ℕ
  pub samples : List ℕ

-- the reading of these parts
abbrev pub reading_of : ℕ → ℕ → List ℕ → Reading
reading_of component line samples = record { component = component; line = line; samples = samples }

-- readings in order: by component, line, then the samples from the first on
abbrev pub reading_cmp : Reading → Reading → Ordering
reading_cmp a b = ordering_then (nat_cmp a.component b.component)
    (ordering_then (nat_cmp a.line b.line) (slice_cmp nat_cmp a.samples b.samples))

-- the checker's logic stores a reading as its parts
abbrev pub coded_reading : Coded Reading
coded_reading = code_by (ℕ × (ℕ × List ℕ)) (coded× coded_ℕ (coded× coded_ℕ (coded_list coded_ℕ)))
    (λ r. (r.component, (r.line, r.samples))) (λ p. reading_of p.0 p.1.0 p.1.1) (λ _. refl)
