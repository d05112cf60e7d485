-- All readings, line by line, are the readings that are held.
use Rattle.std.proofs.Common.{◌≡◌, inl, inr, ℕ, zero, suc, ◌<◌, Bool, true, false, cond, ◌&&◌, ◌||◌, List, [], ◌∷◌, map, length, Option}
use Rattle.std.proofs.Common.{Some, None, refl, ap, sym, subst, ◌∙◌, arith, leb}
use Rattle.std.specs.Prelude.{filter, ◌==◌}
use Rattle.std.specs.Ordering.{eq_by_cmp, is_eq}
use Rattle.std.specs.List.{list_any}
use Rattle.std.specs.BTreeMap.{is_at}
use Rattle.std.proofs.lemmas.Bool.{leb-false, cases_lt, and_parts, or_left, or_right}
use Rattle.std.proofs.lemmas.Cmp.{tied_itself}
use Rattle.std.proofs.lemmas.List.Folds.{list_any-append}
use Rattle.jls_values.specs.Shape.{PictureShape}
use Rattle.jls_partial.specs.declared.insert_fault.InsertFault.{InsertFault}
use Rattle.jls_partial.specs.declared.insert_fault.InsertFault.TheVariants.{Component, Line}
use Rattle.jls_partial.specs.Entries.{at_place}
use Rattle.jls_partial.specs.InsertFaults.{reading_fault}
use Rattle.jls_partial.specs.Marking.{line_readings, readings_of_lines, readings_of_components}
use Rattle.jls_partial.specs.Partial.{PartialPicture}
use Rattle.jls_partial.specs.LinePlace.{place_cmp, place_of, place}
use Rattle.jls_partial.specs.Reading.{Reading, reading_cmp, reading_of}
use Rattle.jls_partial.specs.ReadingOrder.{place_total, same_place, same_reading}
use Rattle.jls_partial.proofs.ReadBack.{is_there, eq_there}
use Rattle.jls_values.specs.OrderedSet.{contains, items}
use Rattle.jls_values.specs.OrderedSetLaws.{contains-items}
use Rattle.jls_values.proofs.Tests.{either}

-- tests of which one implies the other, or excludes it
absorb : (a b d : Bool) → (a ≡ true → b ≡ true) → (a || (b && d)) ≡ (b && (a || d))
absorb true b d f = rw (f refl) refl
absorb false b d f = refl

apart : (a b d : Bool) → (a ≡ true → b ≡ false) → (b && d) ≡ (b && (a || d))
apart true b d f = rw (f refl) refl
apart false b d f = refl

-- the readings of a line are those at its place
any_line : (r : Reading) (c l : ℕ) (rs : List Reading)
    → list_any (eq_by_cmp reading_cmp r) (map (reading_of c l) (map (λ r. r.samples) (filter (is_there c l) rs)))
    ≡ (is_at (place_cmp (place c l)) (place_of r) && list_any (eq_by_cmp reading_cmp r) rs)
any_line r c l [] = none (is_at (place_cmp (place c l)) (place_of r))
  where
    none : (b : Bool) → false ≡ (b && false)
    none true = refl
    none false = refl
any_line r c l (k ∷ rs) =
    let test = eq_by_cmp reading_cmp r in
    elim (k.component == c && k.line == l) as (λ t. (k.component == c && k.line == l) ≡ t →
    list_any test (map (reading_of c l) (map (λ r. r.samples) (cond t (k ∷ filter (is_there c l) rs) (filter (is_there c l) rs))))
    ≡ (is_at (place_cmp (place c l)) (place_of r) && (test k || list_any test rs))) [
      | true ↦ λ e.
          let there : is_at (place_cmp (place c l)) (place_of k) ≡ true = sym (eq_there c l (place_of k)) ∙ e in
          let same : reading_of c l k.samples ≡ k = ap (λ p. at_place p k.samples) (same_place (place c l) (place_of k) there) in
          (λ i. test (same i) || any_line r c l rs i)
          ∙ absorb (test k) (is_at (place_cmp (place c l)) (place_of r)) (list_any test rs)
          (λ t. ap (λ (z : Reading). is_at (place_cmp (place c l)) (place_of z)) (same_reading r k t) ∙ there)
      | false ↦ λ e.
          let not_there : is_at (place_cmp (place c l)) (place_of k) ≡ false = sym (eq_there c l (place_of k)) ∙ e in
          any_line r c l rs
          ∙ apart (test k) (is_at (place_cmp (place c l)) (place_of r)) (list_any test rs)
          (λ t. ap (λ (z : Reading). is_at (place_cmp (place c l)) (place_of z)) (same_reading r k t) ∙ not_there)
    ] refl

pub in_line : (p : PartialPicture) (r : Reading) (c l : ℕ)
    → list_any (eq_by_cmp reading_cmp r) (line_readings p c l) ≡ (is_at (place_cmp (place c l)) (place_of r) && contains p.readings r)
in_line p r c l = any_line r c l (items p.readings)
    ∙ ap (λ b. is_at (place_cmp (place c l)) (place_of r) && b) (sym (contains-items p.readings r))

-- what stands in a line is held
pub held_in_line : (p : PartialPicture) (r : Reading) (c l : ℕ) → list_any (eq_by_cmp reading_cmp r) (line_readings p c l) ≡ true
    → contains p.readings r ≡ true
held_in_line p r c l e = (and_parts (is_at (place_cmp (place c l)) (place_of r)) (contains p.readings r) (sym (in_line p r c l) ∙ e)).1

-- what stands in the first lines, or the first components, is held
pub held_from_lines : (p : PartialPicture) (r : Reading) (c n : ℕ) → list_any (eq_by_cmp reading_cmp r) (readings_of_lines p c n) ≡ true
    → contains p.readings r ≡ true
held_from_lines p r c zero e = absurd cc
held_from_lines p r c (suc n) e =
    either _ _ _ (held_from_lines p r c n) (held_in_line p r c n)
    (sym (list_any-append (eq_by_cmp reading_cmp r) (readings_of_lines p c n) (line_readings p c n)) ∙ e)

-- a reading of the first components is held
pub held_from_components : (p : PartialPicture) (r : Reading) (n : ℕ)
    → list_any (eq_by_cmp reading_cmp r) (readings_of_components p n) ≡ true → contains p.readings r ≡ true
held_from_components p r zero e = absurd cc
held_from_components p r (suc n) e =
    either _ _ _ (held_from_components p r n) (held_from_lines p r n p.shape.height)
    (sym (list_any-append (eq_by_cmp reading_cmp r) (readings_of_components p n) (readings_of_lines p n p.shape.height)) ∙ e)

-- what is held stands in its line
pub in_its_line : (p : PartialPicture) (r : Reading) → contains p.readings r ≡ true
    → list_any (eq_by_cmp reading_cmp r) (line_readings p r.component r.line) ≡ true
in_its_line p r h = in_line p r r.component r.line ∙ rw (ap is_eq (tied_itself place_total (place_of r)), h) refl

-- what is held stands in the first n lines of its component, if its line is one of these
lines_hold : (p : PartialPicture) (r : Reading) (n : ℕ) → contains p.readings r ≡ true → r.line < n
    → list_any (eq_by_cmp reading_cmp r) (readings_of_lines p r.component n) ≡ true
lines_hold p r zero h lt = absurd (omega arith)
lines_hold p r (suc n) h lt =
    let test = eq_by_cmp reading_cmp r in
    list_any-append test (readings_of_lines p r.component n) (line_readings p r.component n) ∙
    elim (cases_lt r.line n) [
      | inl lt' ↦ or_left _ _ (lines_hold p r n h lt')
      | inr le ↦ or_right (list_any test (readings_of_lines p r.component n)) _
          (subst (λ (l : ℕ). list_any test (line_readings p r.component l) ≡ true) (omega arith) (in_its_line p r h))
    ]

-- a reading that is held is one of those of the first n components, if its component is one of these
pub components_hold : (p : PartialPicture) (r : Reading) (n : ℕ) → contains p.readings r ≡ true → r.component < n → r.line < p.shape.height
    → list_any (eq_by_cmp reading_cmp r) (readings_of_components p n) ≡ true
components_hold p r zero h lt line = absurd (omega arith)
components_hold p r (suc n) h lt line =
    let test = eq_by_cmp reading_cmp r in
    list_any-append test (readings_of_components p n) (readings_of_lines p n p.shape.height) ∙
    elim (cases_lt r.component n) [
      | inl lt' ↦ or_left _ _ (components_hold p r n h lt' line)
      | inr le ↦ or_right (list_any test (readings_of_components p n)) _
          (subst (λ (c : ℕ). list_any test (readings_of_lines p c p.shape.height) ≡ true) (omega arith)
          (lines_hold p r p.shape.height h line))
    ]

no_first_fault : (b : Bool) (f : InsertFault) (rest : Option InsertFault) → cond b (Some f) rest ≡ None → (b ≡ false) × (rest ≡ None)
no_first_fault true f rest e = absurd cc
no_first_fault false f rest e = (refl, e)

-- a reading without fault is in a component and a line that exist
pub place_exists : (shape : PictureShape) (c l : ℕ) (x : List ℕ) → reading_fault shape c l x ≡ None
    → (c < length shape.ids) × (l < shape.height)
place_exists shape c l x e =
    let p = no_first_fault (leb (length shape.ids) c) Component _ e in
    let q = no_first_fault (leb shape.height l) Line _ p.1 in
    (leb-false (length shape.ids) c p.0, leb-false shape.height l q.0)
