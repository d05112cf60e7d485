-- Readings that get a source one after the other.
use Rattle.std.proofs.Common.{◌≡◌, ℕ, zero, suc, ◌+◌, ◌<◌, Bool, true, false, ◌&&◌, ◌||◌, List, [], ◌∷◌, ◌++◌, length, take, drop, map}
use Rattle.std.proofs.Common.{Option, Some, arith, refl, ap, sym, subst, ◌∙◌}
use Rattle.std.specs.Prelude.{IfSome, slice_get}
use Rattle.std.specs.List.{list_any, AllByRecursion}
use Rattle.std.specs.Ordering.{nat_cmp, eq_by_cmp, is_eq}
use Rattle.std.specs.Cmp.{both_ways}
use Rattle.std.proofs.lemmas.Bool.{or_left, or_right}
use Rattle.std.proofs.lemmas.Cmp.{tied_itself}
use Rattle.std.proofs.lemmas.List.{map-append, take-append-drop}
use Rattle.std.proofs.lemmas.List.Folds.{list_any-append}
use Rattle.jls_values.specs.OrderedSet as set
use Rattle.jls_values.specs.OrderedSetLaws.{same_set, contains-items, contains-insert_all, insert_all-append}
use Rattle.jls_values.proofs.Lists.{all_append}
use Rattle.jls_partial.specs.Marks.{mark_cmp}
use Rattle.jls_partial.specs.MarkLaws.{eq_mark}
use Rattle.jls_partial.specs.Marking.{MarksSome, readings_of_lines, readings_of_components}
use Rattle.jls_partial.specs.Partial.{PartialPicture, readings_at, with_all, with_marks, with_source}
use Rattle.jls_partial.specs.Reading.{Reading, reading_of, reading_cmp}
use Rattle.jls_partial.specs.ReadingOrder.{reading_total, marks_total, marks_exact, same_reading}
use Rattle.jls_partial.proofs.Entries.{held_same}
use Rattle.jls_partial.proofs.Unions.{held_in_line, held_from_lines, held_from_components, components_hold}

-- what is held is of the first n components, and of lines of the shape
abbrev pub IsInside : PartialPicture → ℕ → Type 0
IsInside q n = (r : Reading) → set.contains q.readings r ≡ true → (r.component < n) × (r.line < q.shape.height)

-- two lists, one after the other
pub with_marks-append : (p : PartialPicture) (s : ℕ) (xs ys : List Reading)
    → with_marks p s (xs ++ ys) ≡ with_marks (with_marks p s xs) s ys
with_marks-append p s xs ys =
    ap (λ ms. record { shape = p.shape; readings = p.readings; marks = ms })
    (ap (set.insert_all p.marks) (map-append (λ (r : Reading). (r, s)) xs ys)
    ∙ insert_all-append p.marks (map (λ (r : Reading). (r, s)) xs) (map (λ (r : Reading). (r, s)) ys))

-- to take a reading that is held with a source is to mark it
pub taken_is_marked : (p : PartialPicture) (r : Reading) (s : ℕ) → set.contains p.readings r ≡ true
    → with_all p ((r, s ∷ []) ∷ []) ≡ with_marks p s (r ∷ [])
taken_is_marked p r s h = ap (λ rs. record { shape = p.shape; readings = rs; marks = set.insert p.marks (r, s) }) (held_same p.readings r h)

-- nothing is marked yet
pub marks_none : (p : PartialPicture) (s : ℕ) → MarksSome p s p
marks_none p s = record { marked = []; held = tt; new_is = refl }

-- some more are marked
pub marks_then : (p q r : PartialPicture) (s : ℕ) (xs : List Reading) → q ≡ with_marks p s xs
    → AllByRecursion (λ r. set.contains p.readings r ≡ true) xs → MarksSome q s r → MarksSome p s r
marks_then p q r s xs is held m = record {
  marked = xs ++ m.marked;
  held = all_append (λ r. set.contains p.readings r ≡ true) xs m.marked held
      (subst (λ (z : PartialPicture). AllByRecursion (λ r. set.contains z.readings r ≡ true) m.marked) is m.held);
  new_is = m.new_is ∙ ap (λ (z : PartialPicture). with_marks z s m.marked) is ∙ sym (with_marks-append p s xs m.marked);
}

-- what stands in a list of which all are held
all_of : (P : Reading → Type 0) (xs : List Reading) → ((r : Reading) → list_any (eq_by_cmp reading_cmp r) xs ≡ true → P r)
    → AllByRecursion P xs
all_of P [] f = tt
all_of P (x ∷ xs) f = (
  f x (or_left _ _ (ap is_eq (tied_itself reading_total x))),
  all_of P xs (λ r h. f r (or_right (eq_by_cmp reading_cmp r x) _ h)),
)

pub lines_held : (p : PartialPicture) (c n : ℕ) → AllByRecursion (λ r. set.contains p.readings r ≡ true) (readings_of_lines p c n)
lines_held p c n = all_of (λ r. set.contains p.readings r ≡ true) (readings_of_lines p c n) (λ r h. held_from_lines p r c n h)

pub components_held : (p : PartialPicture) (n : ℕ) → AllByRecursion (λ r. set.contains p.readings r ≡ true) (readings_of_components p n)
components_held p n = all_of (λ r. set.contains p.readings r ≡ true) (readings_of_components p n) (λ r h. held_from_components p r n h)

-- the marks with one source of readings
any_source : (r : Reading) (t s : ℕ) (rs : List Reading)
    → list_any (eq_by_cmp (mark_cmp reading_cmp) (r, t)) (map (λ r. (r, s)) rs)
    ≡ (list_any (eq_by_cmp reading_cmp r) rs && eq_by_cmp nat_cmp t s)
any_source r t s [] = refl
any_source r t s (x ∷ rs) = (λ i. eq_mark reading_cmp r x t s i || any_source r t s rs i)
    ∙ spread (eq_by_cmp reading_cmp r x) (list_any (eq_by_cmp reading_cmp r) rs) (eq_by_cmp nat_cmp t s)
  where
    spread : (a b c : Bool) → ((a && c) || (b && c)) ≡ ((a || b) && c)
    spread true true true = refl
    spread true true false = refl
    spread true false true = refl
    spread true false false = refl
    spread false b c = refl

-- lists with the same readings mark the same
same_marks : (p : PartialPicture) (s : ℕ) (xs ys : List Reading)
    → ((r : Reading) → list_any (eq_by_cmp reading_cmp r) xs ≡ list_any (eq_by_cmp reading_cmp r) ys)
    → with_marks p s xs ≡ with_marks p s ys
same_marks p s xs ys same =
    ap (λ ms. record { shape = p.shape; readings = p.readings; marks = ms }) (same_set marks_total marks_exact _ _ (λ m.
    contains-insert_all marks_total p.marks (map (λ r. (r, s)) xs) m
    ∙ ap (λ b. set.contains p.marks m || b)
    (any_source m.0 m.1 s xs ∙ ap (λ b. b && eq_by_cmp nat_cmp m.1 s) (same m.0) ∙ sym (any_source m.0 m.1 s ys))
    ∙ sym (contains-insert_all marks_total p.marks (map (λ r. (r, s)) ys) m)))

-- all readings line by line
pub marked_by_lines : (p : PartialPicture) (s n : ℕ) → IsInside p n → with_marks p s (readings_of_components p n) ≡ with_source p s
marked_by_lines p s n inside = same_marks p s (readings_of_components p n) (set.items p.readings) (λ r.
    both_ways _ _ (held_from_components p r n) (λ h. components_hold p r n h (inside r h).0 (inside r h).1) ∙ contains-items p.readings r)

-- what was marked before changes nothing in the end
pub completed : (p q : PartialPicture) (s : ℕ) → MarksSome p s q → with_source q s ≡ with_source p s
completed p q s m =
    ap (λ (z : PartialPicture). with_source z s) m.new_is
    ∙ sym (with_marks-append p s m.marked (set.items p.readings))
    ∙ same_marks p s (m.marked ++ set.items p.readings) (set.items p.readings) (λ r. absorbed r m.marked m.held)
  where
    absorb : (a b c : Bool) → (a ≡ true → c ≡ true) → b ≡ c → (a || b) ≡ c
    absorb true b c f e = sym (f refl)
    absorb false b c f e = e

    absorbed : (r : Reading) (xs : List Reading) → AllByRecursion (λ r. set.contains p.readings r ≡ true) xs
        → list_any (eq_by_cmp reading_cmp r) (xs ++ set.items p.readings) ≡ list_any (eq_by_cmp reading_cmp r) (set.items p.readings)
    absorbed r [] h = refl
    absorbed r (x ∷ xs) h =
        absorb (eq_by_cmp reading_cmp r x) _ _
        (λ e. sym (contains-items p.readings r) ∙ ap (set.contains p.readings) (same_reading r x e) ∙ h.0) (absorbed r xs h.1)

-- ---- one reading more of a line

-- a list of readings has one at each place
some_at : (xs : List (List ℕ)) (i : ℕ) → i < length xs → (x : List ℕ) × (slice_get xs i ≡ Some x) × (take (i + 1) xs ≡ take i xs ++ x ∷ [])
some_at [] i lt = absurd (omega arith)
some_at (y ∷ xs) zero lt = (y, refl, refl)
some_at (y ∷ xs) (suc i) lt = let rest = some_at xs i (omega arith) in let e : suc i + 1 ≡ suc (i + 1) = omega arith in
    (rest.0, rest.1, ap (λ (n : ℕ). take n (y ∷ xs)) e ∙ ap (λ (t : List (List ℕ)). y ∷ t) rest.2)

-- what is got from the readings of a line is held
pub got_held : (p : PartialPicture) (c l i : ℕ) (x : List ℕ) → slice_get (readings_at p c l) i ≡ Some x
    → set.contains p.readings (reading_of c l x) ≡ true
got_held p c l i x e = held_in_line p (reading_of c l x) c l (got (readings_at p c l) i e)
  where
    got : (xs : List (List ℕ)) (i : ℕ) → slice_get xs i ≡ Some x
        → list_any (eq_by_cmp reading_cmp (reading_of c l x)) (map (reading_of c l) xs) ≡ true
    got [] i e = absurd cc
    got (y ∷ xs) zero e = let same : y ≡ x = cc in
        or_left _ _ (ap (λ (z : List ℕ). eq_by_cmp reading_cmp (reading_of c l x) (reading_of c l z)) same
        ∙ ap is_eq (tied_itself reading_total (reading_of c l x)))
    got (y ∷ xs) (suc i) e = or_right (eq_by_cmp reading_cmp (reading_of c l x) (reading_of c l y)) _ (got xs i e)

-- after one reading more of a line has got the source, the first i + 1 readings have it
pub marked_more : (old now new : PartialPicture) (s c l i : ℕ)
    → now ≡ with_marks old s (map (reading_of c l) (take i (readings_at old c l))) → i < length (readings_at old c l)
    → IfSome (slice_get (readings_at now c l) i) (λ x. new ≡ with_marks now s (reading_of c l x ∷ [])) → new
    ≡ with_marks old s (map (reading_of c l) (take (i + 1) (readings_at old c l)))
marked_more old now new s c l i is lt more =
    let f = reading_of c l in
    let xs = readings_at old c l in
    let at = some_at xs i lt in
    let stays : readings_at now c l ≡ xs = ap (λ (z : PartialPicture). readings_at z c l) is in
    let one : new ≡ with_marks now s (f at.0 ∷ []) =
    subst (λ (o : Option (List ℕ)). IfSome o (λ x. new ≡ with_marks now s (f x ∷ [])))
    (ap (λ (ys : List (List ℕ)). slice_get ys i) stays ∙ at.1) more in
    one ∙ ap (λ (z : PartialPicture). with_marks z s (f at.0 ∷ [])) is ∙ sym (with_marks-append old s (map f (take i xs)) (f at.0 ∷ []))
    ∙ ap (with_marks old s) (sym (ap (map f) at.2 ∙ map-append f (take i xs) (at.0 ∷ [])))

-- the first readings of a line are held
pub prefix_held : (p : PartialPicture) (c l i : ℕ)
    → AllByRecursion (λ r. set.contains p.readings r ≡ true) (map (reading_of c l) (take i (readings_at p c l)))
prefix_held p c l i = all_of (λ r. set.contains p.readings r ≡ true) (map (reading_of c l) (take i (readings_at p c l))) (λ r h.
    held_in_line p r c l (ap (list_any (eq_by_cmp reading_cmp r))
    (ap (map (reading_of c l)) (sym (take-append-drop i (readings_at p c l)))
    ∙ map-append (reading_of c l) (take i (readings_at p c l)) (drop i (readings_at p c l)))
    ∙ list_any-append (eq_by_cmp reading_cmp r) (map (reading_of c l) (take i (readings_at p c l)))
    (map (reading_of c l) (drop i (readings_at p c l))) ∙ or_left _ _ h))
