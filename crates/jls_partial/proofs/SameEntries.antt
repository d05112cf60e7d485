-- Two lists gone through side by side, and two shapes that a test finds no different.
use Rattle.std.proofs.Common.{◌≡◌, Bool, true, false, not, ◌<◌, ◌+◌, List, [], ◌∷◌, ◌++◌, length, drop, map, Option, Some, None, ℕ, refl}
use Rattle.std.proofs.Common.{ap, sym, ◌∙◌, append_assoc}
use Rattle.std.specs.Prelude.{nat_eq, slice_get, is_some, IfSome, MatchOption, ◌&&◌, ◌==◌, ◌↔◌}
use Rattle.std.specs.Cmp.Lexicographic.{pointwise}
use Rattle.std.proofs.lemmas.List.{append_cancel_left}
use Rattle.std.proofs.lemmas.Bool.{and_parts, eqb-true}
use Rattle.jls_values.specs.OrderedSet.{items}
use Rattle.jls_values.specs.SameShape.{same_shape}
use Rattle.jls_values.specs.Shape.{PictureShape}
use Rattle.jls_partial.specs.LineSet.{PictureLines, kept_lines, line_sources}
use Rattle.jls_partial.specs.Packed.{Kept}
use Rattle.jls_partial.specs.declared.line_place.LinePlace.{LinePlace}
use Rattle.jls_partial.specs.PartialLaws.{eqb_itself, itself_list, one_shape}
use Rattle.jls_partial.proofs.Growth.{kept_next}
use Rattle.jls_partial.proofs.MarkSets.{named}

-- both begin with what was gone through
pub record GoAlong {X : Type 0} (one other it left : List X) : Type 0 where
  pub done : List X
  pub one_is : one ≡ done ++ it
  pub other_is : other ≡ done ++ left

-- where two lists begin with the same item, going along them goes on with their rests
pub one_done : {X : Type 0} (one other it left : List X) (x y : X) (xs ys : List X) → GoAlong one other it left → it ≡ x ∷ xs
    → left ≡ y ∷ ys → x ≡ y → GoAlong one other xs ys
one_done one other it left x y xs ys g p q same = record {
  done = g.done ++ x ∷ [];
  one_is = g.one_is ∙ ap (λ t. g.done ++ t) p ∙ sym (append_assoc g.done (x ∷ []) xs);
  other_is = g.other_is ∙ ap (λ t. g.done ++ t) (q ∙ ap (λ z. z ∷ ys) (sym same)) ∙ sym (append_assoc g.done (x ∷ []) ys);
}

-- the next items of lists that are one are one
pub same_next : {X : Type 0} (one other it left : List X) (x y : X) (xs ys : List X) → GoAlong one other it left → it ≡ x ∷ xs
    → left ≡ y ∷ ys → one ≡ other → x ≡ y
same_next {X} one other it left x y xs ys g p q same =
    ap first_of_all (append_cancel_left g.done (x ∷ xs) (y ∷ ys)
    (ap (λ t. g.done ++ t) (sym p) ∙ sym g.one_is ∙ same ∙ g.other_is ∙ ap (λ t. g.done ++ t) q))
  where
    first_of_all : List X → X
    first_of_all [] = x
    first_of_all (z ∷ zs) = z

-- where the first ends and the second does not, they are not one
pub ends_apart : {X : Type 0} (one other it left : List X) (x : X) (xs : List X) → GoAlong one other it left → it ≡ [] → left ≡ x ∷ xs
    → one ≡ other → ⊥
ends_apart one other it left x xs g p q same =
    let bad : [] ≡ x ∷ xs = append_cancel_left g.done [] (x ∷ xs)
    (ap (λ t. g.done ++ t) (sym p) ∙ sym g.one_is ∙ same ∙ g.other_is ∙ ap (λ t. g.done ++ t) q) in
    absurd cc

-- where both end, they are one
pub both_end : {X : Type 0} (one other it left : List X) → GoAlong one other it left → it ≡ [] → left ≡ [] → one ≡ other
both_end one other it left g p q = g.one_is ∙ ap (λ t. g.done ++ t) (p ∙ sym q) ∙ sym g.other_is

-- where the first ends, they are one exactly if nothing is left of the second
pub along_end : {A L X : Type 0} (shows : A → L) (f : L → X) (one other it : List X) (r : Option A) (left rest : List L) (ended : Bool)
    → is_some r ≡ not ended → MatchOption r ((left ≡ []) × (rest ≡ [])) (λ x. left ≡ shows x ∷ rest)
    → it ≡ [] → GoAlong one other it (map f left) → (ended ≡ true) ↔ (one ≡ other)
along_end shows f one other it None left rest ended n step none g =
    (λ _. both_end one other it (map f left) g none (ap (map f) step.0), λ _. true_from ended n)
  where
    true_from : (b : Bool) → false ≡ not b → b ≡ true
    true_from true e = refl
    true_from false e = absurd cc
along_end shows f one other it (Some x) left rest ended n step none g = (
  λ e. let bad : true ≡ false = n ∙ ap not e in absurd cc,
  λ same. absurd (ends_apart one other it (map f left) (f (shows x)) (map f rest) g none (ap (map f) step) same),
)

-- the first items of lists that are one
pub first_items : {X : Type 0} (x y : X) (xs ys : List X) → x ∷ xs ≡ y ∷ ys → x ≡ y
first_items {X} x y xs ys e = ap first_of_all e
  where
    first_of_all : List X → X
    first_of_all [] = x
    first_of_all (z ∷ zs) = z

-- places by a test
pub places_from_test : (a b : LinePlace) (test : Bool) → test ≡ (a.component == b.component && a.line == b.line) → test ≡ true → a ≡ b
places_from_test a b test is e =
    let p = and_parts (a.component == b.component) (a.line == b.line) (sym is ∙ e) in
    λ i. record { component = eqb-true a.component b.component p.0 i; line = eqb-true a.line b.line p.1 i }

-- two places that the test finds different are not one
pub places_apart : (a b : LinePlace) (test : Bool) → test ≡ (a.component == b.component && a.line == b.line) → test ≡ false → a ≡ b → ⊥
places_apart a b test is e same =
    let itself : (b.component == b.component && b.line == b.line) ≡ true = rw (eqb_itself b.component, eqb_itself b.line) refl in
    let bad : true ≡ false = sym itself ∙ ap (λ (z : LinePlace). z.component == b.component && z.line == b.line) (sym same) ∙ sym is ∙ e in
    absurd cc

-- lists that the test tells apart are not one
pub apart_lists : (xs ys : List ℕ) → pointwise nat_eq xs ys ≡ false → xs ≡ ys → ⊥
apart_lists xs ys e same =
    let bad : true ≡ false = sym (itself_list ys) ∙ ap (λ (zs : List ℕ). pointwise nat_eq zs ys) (sym same) ∙ e in
    absurd cc

-- shapes that the code's test finds no different
pub shapes_from_test : (s t : PictureShape) (differ : Bool)
    → differ ≡ not (s.precision == t.precision && (s.width == t.width && (s.height == t.height && pointwise nat_eq s.ids t.ids)))
    → differ ≡ false → s ≡ t
shapes_from_test s t differ is same =
    one_shape s t (four (s.precision == t.precision) (s.width == t.width) (s.height == t.height) (pointwise nat_eq s.ids t.ids)
    (sym is ∙ same))
  where
    four : (a b c d : Bool) → not (a && (b && (c && d))) ≡ false → (a && b && c && d) ≡ true
    four true true true true e = refl
    four true true true false e = absurd cc
    four true true false d e = absurd cc
    four true false c d e = absurd cc
    four false b c d e = absurd cc

-- shapes that the code's test finds different
pub shapes_differ : (s t : PictureShape) (differ : Bool)
    → differ ≡ not (s.precision == t.precision && (s.width == t.width && (s.height == t.height && pointwise nat_eq s.ids t.ids)))
    → differ ≡ true → same_shape s t ≡ false
shapes_differ s t differ is other =
    four (s.precision == t.precision) (s.width == t.width) (s.height == t.height) (pointwise nat_eq s.ids t.ids) (sym is ∙ other)
  where
    four : (a b c d : Bool) → not (a && (b && (c && d))) ≡ true → (a && b && c && d) ≡ false
    four true true true true e = absurd cc
    four true true true false e = refl
    four true true false d e = refl
    four true false c d e = refl
    four false b c d e = refl

-- ---- two lines

-- lines with the same readings have the same one at each place
pub samples_same : (L M : PictureLines) (i : ℕ) (x y : List ℕ) → slice_get (items L.lines) i ≡ Some x → slice_get (items M.lines) i ≡ Some y
    → kept_lines L ≡ kept_lines M → x ≡ y
samples_same L M i x y v v' same =
    let lines = sym (named (line_sources L) (items L.lines)) ∙ ap (map (λ (k : Kept). k.0)) same ∙ named (line_sources M) (items M.lines) in
    let e : Some x ≡ Some y = sym v ∙ ap (λ (xs : List (List ℕ)). slice_get xs i) lines ∙ v' in
    cc

-- lines that are kept alike have the same sources at each place
pub sources_same : (L M : PictureLines) (i : ℕ) (x y ss tt' : List ℕ) → i < length (items L.lines) → i < length (items M.lines)
    → slice_get (items L.lines) i ≡ Some x → slice_get (items M.lines) i ≡ Some y
    → IfSome (slice_get (items L.lines) i) (λ samples. ss ≡ line_sources L samples)
    → IfSome (slice_get (items M.lines) i) (λ samples. tt' ≡ line_sources M samples) → kept_lines L ≡ kept_lines M → ss ≡ tt'
sources_same L M i x y ss tt' lt lt' v v' own own' same =
    let k : Kept = (x, ss) in
    let k' : Kept = (y, tt') in
    ap (λ (k : Kept). k.1) (first_items k k' (drop (i + 1) (kept_lines L)) (drop (i + 1) (kept_lines M))
    (sym (kept_next L i x ss lt v own) ∙ ap (drop i) same ∙ kept_next M i y tt' lt' v' own'))
